-- Searches from the front: what the rules' `some_below` and `first_place` come to where every earlier number fails the test.
--   Fails, First             all numbers below n fail; the first that passes, or n
--   some_below_fails, some_below_hit         what `some_below` then says
--   first_place_fails, first_place_hit       what `first_place` then finds
--   first_place_cong         only the tests of numbers in range count
use Rattle.std.specs.Prelude.{◌≡◌, refl, Bool, true, false, ℕ, ◌≤◌, ◌<◌}
use Rattle.std.proofs.Common.{◌∙◌, arith}
use Rattle.std.specs.Prelude.{Option, None, Some}
use Rattle.rules.specs.Conditions.{some_below, first_place}
use Rattle.laws.specs.SearchLaws.{some_below_iff, some_below_false_iff, first_place_none, first_place_some}

-- All numbers below n fail.
abbrev pub Fails : ℕ → (ℕ → Bool) → Type 0
Fails n test = (i : ℕ) → i < n → test i ≡ false

pub some_below_fails : (n : ℕ) (test : ℕ → Bool) → Fails n test → some_below n test ≡ false
some_below_fails n test h = (some_below_false_iff n test).1 h

pub some_below_hit : (n : ℕ) (test : ℕ → Bool) (i : ℕ) → i < n → test i ≡ true → some_below n test ≡ true
some_below_hit n test i h e = (some_below_iff n test).1 (i, h, e)

-- The number r is the first below n that passes the test, or n.
pub record First (n : ℕ) (test : ℕ → Bool) (r : ℕ) : Type 0 where
  pub at_most : r ≤ n
  pub before : Fails r test
  pub passes : r < n → test r ≡ true

-- No row has a fault …
pub first_place_fails : (m n : ℕ) (fault : ℕ → ℕ → Bool) → ((i : ℕ) → i < m → Fails n (fault i)) → first_place m n fault ≡ None
first_place_fails m n fault h = (first_place_none m n fault).1 (λ i j hi hj. h i hi j hj)

-- … or row i is the first, and column j the first in it.
pub first_place_hit : (m n : ℕ) (fault : ℕ → ℕ → Bool) (i j : ℕ) → i < m → ((r : ℕ) → r < i → Fails n (fault r)) → j < n → First n (fault i) j
    → first_place m n fault ≡ Some (i, j)
first_place_hit m n fault i j hi rows hj first =
    (first_place_some m n fault i j).1
    (record { row = hi; column = hj; faulty = first.passes hj; rows_before = λ a b ha hb. rows a ha b hb; columns_before = first.before })

-- What the search finds depends on the tests of the numbers that count alone.
pub first_place_cong : (m n : ℕ) (s t : ℕ → ℕ → Bool) → ((i j : ℕ) → i < m → j < n → s i j ≡ t i j) → first_place m n s ≡ first_place m n t
first_place_cong m n s t h = go (first_place m n t) refl
  where
    go : (o : Option (ℕ × ℕ)) → first_place m n t ≡ o → first_place m n s ≡ o
    go None e = (first_place_none m n s).1 (λ i j hi hj. h i j hi hj ∙ (first_place_none m n t).0 e i j hi hj)
    go (Some (i, j)) e =
        let f = (first_place_some m n t i j).0 e in
        (first_place_some m n s i j).1
        (record {
          row = f.row;
          column = f.column;
          faulty = h i j f.row f.column ∙ f.faulty;
          rows_before = λ a b ha hb. h a b (omega (arith, f.row)) hb ∙ f.rows_before a b ha hb;
          columns_before = λ b hb. h i b f.row (omega (arith, f.column)) ∙ f.columns_before b hb;
        })
