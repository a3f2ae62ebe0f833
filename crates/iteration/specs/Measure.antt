-- The lengths of the entries, as the code measures them.
--   Measured                 the length of one entry: a number other than 0 stands before it, and zeros from there on
--   Lengths, lengths_start, lengths_more, lengths_all        all of them
--   measured_length          it is that of the list with those coefficients
use Rattle.std.specs.Prelude.{◌≡◌, ◌≢◌, List, ℕ, pred, ◌+◌, ◌-◌, ◌/◌, ◌%◌, ◌≤◌, ◌<◌, length, get_or, set}
use Rattle.std.proofs.Common.{sym, subst, ◌∙◌, below_more, length-set, get_or-set_same, get_or-set_other}
use Rattle.std.proofs.Math.Logic.{by_cases}
use Rattle.std.proofs.Math.Decide.{dec_lt}
use native.Mathlib.Omega.{arith}
use Rattle.std.proofs.Math.ListN.{get_or-eq_default}
use Rattle.rules.specs.Sizes.{most_rows, most_length}
use Rattle.layout.specs.Flat.{square, square_place, length_at}
use Rattle.pivots.specs.Rows.{place_inside, row_of_place, column_of_place}
use Rattle.stepping.specs.Next.{coefficient_at}

pub record Measured (entries : List ℕ) (i j r : ℕ) : Type 0 where
  pub most : r ≤ most_length
  pub zeros : (t : ℕ) → r ≤ t → t < most_length → coefficient_at entries i j t ≡ 0
  pub last : 0 < r → coefficient_at entries i j (r - 1) ≢ 0

-- The first n lengths were measured.
pub record Measuring (entries : List ℕ) (n : ℕ) (r : List ℕ) : Type 0 where
  pub full : length r ≡ square
  pub measured : (a : ℕ) → a < n → Measured entries (a / most_rows) (a % most_rows) (get_or r a 0)

pub record Lengths (entries r : List ℕ) : Type 0 where
  pub full : length r ≡ square
  pub measured : (i j : ℕ) → i < most_rows → j < most_rows → Measured entries i j (length_at r i j)

module _ (entries : List ℕ) where
  pub lengths_start : (r : List ℕ) → length r ≡ square → Measuring entries 0 r
  lengths_start r full = record { full = full; measured = λ a h. absurd (omega arith) }

  pub lengths_more : (n : ℕ) (r : List ℕ) (x : ℕ) → n < square → Measured entries (n / most_rows) (n % most_rows) x → Measuring entries n r
      → Measuring entries (n + 1) (set r n x)
  lengths_more n r x hn m so_far = record {
    full = length-set r n x ∙ so_far.full;
    measured = below_more (λ a. Measured entries (a / most_rows) (a % most_rows) (get_or (set r n x) a 0)) n
        (λ a h. subst (Measured entries (a / most_rows) (a % most_rows)) (sym (get_or-set_other r n a x 0 (λ z. absurd (omega arith)))) (so_far.measured a h))
        (subst (Measured entries (n / most_rows) (n % most_rows)) (sym (get_or-set_same r n x 0 (subst (λ k. n < k) (sym so_far.full) hn))) m);
  }

  pub lengths_all : (r : List ℕ) → Measuring entries square r → Lengths entries r
  lengths_all r h = record {
    full = h.full;
    measured = λ i j hi hj.
        subst (λ i'. Measured entries i' j (length_at r i j)) (row_of_place i j hj)
        (subst (λ j'. Measured entries (square_place i j / most_rows) j' (length_at r i j)) (column_of_place i j hj) (h.measured (square_place i j) (place_inside i j hi hj)));
  }

  -- A list with these coefficients, no longer than an entry may be, that ends in another number than 0, has that length.
  pub measured_length : (i j r : ℕ) (l : List ℕ) → Measured entries i j r → length l ≤ most_length
      → ((t : ℕ) → t < most_length → coefficient_at entries i j t ≡ get_or l t 0) → (0 < length l → get_or l (pred (length l)) 0 ≢ 0) → r ≡ length l
  measured_length i j r l m short same ends = by_cases (dec_lt r (length l))
      (λ h. absurd (ends (omega arith) (sym (same (pred (length l)) (omega arith)) ∙ m.zeros (pred (length l)) (omega arith) (omega arith))))
      (λ nh. by_cases (dec_lt (length l) r)
      (λ h. absurd (m.last (omega arith) (same (r - 1) (omega (arith, m.most)) ∙ get_or-eq_default l 0 (omega arith))))
      (λ nh'. omega arith))
