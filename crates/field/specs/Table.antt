-- A table of inverses: its rule is proved once, by a test that is computed over the whole table, and used for any of its numbers.
--   Inverses p l             the numbers of l are the inverses modulo p of 1, 2, …, p − 1
--   inverses_from            the test
--   inverses_of              what passes the test is such a table
--   inverse_listed           the inverse of a stands at place a − 1
use Rattle.std.specs.Prelude.{◌≡◌, Bool, true, false, List, [], ◌∷◌, ℕ, zero, suc, ◌+◌, ◌-◌, ◌*◌, ◌%◌, ◌<◌, T, eqb, ltb, length, get_or}
use Rattle.std.proofs.Common.{subst, add-zero, le_of_suc-le-suc, not-suc-le-zero, arith, eqb→eq, ltb→lt}
use Rattle.rules.specs.Inverse.{InverseOf}
use Rattle.laws.specs.BoolLaws.{and_iff}

-- The list holds the inverses modulo p of 1, 2, …, p − 1, in this order.
pub record Inverses (p : ℕ) (l : List ℕ) : Type 0 where
  pub whole : 1 + length l ≡ p
  pub rule : (i : ℕ) → i < length l → InverseOf p (1 + i) (get_or l i 0)

-- The test of one number: b is below p, and a × b = 1 modulo p …
unfoldable pub inverts : ℕ → ℕ → ℕ → Bool
inverts p a b = elim (ltb b p) [ true ↦ eqb (a * b % p) 1 | false ↦ false ]

-- … and of the numbers of a list, for a, a + 1, ….
unfoldable pub inverses_from : ℕ → ℕ → List ℕ → Bool
inverses_from p a [] = true
inverses_from p a (b ∷ bs) = elim (inverts p a b) [ true ↦ inverses_from p (suc a) bs | false ↦ false ]

-- A number that passes its test is the inverse …
inverts_of : (p a b : ℕ) → T (inverts p a b) → InverseOf p a b
unfolding inverts
inverts_of p a b t =
    let (small, exact) = (and_iff (ltb b p) (eqb (a * b % p) 1)).0 t in
    record { below = ltb→lt b p small; one = eqb→eq (a * b % p) 1 exact }

-- … and so is each of a list that passes.
inverse_at : (p a : ℕ) (l : List ℕ) → T (inverses_from p a l) → (i : ℕ) → i < length l → InverseOf p (a + i) (get_or l i 0)
unfolding inverses_from
inverse_at p a [] t i h = absurd (not-suc-le-zero h)
inverse_at p a (b ∷ bs) t zero h = rw add-zero (inverts_of p a b ((and_iff (inverts p a b) (inverses_from p (suc a) bs)).0 t).0)
inverse_at p a (b ∷ bs) t (suc i) h =
    subst (λ x. InverseOf p x (get_or bs i 0)) (omega arith)
    (inverse_at p (suc a) bs ((and_iff (inverts p a b) (inverses_from p (suc a) bs)).0 t).1 i (le_of_suc-le-suc h))

-- What passes the test is a table of the inverses …
pub inverses_of : (p : ℕ) (l : List ℕ) → T (inverses_from p 1 l) → 1 + length l ≡ p → Inverses p l
inverses_of p l t whole = record { whole = whole; rule = inverse_at p 1 l t }

-- … and in such a table the inverse of a stands at place a − 1.
pub inverse_listed : {p a r : ℕ} {l : List ℕ} → Inverses p l → 0 < a → a < p → r ≡ get_or l (a - 1) 0 → InverseOf p a r
inverse_listed {p} {a} {r} {l} table positive below e =
    rw e (subst (λ x. InverseOf p x (get_or l (a - 1) 0)) (omega arith) (table.rule (a - 1) (omega (arith, table.whole))))
