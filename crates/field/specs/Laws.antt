-- The operations modulo p, as the functions of this crate compute them on numbers, carried to the residues.
--   remainder_below          a remainder is below p
--   red_of_add, red_of_sub, red_of_neg, red_of_mul    the residue of each result
--   red_of_inverse           a residue times that of the inverse
--   answered_of              the answer of `inverse_mod` is a number: it is the inverse
--   answered_none            it is none: 0 was asked for
-- and what their proofs share:
--   product_fits             a product of two numbers below 2 ^ 32 is below 2 ^ 64
--   mod_once                 a remainder by one subtraction
use Rattle.std.specs.Prelude.{◌≡◌, ℕ, Option, Some, None, ◌+◌, ◌-◌, ◌*◌, ◌%◌, ◌^◌, ◌≤◌, ◌<◌}
use Rattle.std.proofs.Common.{sym, ap, ◌∙◌, lt_of_le_of_lt, mod-lt, mod-eq_of_lt, mul-le-mul, arith, lit<, Fits}
use Rattle.std.proofs.Math.Nat.{mod-eq-sub-mod}
use Rattle.std.specs.Int.{w64}
use Rattle.algebra.specs.Prime.{Prime}
use Rattle.algebra.specs.Residue.{K, red, red_mod, red_add, red_mul, red_neg, red_mul_one_iff}
use Rattle.rules.specs.Inverse.{inverse, InverseOf}
use Rattle.laws.specs.InverseLaws.{inverse_none_iff, inverse_some_iff}

-- A product of two numbers of 32 bits fits 64 bits.
pub product_fits : (a b : ℕ) → a < 2 ^ 32 → b < 2 ^ 32 → Fits w64 (a * b)
product_fits a b ha hb = record { fits = lt_of_le_of_lt (mul-le-mul {n₂ = 2 ^ 32 - 1} {m₂ = 2 ^ 32 - 1} (omega arith) (omega arith)) (lit< tt) }

-- A number from p on, and below twice p, is reduced by one subtraction.
pub mod_once : (p x : ℕ) → p ≤ x → x - p < p → x % p ≡ x - p
mod_once p x from below = mod-eq-sub-mod from ∙ mod-eq_of_lt below

-- What is computed as a remainder is below p.
pub remainder_below : (p x r : ℕ) → 0 < p → r ≡ x % p → r < p
remainder_below p x r positive e = rw e (mod-lt x positive)

module _ (p : ℕ) where
  open K p use {𝟘, 𝟙, ◌⊕◌, ◌⊗◌, ⊖◌}

  infixl 60 ◌⊕◌
  infixl 70 ◌⊗◌
  infix 80 ⊖◌
  -- A sum modulo p has the residue of the sum …
  pub red_of_add : (a b r : ℕ) → r ≡ (a + b) % p → red p r ≡ red p a ⊕ red p b
  red_of_add a b r e = ap (red p) e ∙ red_mod p (a + b) ∙ red_add p a b

  -- … a difference that of the difference …
  pub red_of_sub : (a b r : ℕ) → b ≤ p → r ≡ (a + (p - b)) % p → red p r ≡ red p a ⊕ ⊖ red p b
  red_of_sub a b r h e = red_of_add a (p - b) r e ∙ ap (λ x. red p a ⊕ x) (red_neg p b h)

  -- … a negative that of the negative …
  pub red_of_neg : (a r : ℕ) → a ≤ p → r ≡ (p - a) % p → red p r ≡ ⊖ red p a
  red_of_neg a r h e = ap (red p) e ∙ red_mod p (p - a) ∙ red_neg p a h

  -- … a product that of the product …
  pub red_of_mul : (a b r : ℕ) → r ≡ a * b % p → red p r ≡ red p a ⊗ red p b
  red_of_mul a b r e = ap (red p) e ∙ red_mod p (a * b) ∙ red_mul p a b

  -- … and with the inverse the product is 1.
  pub red_of_inverse : Prime p → (a r : ℕ) → InverseOf p a r → red p a ⊗ red p r ≡ 𝟙
  red_of_inverse prime a r h = (red_mul_one_iff p prime.two_le a r).1 h.one

-- Where the answer is a number, it is the inverse of what was asked for …
pub answered_of : (p : ℕ) → Prime p → (a b : ℕ) (r : Option ℕ) → r ≡ inverse p a → r ≡ Some b → InverseOf p a b
answered_of p prime a b r h e = (inverse_some_iff p prime a b).0 (sym h ∙ e)

-- … and where it is none, 0 was asked for.
pub answered_none : (p : ℕ) → Prime p → (a : ℕ) → a < p → (r : Option ℕ) → r ≡ inverse p a → r ≡ None → a ≡ 0
answered_none p prime a small r h e = sym (mod-eq_of_lt small) ∙ (inverse_none_iff p prime a).0 (sym h ∙ e)
