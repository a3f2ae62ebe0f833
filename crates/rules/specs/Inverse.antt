-- The inverse in K. Document 01: "of any other a it is the b with a × b = 1"; and of 0, document 02, L10, in place of document 01: "The
-- inverse of 0 shall have an answer of its own, "none"."
--   inverse p a              the inverse of a, or none
--   InverseOf p a b          b is "the b with a × b = 1"
use Rattle.std.specs.Prelude.{◌≡◌, ℕ, ◌*◌, ◌%◌, ◌<◌, eqb}
use Rattle.std.specs.Prelude.{Option}
use Rattle.rules.specs.Conditions.{first_below}

-- The b below p with a × b = 1 modulo p, if there is one.
unfoldable pub inverse : ℕ → ℕ → Option ℕ
inverse p a = first_below p (λ b. eqb (a * b % p) 1)

-- b is a number of K, and its product with a is 1.
pub record InverseOf (p a b : ℕ) : Type 0 where
  pub below : b < p
  pub one : a * b % p ≡ 1
