-- Generation where the moduli are powers of X: the rows of P, each of whose products with F vanishes below the orders, generate every
-- row of polynomials whose product does exactly if the determinant of P is a nonzero constant times a power of X and the rows of
-- [P(0) C] are independent, where C holds the coefficients at the orders.
--   Monomial f               f is a nonzero constant times a power of X
use Rattle.std.specs.Prelude.{◌≡◌, ◌≢◌, List, ℕ, replicate}
use Rattle.algebra.specs.Ring.{CommRing}

module _ (R : CommRing) where
  open R use {C, 𝟘, 𝟙, ◌⊗◌, mul_one}

  infixl 70 ◌⊗◌
  -- f is a nonzero constant times a power of X: one coefficient is not 0, and no other.
  abbrev pub Monomial : (ℕ → C) → Type 0
  Monomial f = (e : ℕ) × (f e ≢ 𝟘) × ((k : ℕ) → k ≢ e → f k ≡ 𝟘)

  -- The modulus X^d, as a product of linear factors.
  abbrev pub order_roots : (ℕ → ℕ) → ℕ → List C
  order_roots d j = replicate (d j) 𝟘
