-- Rows and matrices of polynomials: their series, their values at a point, and products, determinants and adjugates as polynomials.
--   values a P               the values of the entries at a
use Rattle.std.specs.Prelude.{ℕ}
use Rattle.algebra.specs.Ring.{CommRing}
use Rattle.algebra.specs.Polynomial.{Poly}
use Rattle.algebra.specs.Evaluation.{value}
use Rattle.algebra.specs.Matrix.{Matrix}

module _ (R : CommRing) where
  open R use {C}

  -- The values of the entries at a.
  abbrev pub values : C → (ℕ → ℕ → Poly R) → Matrix R
  values a P i j = value R a (P i j)
