-- The division of a polynomial by X − a, and what a root is: X − a divides a polynomial exactly if its value at a is 0. Division by
-- a power of X beside it: the case of the root 0.
--   lin a                    X − a
--   quo d a f                the quotient by X − a of f, of which d is a bound
use Rattle.std.specs.Prelude.{◌≡◌}
use Rattle.std.proofs.Math.Path.{refl}
use Rattle.std.proofs.Common.{le_of_suc-le-suc, not-suc-le-zero, le_trans, le-add_left}
use Prim.Native.Nat.{ℕ, zero, suc, ◌+◌}
use Rattle.algebra.specs.Ring as Ring
use Rattle.algebra.specs.Ring.{CommRing, Decides, Cancels, Nontrivial, power}
use Rattle.algebra.specs.Series.{series_ext, tail, constant, X}
use Rattle.algebra.specs.Polynomial.{Below, below_constant, Poly}
use Rattle.algebra.specs.Evaluation.{ev}

module _ (R : CommRing) where
  open R use {C, 𝟘, 𝟙, ◌⊕◌, ◌⊗◌, ⊖◌, add_zero, add_neg}

  infixl 60 ◌⊕◌
  infixl 70 ◌⊗◌
  infix 80 ⊖◌
  -- X − a.
  unfoldable pub lin : C → ℕ → C
  lin a zero = ⊖ a
  lin a (suc n) = constant R 𝟙 n

  -- At the root 0 it is X.
  pub lin_zero : lin 𝟘 ≡ X R
  unfolding lin X
  lin_zero = series_ext R (elim [ zero ↦ Ring.neg_zero R | suc n ↦ refl ])

  -- It has the bound 2.
  pub below_lin : (a : C) → Below R 2 (lin a)
  unfolding lin
  below_lin a zero b = absurd (not-suc-le-zero b)
  below_lin a (suc k) b = below_constant R 𝟙 k (le_of_suc-le-suc b)

  -- The quotient by X − a of a series of which d is a bound.
  unfoldable pub quo : ℕ → C → (ℕ → C) → ℕ → C
  quo d a f zero = ev R d a (tail R f)
  quo d a f (suc k) = quo d a (tail R f) k

  -- The rest of the coefficients of a polynomial, from d on.
  abbrev pub poly_drop : ℕ → Poly R → Poly R
  poly_drop d f = record { series = λ n. f.series (d + n); bound = f.bound; below = λ k b. f.below (d + k) (le_trans b (le-add_left k d)) }
