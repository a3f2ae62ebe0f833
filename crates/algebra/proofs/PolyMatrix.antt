-- Rows and matrices of polynomials: their series, their values at a point, and products, determinants and adjugates as polynomials.
--   coordinates v, entries P the polynomials of a row or a matrix as series
--   poly_vmul, poly_det, poly_adjugate, poly_unit   the operations of `Matrix`, `Det` and `Adjugate`, with bounds
--   evaluates_vmul           a product evaluates to the product of the values
use Rattle.std.specs.Prelude.{ℕ, ◌<◌}
use Rattle.algebra.specs.Ring.{CommRing}
use Rattle.algebra.proofs.Series.{Series}
use Rattle.algebra.specs.Polynomial.{Poly, Bounded, poly_bounded, bounded_poly}
use Rattle.algebra.proofs.Polynomial.{bounded}
use Rattle.algebra.specs.Evaluation.{Evaluates, evaluates_value}
use Rattle.algebra.proofs.Evaluation.{evaluation}
use Rattle.algebra.specs.Matrix.{Row, Matrix, vmul, unit, vmul_related, unit_related}
use Rattle.algebra.specs.Det.{det}
use Rattle.algebra.proofs.Det.{det_related}
use Rattle.algebra.specs.Adjugate.{adjugate}
use Rattle.algebra.proofs.Adjugate.{adjugate_related}
use Rattle.algebra.specs.PolyMatrix.{values}

module _ (R : CommRing) where
  open R use {C}

  -- The polynomials of a row as series …
  abbrev pub coordinates : (ℕ → Poly R) → Row (Series R)
  coordinates v i = (v i).series

  -- … and those of a matrix.
  abbrev pub entries : (ℕ → ℕ → Poly R) → Matrix (Series R)
  entries P i j = (P i j).series

  -- The product of a row and a matrix.
  abbrev pub poly_vmul : ℕ → (ℕ → Poly R) → (ℕ → ℕ → Poly R) → ℕ → Poly R
  poly_vmul m v P j =
      poly_bounded R (vmul (Series R) m (coordinates v) (entries P) j)
      (vmul_related (Series R) (Series R) (λ f g. Bounded R f) (bounded R) m (coordinates v) (coordinates v) (entries P) (entries P) j
      (λ i b. bounded_poly R (v i)) (λ i b. bounded_poly R (P i j)))

  -- The determinant.
  abbrev pub poly_det : ℕ → (ℕ → ℕ → Poly R) → Poly R
  poly_det m P =
      poly_bounded R (det (Series R) m (entries P))
      (det_related (Series R) (Series R) (λ f g. Bounded R f) (bounded R) m (entries P) (entries P) (λ i j hi hj. bounded_poly R (P i j)))

  -- The adjugate.
  abbrev pub poly_adjugate : ℕ → (ℕ → ℕ → Poly R) → ℕ → ℕ → Poly R
  poly_adjugate m P i j =
      poly_bounded R (adjugate (Series R) m (entries P) i j)
      (adjugate_related (Series R) (Series R) (λ f g. Bounded R f) (bounded R) m (entries P) (entries P) (λ i j. bounded_poly R (P i j)) i j)

  -- The identity matrix.
  abbrev pub poly_unit : ℕ → ℕ → Poly R
  poly_unit i j = poly_bounded R (unit (Series R) i j) (unit_related (Series R) (Series R) (λ f g. Bounded R f) (bounded R) i j)

  -- The product of a row that evaluates to u and a matrix evaluates to the product of u and the values.
  pub evaluates_vmul : (m : ℕ) (a : C) (v : ℕ → Poly R) (u : Row R) (P : ℕ → ℕ → Poly R) (j : ℕ) → ((i : ℕ) → i < m → Evaluates R a (v i).series (u i))
      → Evaluates R a (vmul (Series R) m (coordinates v) (entries P) j) (vmul R m u (values R a P) j)
  evaluates_vmul m a v u P j h =
      vmul_related (Series R) R (Evaluates R a) (evaluation R a) m (coordinates v) u (entries P) (values R a P) j h (λ i b. evaluates_value R a (P i j))
