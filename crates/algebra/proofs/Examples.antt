-- Inverses, determinants, a division by a root and how many roots there are, in numbers, each by computation.
use Rattle.std.specs.Prelude.{◌≡◌, refl, [], ◌∷◌, ℕ, zero, suc, get_or, pos}
use Rattle.std.proofs.Common.{arith}
use Rattle.algebra.specs.Ring.{sign}
use Rattle.algebra.specs.Sum.{skip, sum}
use Rattle.algebra.specs.Residue.{red, K}
use Rattle.algebra.specs.Series.{series_ext, convolve, constant}
use Rattle.algebra.proofs.Series.{Series}
use Rattle.algebra.specs.Polynomial.{Poly, Below, below_mono, poly_list}
use Rattle.algebra.specs.Evaluation.{ev, value}
use Rattle.algebra.specs.Root.{quo}
use Rattle.algebra.proofs.Root.{poly_quo}
use Rattle.algebra.specs.Det.{det}
use Rattle.algebra.proofs.PolyMatrix.{entries}
use Rattle.algebra.specs.Degree.{AtMost}
use Rattle.algebra.proofs.Degree.{det_degree}
use Rattle.algebra.specs.Examples.{residues}

-- The rows (6 + 6X, 1) and (6X, X), over the residues modulo 7.
basis : ℕ → ℕ → Poly (K 7)
basis i j = poly_list (K 7) (residues 7 (get_or (get_or (((6 ∷ 6 ∷ []) ∷ (1 ∷ []) ∷ []) ∷ ((0 ∷ 6 ∷ []) ∷ (0 ∷ 1 ∷ []) ∷ []) ∷ []) i []) j []))

-- The entries have degree at most 1 …
basis_bound : (i j : ℕ) → Below (K 7) 2 (basis i j).series
unfolding basis
basis_bound zero zero = (basis 0 0).below
basis_bound zero (suc zero) = below_mono (K 7) (basis 0 1).series (omega arith) (basis 0 1).below
basis_bound zero (suc (suc j)) = λ k b. refl
basis_bound (suc zero) zero = (basis 1 0).below
basis_bound (suc zero) (suc zero) = (basis 1 1).below
basis_bound (suc zero) (suc (suc j)) = λ k b. refl
basis_bound (suc (suc i)) j = λ k b. refl

-- … so their determinant has degree at most 2. It is 6X²: the terms 6X and −6X cancel.
det_of_basis : det (Series (K 7)) 2 (entries (K 7) basis) ≡ (poly_list (K 7) (residues 7 (0 ∷ 0 ∷ 6 ∷ []))).series
unfolding det sum sign skip convolve constant red basis AtMost
det_of_basis = series_ext (K 7) (elim [
  | zero ↦ refl
  | suc zero ↦ refl
  | suc (suc zero) ↦ refl
  | suc (suc (suc k)) ↦ (det_degree (K 7) 2 (λ i. pos 1) (λ j. pos 0) (entries (K 7) basis) (λ i j hi hj. basis_bound i j)).0 (suc (suc (suc k))) (omega arith)
])

-- X³ − 1, over the residues modulo 101.
cube_less_one : Poly (K 101)
cube_less_one = poly_list (K 101) (residues 101 (100 ∷ 0 ∷ 0 ∷ 1 ∷ []))

-- It has the root 1 …
root_one : value (K 101) (red 101 1) cube_less_one ≡ red 101 0
unfolding ev red cube_less_one
root_one = refl

-- … and the quotient by X − 1 is 1 + X + X².
divided_by_root : (poly_quo (K 101) (red 101 1) cube_less_one).series ≡ (poly_list (K 101) (residues 101 (1 ∷ 1 ∷ 1 ∷ []))).series
unfolding ev quo red cube_less_one
divided_by_root = series_ext (K 101) (elim [
  | zero ↦ refl
  | suc zero ↦ refl
  | suc (suc zero) ↦ refl
  | suc (suc (suc k)) ↦ (poly_quo (K 101) (red 101 1) cube_less_one).below (suc (suc (suc k))) (omega arith)
])
