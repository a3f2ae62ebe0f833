-- From the numbers of `Plain` to the polynomials over K of the theory: sums and products of numbers modulo p are those of K, and lists
-- of numbers stand for all polynomials.
--   red_row_times_column               products
use Rattle.std.specs.Prelude.{◌≡◌, List, ℕ, pos}
use Rattle.std.proofs.Math.Path.{sym}
use Rattle.std.proofs.Common.{◌∙◌}
use Rattle.algebra.specs.Residue.{K, red}
use Rattle.algebra.specs.Sum.{sum_cong}
use Rattle.algebra.specs.Series.{convolve}
use Rattle.algebra.proofs.Series.{Series}
use Rattle.algebra.specs.Matrix.{vmul}
use Rattle.algebra.specs.Degree.{coefficient}
use Rattle.algebra.proofs.Degree.{coefficient_sum}
use Rattle.rules.specs.Matrices.{polynomial}
use Rattle.laws.specs.SumLaws.{red_sum}
use Rattle.meaning.specs.Plain.{times, row_times_column}
use Rattle.meaning.specs.Bridge.{red_times}

module _ (p : ℕ) where
  -- … and of a row times a column that of the row times the matrix.
  pub red_row_times_column : (m : ℕ) (v : ℕ → List ℕ) (A : ℕ → ℕ → List ℕ) (j k : ℕ)
      → red p (row_times_column m v (λ i. A i j) k) ≡ vmul (Series (K p)) m (λ i. (polynomial p (v i)).series) (λ i j. (polynomial p (A i j)).series) j k
  unfolding row_times_column vmul coefficient
  red_row_times_column m v A j k =
      red_sum p m (λ i. times (v i) (A i j) k)
      ∙ sum_cong (K p) m (λ i. red p (times (v i) (A i j) k)) (λ i. convolve (K p) (polynomial p (v i)).series (polynomial p (A i j)).series k)
      (λ i b. (red_times p) (v i) (A i j) k)
      ∙ sym (coefficient_sum (K p) (pos k) m (λ i. convolve (K p) (polynomial p (v i)).series (polynomial p (A i j)).series))
