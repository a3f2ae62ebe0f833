-- From the numbers of `Plain` to the polynomials over K of the theory: sums and products of numbers modulo p are those of K, and lists
-- of numbers stand for all polynomials.
--   red_times                products
--   poly_list, polynomial_poly_list               a list for each polynomial
use Rattle.std.specs.Prelude.{◌≡◌, List, [], ℕ, suc, ◌-◌, ◌*◌, ◌≤◌, ◌<◌}
use Rattle.std.proofs.Math.Path.{sym, ap, fun_ext}
use Rattle.std.proofs.Common.{subst, ◌∙◌, lt_of_not-le}
use Rattle.std.proofs.Math.Decide.{dec_le}
use Rattle.std.proofs.Math.ListN.{get_or, get_or-eq_default}
use Rattle.algebra.specs.Residue.{K, red, red_mul, red_onto}
use Rattle.algebra.specs.Sum.{sum_cong}
use Rattle.algebra.specs.Series.{convolve, convolve_sum}
use Rattle.algebra.specs.Polynomial.{Poly}
use Rattle.rules.specs.Matrices.{polynomial}
use Rattle.rules.specs.Table.{table, length_table, get_or_table}
use Rattle.laws.specs.SumLaws.{red_sum}
use Rattle.meaning.specs.Plain.{times}

module _ (p : ℕ) where
  -- The residue of a product of polynomials is that of the product, …
  pub red_times : (f g : List ℕ) (k : ℕ) → red p (times f g k) ≡ convolve (K p) (polynomial p f).series (polynomial p g).series k
  unfolding times
  red_times f g k =
      red_sum p (suc k) (λ i. get_or f i 0 * get_or g (k - i) 0)
      ∙ sum_cong (K p) (suc k) (λ i. red p (get_or f i 0 * get_or g (k - i) 0)) (λ i. (K p).◌⊗◌ (red p (get_or f i 0)) (red p (get_or g (k - i) 0)))
      (λ i b. red_mul p (get_or f i 0) (get_or g (k - i) 0))
      ∙ sym (convolve_sum (K p) (polynomial p f).series (polynomial p g).series k)

module _ (p : ℕ) where
  -- The coefficients of a polynomial over K as a list of numbers, …
  unfoldable pub poly_list : Poly (K p) → List ℕ
  poly_list f = table f.bound (λ k. (f.series k).0)

  -- … of which it is the polynomial.
  pub polynomial_poly_list : (f : Poly (K p)) → (polynomial p (poly_list f)).series ≡ f.series
  unfolding poly_list
  polynomial_poly_list f = fun_ext (λ k. elim (dec_le f.bound k) [
    | yes le ↦
        ap (red p) (get_or-eq_default (poly_list f) 0 (subst (λ n. n ≤ k) (sym (length_table f.bound (λ k. (f.series k).0))) le))
        ∙ sym (f.below k le)
    | no gt ↦ ap (red p) (get_or_table f.bound (λ k. (f.series k).0) 0 k (lt_of_not-le gt)) ∙ red_onto p (f.series k)
  ])

  -- The m polynomials of a row, each as a list.
  abbrev pub row_list : ℕ → (ℕ → Poly (K p)) → List (List ℕ)
  row_list m v = table m (λ i. poly_list (v i))

  -- They are the row's polynomials.
  pub polynomial_row_list : (m : ℕ) (v : ℕ → Poly (K p)) (i : ℕ) → i < m → (polynomial p (get_or (row_list m v) i [])).series ≡ (v i).series
  polynomial_row_list m v i h = ap (λ l. (polynomial p l).series) (get_or_table m (λ i. poly_list (v i)) [] i h) ∙ polynomial_poly_list (v i)
