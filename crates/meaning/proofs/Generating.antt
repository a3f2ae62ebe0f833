-- The generation sentence of `Plain`, which speaks of lists of numbers, is that of the theory, which speaks of polynomials over K.
--   zero_below_iff           a coefficient of v·F is 0 modulo p
--   lists_iff_polynomials    it says the same as that about lists
use Rattle.std.specs.Prelude.{◌≡◌, refl, ◌↔◌, List, []}
use Rattle.std.proofs.Math.Path.{sym, ap}
use Rattle.std.proofs.Common.{◌∙◌}
use Prim.Native.Nat.{ℕ, ◌%◌, ◌<◌}
use Rattle.std.proofs.Math.ListN.{get_or}
use Rattle.algebra.specs.Residue.{K, red, red_eq, red_zero_iff}
use Rattle.algebra.specs.Series.{series_ext}
use Rattle.algebra.proofs.Series.{Series}
use Rattle.algebra.specs.Matrix.{vmul, vmul_cong}
use Rattle.algebra.proofs.PolyMatrix.{coordinates}
use Rattle.algebra.proofs.Generation.{Generated}
use Rattle.rules.specs.Claim.{Claim}
use Rattle.rules.specs.Matrices.{at, polynomial}
use Rattle.rules.specs.Table.{length_table}
use Rattle.meaning.specs.Plain.{row_times_column, column_P, column_F, Generates}
use Rattle.meaning.specs.Bridge.{poly_list, row_list, polynomial_row_list}
use Rattle.meaning.proofs.Bridge.{red_row_times_column}
use Rattle.meaning.specs.Generating.{field_of, series_F, series_P, Polynomials}

module _ (c : Claim) (positive : 0 < c.problem.p) where
  -- A coefficient of v·F is 0 modulo p exactly if it is 0 in K.
  pub zero_below_iff : (v : ℕ → List ℕ) (j k : ℕ)
      → (row_times_column c.problem.m v (column_F c j) k % c.problem.p ≡ 0)
      ↔ (vmul (Series (field_of c)) c.problem.m (λ i. (polynomial c.problem.p (v i)).series) (series_F c) j k ≡ (field_of c).𝟘)
  zero_below_iff v j k =
      (λ e. sym same ∙ (red_zero_iff c.problem.p positive _).1 e, λ e. (red_zero_iff c.problem.p positive _).0 (same ∙ e))
    where
      same : red c.problem.p (row_times_column c.problem.m v (column_F c j) k)
          ≡ vmul (Series (field_of c)) c.problem.m (λ i. (polynomial c.problem.p (v i)).series) (series_F c) j k
      same = red_row_times_column c.problem.p c.problem.m v (λ i j. at c.problem.F j i) j k

  -- The coefficient at k of w·(column j of P), in K.
  combination : (w : ℕ → List ℕ) (j k : ℕ)
      → red c.problem.p (row_times_column c.problem.m w (column_P c j) k)
      ≡ vmul (Series (field_of c)) c.problem.m (λ i. (polynomial c.problem.p (w i)).series) (series_P c) j k
  combination w j k = red_row_times_column c.problem.p c.problem.m w (λ i j. at c.answer.P i j) j k

  lists_of_polynomials : Polynomials c → Generates c
  unfolding Generated
  lists_of_polynomials generated v long zero =
      let p : ℕ = c.problem.p in
      let m : ℕ = c.problem.m in
      let (w, same) = generated (λ i. polynomial p (get_or v i [])) (λ j k hj hk. (zero_below_iff (λ i. get_or v i []) j k).0 (zero j k hj hk)) in (
        row_list p m w,
        length_table m (λ i. poly_list p (w i)),
        λ j k hj.
            (red_eq p positive _ _).0
            (ap (λ f. f k) (same j hj)
            ∙ sym (combination (λ i. get_or (row_list p m w) i []) j k
            ∙ ap (λ f. f k) (vmul_cong (Series (K p)) m (λ i. (polynomial p (get_or (row_list p m w) i [])).series) (coordinates (K p) w)
            (series_P c) (series_P c) j
            (λ i h. polynomial_row_list p m w i h) (λ i h. refl)))),
      )

  polynomials_of_lists : Generates c → Polynomials c
  unfolding Generated
  polynomials_of_lists generated v zero =
      let p : ℕ = c.problem.p in
      let m : ℕ = c.problem.m in
      let (w, long, same) = generated (row_list p m v) (length_table m (λ i. poly_list p (v i))) (λ j k hj hk.
      (zero_below_iff (λ i. get_or (row_list p m v) i []) j k).1
      (ap (λ f. f k) (vmul_cong (Series (K p)) m (λ i. (polynomial p (get_or (row_list p m v) i [])).series) (coordinates (K p) v)
      (series_F c) (series_F c) j
      (λ i h. polynomial_row_list p m v i h) (λ i h. refl))
      ∙ zero j k hj hk)) in (
        (λ i. polynomial p (get_or w i [])),
        λ j hj.
            sym (polynomial_row_list p m v j hj)
            ∙ series_ext (K p) (λ k. (red_eq p positive _ _).1 (same j k hj) ∙ combination (λ i. get_or w i []) j k),
      )

  -- The sentence about lists says the same as that about polynomials.
  pub lists_iff_polynomials : Generates c ↔ Polynomials c
  lists_iff_polynomials = (polynomials_of_lists, lists_of_polynomials)
