-- The row degree is the degree of the row for the shifts. `Conditions` takes it from the lengths of the entries; that it is the degree
-- rests on the last coefficient of an entry, which is not 0 in K.
--   row_degree_iff           the row has a coefficient other than 0 at its row degree, and none above
--   row_degree_none_iff      a row of zeros has no row degree, and no other row
--   zero_row_verdict         a row that has none gets the verdict 9
use Rattle.std.specs.Prelude.{◌≡◌, refl, ◌≢◌, ◌↔◌, List, ℕ, suc, pred, ◌<◌, ℤ, pos, ◌-ℤ◌, length, get_or}
use Rattle.std.proofs.Common.{sym, ap, ◌∙◌, mod-eq_of_lt, arith}
use Rattle.std.proofs.Math.Path.{subst}
use Rattle.std.specs.Prelude.{Option, None, Some}
use Rattle.std.proofs.Math.IntN.{+ℤ-neg_ℤ_cancel}
use Rattle.algebra.specs.Residue.{K, red, red_zero_iff}
use Rattle.algebra.specs.Degree.{coefficient, coefficient_zeros}
use Rattle.algebra.proofs.Predictable.{RowDegree, row_degree_unique}
use Rattle.rules.specs.Claim.{Problem, Claim}
use Rattle.rules.specs.Matrices.{shift, at, matrix_P}
use Rattle.laws.specs.Valid.{ValidBasis}
use Rattle.rules.specs.Conditions.{shifted_degree_of, row_degree_of, row_degree}
use Rattle.rules.specs.Verdict.{not_reduced, judge_claim}
use Rattle.laws.specs.DegreeLaws.{largest_is, shifted_is}
use Rattle.laws.specs.ReducedLaws.{entry_at_most, no_degree_zero, no_degree_not_reduced}

module _ (b : Problem) (P : List (List (List ℕ))) (valid : ValidBasis b P) (i : ℕ) where
  -- The last coefficient of an entry is not 0 in K.
  last_ne_zero : (j d : ℕ) → length (at P i j) ≡ suc d → red b.p (get_or (at P i j) d 0) ≢ (K b.p).𝟘
  last_ne_zero j d l e =
      let below : get_or (at P i j) d 0 < b.p = valid.P_range i j d in
      let zero : get_or (at P i j) d 0 ≡ 0 = sym (mod-eq_of_lt below) ∙ (red_zero_iff b.p (omega arith) (get_or (at P i j) d 0)).0 e in
      valid.P_last i j (omega (arith, l)) (ap (λ n. get_or (at P i j) (pred n) 0) l ∙ zero)

  -- A row of zeros has no degree.
  zeros_no_degree : (D : ℤ) → ((j k : ℕ) → j < b.m → (matrix_P b P i j).series k ≡ (K b.p).𝟘)
      → ¬ RowDegree (K b.p) b.m (shift b) D (λ j. (matrix_P b P i j).series)
  zeros_no_degree D zeros (bound, (j, hj, ne)) = ne (coefficient_zeros (K b.p) (D -ℤ shift b j) (matrix_P b P i j).series (λ k. zeros j k hj))

  degree_of_row : (D : ℤ) → row_degree b P i ≡ Some D → RowDegree (K b.p) b.m (shift b) D (λ j. (matrix_P b P i j).series)
  unfolding row_degree_of coefficient
  degree_of_row D e =
      let (j, hj, top) = largest_is b.m (λ j. shifted_degree_of (length (at P i j)) (shift b j)) D e in
      let (d, l, same) = shifted_is (length (at P i j)) (shift b j) D top in (
        λ j hj. entry_at_most b P i j D e hj,
        (
          j,
          hj,
          subst (λ x. coefficient (K b.p) x (matrix_P b P i j).series ≢ (K b.p).𝟘)
              (sym (ap (λ x. x -ℤ shift b j) same ∙ +ℤ-neg_ℤ_cancel (pos d) (shift b j))) (last_ne_zero j d l),
        ),
      )

  -- "The degree of row i is the largest, over its entries, of degree plus that column's shift"; "A zero entry has no degree and takes no
  -- part in the row degree" (document 02, L2). So the row has a coefficient other than 0 there in some entry, and none above.
  pub row_degree_iff : (D : ℤ) → (row_degree b P i ≡ Some D) ↔ RowDegree (K b.p) b.m (shift b) D (λ j. (matrix_P b P i j).series)
  row_degree_iff D = (degree_of_row D, by (row_degree b P i) refl)
    where
      by : (o : Option ℤ) → row_degree b P i ≡ o → RowDegree (K b.p) b.m (shift b) D (λ j. (matrix_P b P i j).series) → o ≡ Some D
      by None e h = absurd (zeros_no_degree D (λ j k hj. no_degree_zero b P i j e hj k) h)
      by (Some r) e h = ap Some (row_degree_unique (K b.p) b.m (shift b) r D (λ j. (matrix_P b P i j).series) (degree_of_row r e) h)

  -- "A row with no entry other than zero has no row degree …
  pub row_degree_none_iff : (row_degree b P i ≡ None) ↔ ((j k : ℕ) → j < b.m → (matrix_P b P i j).series k ≡ (K b.p).𝟘)
  row_degree_none_iff = (λ e j k hj. no_degree_zero b P i j e hj k, by (row_degree b P i) refl)
    where
      by : (o : Option ℤ) → row_degree b P i ≡ o → ((j k : ℕ) → j < b.m → (matrix_P b P i j).series k ≡ (K b.p).𝟘) → o ≡ None
      by None e zeros = refl
      by (Some r) e zeros = absurd (zeros_no_degree r zeros (degree_of_row r e))

-- … and the verdict is 9" (document 02, L2).
pub zero_row_verdict : (c : Claim) (i : ℕ) → i < c.problem.m → row_degree c.problem c.answer.P i ≡ None → judge_claim c ≡ not_reduced
unfolding judge_claim
zero_row_verdict c i h e = rw (no_degree_not_reduced c.problem c.answer.P i h e, judge_claim)
