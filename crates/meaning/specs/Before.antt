-- What passed before passes. By document 01's own rule "An entry of length 0 counts as degree 0"; by document 02, L2, it has no degree.
-- Here the rule stands as it was, and it is proved what stays: a P that was reduced is reduced, with the same row degrees and the same Δ,
-- so that every verdict but 9 stays. Not every 9 stays: the claim that L2 tells of is one.
--   row_degree_before, leading_before, ReducedBefore, degree_sum_before      the rule as it was
--   SaidBefore               what each verdict said by it
--   reduced_before_degrees   what was reduced is, with the same degrees and Δ
--   lab_passed, lab_not_reduced_before   the claim that L2 tells of
use Rattle.std.specs.Prelude.{◌≡◌, ◌≢◌, ℕ, zero, suc, pred, ◌<◌, ℤ, ◌+ℤ◌, ◌-ℤ◌, length}
use Rattle.std.proofs.Math.Path.{refl, ap}
use Rattle.std.proofs.Common.{sym, ◌∙◌}
use Rattle.std.specs.Prelude.{Option, None, Some, unwrap_or}
use Rattle.laws.specs.Options.{some_none}
use Rattle.std.proofs.lemmas.Option.{none-some}
use Rattle.std.proofs.Math.IntN.{pos, +ℤ_idr}
use Rattle.algebra.specs.Integer.{Integers}
use Rattle.algebra.specs.Sum.{sum}
use Rattle.algebra.specs.Matrix.{Matrix}
use Rattle.algebra.specs.Det.{det, det_local}
use Rattle.algebra.proofs.Adjugate.{det_zero_row}
use Rattle.algebra.specs.Degree.{coefficient, coefficient_zeros}
use Rattle.algebra.proofs.Degree.{leading}
use Rattle.algebra.proofs.Predictable.{row_coefficient_above}
use Rattle.rules.specs.Claim.{Claim}
use Rattle.rules.specs.Matrices.{shift, at}
use Rattle.rules.specs.Conditions.{shifted_degree_of, largest, row_degree_of, row_degree, leading_matrix, degree_sum}
use Rattle.rules.specs.Verdict.{Verdict, passed, judge_claim}
use Rattle.laws.specs.DegreeLaws.{largest_is, largest_above, largest_none, shifted_is}
use Rattle.laws.specs.ReducedLaws.{no_degree_zero, entry_at_most, degree_sum_is}
use Rattle.rules.specs.Run.{run_verdict}
use Rattle.rules.specs.Requested.{lab}
use Rattle.meaning.specs.Generating.{field_of, series_P}
use Rattle.meaning.specs.Verdicts.{Reduced, SaysBy}

-- THE RULE AS IT WAS

-- "degree plus that column's shift" of an entry of row i: "An entry of length 0 counts as degree 0."
abbrev shifted_before : Claim → ℕ → ℕ → Option ℤ
shifted_before c i j = Some (pos (pred (length (at c.answer.P i j))) +ℤ shift c.problem j)

-- "The degree of row i is the largest, over its entries" of these. A row has entries, so that there is a largest.
abbrev pub row_degree_before : Claim → ℕ → ℤ
row_degree_before c i = unwrap_or (largest c.problem.m (shifted_before c i)) (pos 0)

-- "The leading matrix holds at (i, j) the coefficient of P's entry at the power (row degree − s_j), or 0 if the entry has none there
-- or that power is negative."
abbrev pub leading_before : (c : Claim) → Matrix (field_of c)
leading_before c = leading (field_of c) (row_degree_before c) (shift c.problem) (series_P c)

-- "P is reduced if the leading matrix has a determinant other than 0"
abbrev pub ReducedBefore : Claim → Type 0
ReducedBefore c = det (field_of c) c.problem.m (leading_before c) ≢ (field_of c).𝟘

-- "Δ is the sum of the row degrees less the sum of the shifts"
abbrev pub degree_sum_before : Claim → ℤ
degree_sum_before c = sum Integers c.problem.m (row_degree_before c) -ℤ sum Integers c.problem.m (shift c.problem)

-- What each verdict said.
abbrev pub SaidBefore : Claim → Verdict → Type 0
SaidBefore c = SaysBy (ReducedBefore c) (Some (degree_sum_before c)) c

-- WHAT STAYS

module _ (c : Claim) where
  -- The degree of a row was not below what it is now: the entry that has the degree now took part, …
  not_below : (i : ℕ) (r : ℤ) → row_degree c.problem c.answer.P i ≡ Some r → (k : ℕ) × (row_degree_before c i ≡ r +ℤ pos k)
  unfolding row_degree_of
  not_below i r e =
      let (j, hj, top) = largest_is c.problem.m (λ j. shifted_degree_of (length (at c.answer.P i j)) (shift c.problem j)) r e in
      let (d, l, same) = shifted_is (length (at c.answer.P i j)) (shift c.problem j) r top in
      by j hj (ap (λ n. Some (pos (pred n) +ℤ shift c.problem j)) l ∙ ap Some (sym same)) (largest c.problem.m (shifted_before c i)) refl
    where
      by : (j : ℕ) → j < c.problem.m → shifted_before c i j ≡ Some r
          → (o : Option ℤ) → largest c.problem.m (shifted_before c i) ≡ o → (k : ℕ) × (unwrap_or o (pos 0) ≡ r +ℤ pos k)
      by j hj h None none_left = absurd (some_none _ (largest_none c.problem.m (shifted_before c i) none_left j hj))
      by j hj h (Some z) top = largest_above c.problem.m (shifted_before c i) z top j r hj h

  module _ (reduced : ReducedBefore c) where
    -- … and where it was above, or there is none now, the row of the leading matrix was 0, and so its determinant.
    row_degree_kept : (i : ℕ) → i < c.problem.m → row_degree c.problem c.answer.P i ≡ Some (row_degree_before c i)
    row_degree_kept i hi = by (row_degree c.problem c.answer.P i) refl
      where
        nonzero : ¬ ((j : ℕ) → j < c.problem.m → leading_before c i j ≡ (field_of c).𝟘)
        nonzero zeros = reduced (det_zero_row (field_of c) c.problem.m (leading_before c) i hi zeros)

        at_distance : (r : ℤ) → row_degree c.problem c.answer.P i ≡ Some r
            → (k : ℕ) → row_degree_before c i ≡ r +ℤ pos k → Some r ≡ Some (row_degree_before c i)
        at_distance r e zero over = ap Some (sym (over ∙ +ℤ_idr r))
        at_distance r e (suc k) over =
            absurd (nonzero (λ j hj. ap (λ x. coefficient (field_of c) (x -ℤ shift c.problem j) (series_P c i j)) over
            ∙ row_coefficient_above (field_of c) c.problem.m (shift c.problem) r k (series_P c i)
            (λ j hj. entry_at_most c.problem c.answer.P i j r e hj) j hj))

        by : (o : Option ℤ) → row_degree c.problem c.answer.P i ≡ o → o ≡ Some (row_degree_before c i)
        by None e =
            absurd (nonzero (λ j hj. coefficient_zeros (field_of c) (row_degree_before c i -ℤ shift c.problem j) (series_P c i j)
            (no_degree_zero c.problem c.answer.P i j e hj)))
        by (Some r) e = let (k, over) = not_below i r e in at_distance r e k over

    leading_kept : (i j : ℕ) → i < c.problem.m → j < c.problem.m → leading_before c i j ≡ leading_matrix c.problem c.answer.P i j
    leading_kept i j hi hj = rw (row_degree_kept i hi, leading_matrix)

    pub reduced_kept : Reduced c
    reduced_kept z = reduced (det_local (field_of c) c.problem.m (leading_before c) (leading_matrix c.problem c.answer.P) leading_kept ∙ z)

    pub degree_sum_kept : degree_sum c.problem c.answer.P ≡ Some (degree_sum_before c)
    degree_sum_kept = degree_sum_is c.problem c.answer.P (row_degree_before c) row_degree_kept

  -- What was reduced is reduced, with the same row degrees and the same Δ.
  pub reduced_before_degrees : ReducedBefore c
      → ((i : ℕ) → i < c.problem.m → row_degree c.problem c.answer.P i ≡ Some (row_degree_before c i))
      × Reduced c
      × (degree_sum c.problem c.answer.P ≡ Some (degree_sum_before c))
  reduced_before_degrees reduced = (row_degree_kept reduced, reduced_kept reduced, degree_sum_kept reduced)

-- WHAT DOES NOT

-- "The lab's claim must now pass with Δ 0." …
pub lab_passed : judge_claim lab ≡ passed 0
unfolding run_verdict
lab_passed = refl

-- … "Document 01 counts a zero entry as degree 0, so its shift of 5 drowned the real entry."
pub lab_not_reduced_before : ¬ ReducedBefore lab
unfolding run_verdict
lab_not_reduced_before reduced = reduced refl
