-- `Plain` is neither empty nor always true: it holds of document 01's case with two rows, and not of P = 4 + X. Of the first the numbers
-- are checked by computation and the generation sentence through the theorem; of the second a row is shown that P does not generate.
--   two_rows, two_rows_passed       the first
--   four_plus_X              the second
-- And the degrees of sums of multiples of the rows of the first (document 02, L6): the degree of a sum in which a column cancels, and of
-- one in which the row of the larger degree has the multiplier 0.
--   two_rows_degrees, column_cancels       shifts 0 and 0
--   shifted_rows_degrees                           shifts 0 and 1
use Rattle.std.specs.Prelude.{◌≡◌, refl, List, [], ◌∷◌, map, ℕ, zero, suc, ◌%◌, ◌<◌, ℤ, pos}
use Rattle.std.proofs.Common.{arith}
use Rattle.std.specs.Prelude.{Option, Some}
use Rattle.rules.specs.Claim.{Claim}
use Rattle.rules.specs.Conditions.{row_degree, sum_below}
use Rattle.rules.specs.Verdict.{passed, judge_claim}
use Rattle.rules.specs.Run.{run_verdict}
use Rattle.rules.specs.Cases.{one_by_one, two_by_one}
use Rattle.meaning.specs.Plain.{times, row_times_column}
use Rattle.meaning.specs.Least.{combined}

-- "p = 7, m = 2, n = 1, order 2, F rows 1 and 1 + X; P rows (6 + 6X, 1) and (6X, X), C = (0, 1)", shifts 0 and 0.
abbrev pub two_rows : Claim
two_rows = two_by_one (pos 0) (pos 0) 0 1

-- It passes with Δ = 2.
pub two_rows_passed : judge_claim two_rows ≡ passed 2
unfolding run_verdict
two_rows_passed = refl

-- "P = 4 + X, F = 0, C = 0" with p = 5, m = n = 1, order 1, shift 0.
abbrev pub four_plus_X : Claim
four_plus_X = one_by_one 5 1 (pos 0) (4 ∷ 1 ∷ []) (0 ∷ []) 0

-- With the shifts 0 and 0 both row degrees are 1, by computation.
pub two_rows_degrees : (i : ℕ) → i < 2 → row_degree two_rows.problem two_rows.answer.P i ≡ Some (pos 1)
unfolding run_verdict
two_rows_degrees zero h = refl
two_rows_degrees (suc zero) h = refl
two_rows_degrees (suc (suc i)) h = absurd (omega arith)

-- X times the first row and 6 times the second: "row degree plus the multiplier's degree" is 1 + 1 of the first and 1 + 0 of the second.
abbrev pub X_and_6 : List (List ℕ)
X_and_6 = (0 ∷ 1 ∷ []) ∷ (6 ∷ []) ∷ []

-- The sum is (6X², 0), by computation: the coefficients of its two entries at 1, X and X².
pub column_cancels : map (λ j. map (λ k. combined two_rows X_and_6 j k % 7) (0 ∷ 1 ∷ 2 ∷ [])) (0 ∷ 1 ∷ []) ≡ (0 ∷ 0 ∷ 6 ∷ []) ∷ (0 ∷ 0 ∷ 0 ∷ []) ∷ []
unfolding row_times_column times sum_below
column_cancels = refl

-- With the shifts 0 and 1 the row degrees are 1 and 2, …
abbrev pub shifted_rows : Claim
shifted_rows = two_by_one (pos 0) (pos 1) 0 1

pub shifted_rows_degrees :
    ◌≡◌ {A = List (Option ℤ)} (map (row_degree shifted_rows.problem shifted_rows.answer.P) (0 ∷ 1 ∷ [])) (Some (pos 1) ∷ Some (pos 2) ∷ [])
unfolding run_verdict
shifted_rows_degrees = refl
