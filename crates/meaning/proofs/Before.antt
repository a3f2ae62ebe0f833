-- What passed before passes. By document 01's own rule "An entry of length 0 counts as degree 0"; by document 02, L2, it has no degree.
-- Here the rule stands as it was, and it is proved what stays: a P that was reduced is reduced, with the same row degrees and the same Δ,
-- so that every verdict but 9 stays. Not every 9 stays: the claim that L2 tells of is one.
--   verdict_kept, passed_before          every verdict but 9 stays; files that passed pass, with the same Δ
use Rattle.std.specs.Prelude.{◌≡◌, ◌≢◌, List, ℕ, ◌<◌}
use Rattle.std.proofs.Math.Path.{refl, ap}
use Rattle.std.proofs.Common.{sym, ◌∙◌, le_of_lt, suc-ne-zero}
use Rattle.algebra.specs.Sum.{sum}
use Rattle.rules.specs.Claim.{Claim}
use Rattle.rules.specs.Reader.{Place, got}
use Rattle.rules.specs.Files.{read_claim}
use Rattle.rules.specs.Verdict.{Verdict, passed, unread, not_reduced, not_monomial, below_order, at_order, low_rank, numbers, judge_claim}
use Rattle.rules.specs.Verdict.{verdict}
use Rattle.laws.specs.VerdictLaws.{verdict_of_claim}
use Rattle.laws.specs.Ranges.{claim_valid}
use Rattle.meaning.specs.Verdicts.{Says}
use Rattle.meaning.proofs.Verdicts.{judge_claim_meaning}
use Rattle.meaning.specs.Before.{SaidBefore, reduced_kept, degree_sum_kept}

-- WHAT STAYS

module _ (c : Claim) where
  still_said : (v : Verdict) → v ≢ not_reduced → SaidBefore c v → Says c v
  still_said not_reduced ne h = absurd (ne refl)
  still_said not_monomial ne (r, h) = (reduced_kept c r, h)
  still_said (below_order i j) ne (r, d, f) = (reduced_kept c r, d, f)
  still_said (at_order i j) ne (r, d, l, f) = (reduced_kept c r, d, l, f)
  still_said low_rank ne (r, d, l, o, k) = (reduced_kept c r, d, l, o, k)
  still_said (passed e) ne (r, d, l, o, k, sum) = (reduced_kept c r, d, l, o, k, degree_sum_kept c r ∙ sum)
  still_said (unread q) ne h = h

  -- Every verdict but 9 stays.
  pub verdict_kept : 0 < c.problem.p → (v : Verdict) → v ≢ not_reduced → SaidBefore c v → judge_claim c ≡ v
  verdict_kept positive v ne h = (judge_claim_meaning c positive v).1 (still_said v ne h)

-- Two files that passed pass, with the same Δ.
pub passed_before : (s t : List ℕ) (c : Claim) (q : Place) → read_claim s t ≡ got c q → (d : ℕ) → SaidBefore c (passed d) → verdict s t ≡ passed d
unfolding numbers
passed_before s t c q e d h =
    verdict_of_claim s t c q e
    ∙ verdict_kept c (le_of_lt (claim_valid s t e).valid_problem.prime.two_le) (passed d) (λ n. suc-ne-zero 8 (sym (ap (λ v. (numbers v).code) n))) h
