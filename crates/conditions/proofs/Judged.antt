-- The verdict where a code is the first that applies, and where none applies.
use Rattle.std.proofs.Common.{◌≡◌, ℕ, ℤ, ◌∙◌, ap, arith}
use Rattle.std.specs.Prelude.{Option, None, Some}
use Rattle.rules.specs.Claim.{Claim}
use Rattle.rules.specs.Conditions.{degree_sum_of}
use Rattle.rules.specs.Verdict.{Verdict, judge_claim, not_reduced, passed, pass_with, natural}
use Rattle.layout.specs.Flat.{length_at, shift_at}
use Rattle.claim.specs.declared.Problem.{Problem}
use Rattle.claim.specs.declared.Answer.{Answer}
use Rattle.claim.specs.Claims.{claim_in}
use Rattle.conditions.specs.Applies.{applies}
use Rattle.conditions.specs.Findings.{Tried, none_tried, tried_fault, tried_one, all_tried, all_found}

module _ (c : Claim) where
  tried_9 : None ≡ applies 9 c → Tried c 10
  tried_9 = tried_one c 9 (omega arith) (none_tried c)

  tried_10 : None ≡ applies 9 c → None ≡ applies 10 c → Tried c 11
  tried_10 h9 = tried_one c 10 (omega arith) (tried_9 h9)

  tried_11 : None ≡ applies 9 c → None ≡ applies 10 c → None ≡ applies 11 c → Tried c 12
  tried_11 h9 h10 = tried_one c 11 (omega arith) (tried_10 h9 h10)

  tried_12 : None ≡ applies 9 c → None ≡ applies 10 c → None ≡ applies 11 c → None ≡ applies 12 c → Tried c 13
  tried_12 h9 h10 h11 = tried_one c 12 (omega arith) (tried_11 h9 h10 h11)

  tried_13 : None ≡ applies 9 c → None ≡ applies 10 c → None ≡ applies 11 c → None ≡ applies 12 c → None ≡ applies 13 c → Tried c 14
  tried_13 h9 h10 h11 h12 = tried_one c 13 (omega arith) (tried_12 h9 h10 h11 h12)

  module _ (v : Verdict) where
    pub judged_9 : Some v ≡ applies 9 c → v ≡ judge_claim c
    judged_9 = tried_fault c 9 v (omega arith) (none_tried c)

    pub judged_10 : None ≡ applies 9 c → Some v ≡ applies 10 c → v ≡ judge_claim c
    judged_10 h9 = tried_fault c 10 v (omega arith) (tried_9 h9)

    pub judged_11 : None ≡ applies 9 c → None ≡ applies 10 c → Some v ≡ applies 11 c → v ≡ judge_claim c
    judged_11 h9 h10 = tried_fault c 11 v (omega arith) (tried_10 h9 h10)

    pub judged_12 : None ≡ applies 9 c → None ≡ applies 10 c → None ≡ applies 11 c → Some v ≡ applies 12 c → v ≡ judge_claim c
    judged_12 h9 h10 h11 = tried_fault c 12 v (omega arith) (tried_11 h9 h10 h11)

    pub judged_13 : None ≡ applies 9 c → None ≡ applies 10 c → None ≡ applies 11 c → None ≡ applies 12 c → Some v ≡ applies 13 c → v ≡ judge_claim c
    judged_13 h9 h10 h11 h12 = tried_fault c 13 v (omega arith) (tried_12 h9 h10 h11 h12)

-- Where none applies the degree sum decides.
module _ (b : Problem) (a : Answer) (h9 : None ≡ applies 9 (claim_in b a)) (h10 : None ≡ applies 10 (claim_in b a))
    (h11 : None ≡ applies 11 (claim_in b a)) (h12 : None ≡ applies 12 (claim_in b a)) (h13 : None ≡ applies 13 (claim_in b a)) where
  judged_by_sum : (sum : Option ℤ) → sum ≡ degree_sum_of b.head.m (length_at a.basis.lengths) (shift_at b.head.shifts)
      → pass_with sum ≡ judge_claim (claim_in b a)
  judged_by_sum sum e = all_tried (claim_in b a) 14 (pass_with sum) (omega arith) (tried_13 (claim_in b a) h9 h10 h11 h12 h13) (all_found b a sum e)

  pub judged_without_sum : None ≡ degree_sum_of b.head.m (length_at a.basis.lengths) (shift_at b.head.shifts) → not_reduced ≡ judge_claim (claim_in b a)
  judged_without_sum = judged_by_sum None

  pub judged_passed : (sum : ℤ) (n : ℕ) → Some sum ≡ degree_sum_of b.head.m (length_at a.basis.lengths) (shift_at b.head.shifts) → n ≡ natural sum
      → passed n ≡ judge_claim (claim_in b a)
  judged_passed sum n e is = ap passed is ∙ judged_by_sum (Some sum) e

-- What the goals at the exits of `conditions` want.
pub ruleset judged = (judged_9, judged_10, judged_11, judged_12, judged_13, judged_without_sum)
