-- Which verdicts two files can get.
--   verdict_of_claim, verdict_of_refusal      the verdict on files that are read is that on the claim, and on others the refusal
--   Judged b v, judge_claim_judged, verdict_judged      a claim gets no refusal of reading, and a place in it
--   code_of_refusal          codes 1 to 8 are given for files that are not read alone
use Rattle.std.specs.Prelude.{◌≡◌, Bool, List, ℤ}
use Rattle.std.proofs.Math.Path.{refl}
use Rattle.std.proofs.Common.{sym, ap, subst, arith}
use Rattle.std.proofs.Math.Bool.{true, false}
use Rattle.std.specs.Prelude.{Option, None, Some}
use Prim.Native.Nat.{ℕ, ◌≤◌, ◌<◌}
use Rattle.rules.specs.Claim.{Problem, Claim}
use Rattle.rules.specs.Reader.{Place, Refusal, Result, refused, got}
use Rattle.rules.specs.Files.{read_claim}
use Rattle.rules.specs.Conditions.{reduced, monomial_determinant, degree_sum, rank_below, low_fault, order_fault, first_place}
use Rattle.rules.specs.Verdict.{Verdict, passed, unread, not_reduced, not_monomial, below_order, at_order, low_rank, numbers, pass_with}
use Rattle.rules.specs.Verdict.{by_rank, by_product, judge_claim, verdict}
use Rattle.laws.specs.BoolLaws.{cond_cases}
use Rattle.laws.specs.SearchLaws.{first_place_some}

abbrev by_reading : Result Claim → Verdict
by_reading x = elim x [ refused r ↦ unread r | got c q ↦ judge_claim c ]

-- The verdict on two files that the readers accept is that on the claim read, …
pub verdict_of_claim : (s t : List ℕ) (c : Claim) (q : Place) → read_claim s t ≡ got c q → verdict s t ≡ judge_claim c
unfolding verdict
verdict_of_claim s t c q e = ap by_reading e

-- … and on two others it is the readers' refusal.
pub verdict_of_refusal : (s t : List ℕ) (r : Refusal) → read_claim s t ≡ refused r → verdict s t ≡ unread r
unfolding verdict
verdict_of_refusal s t r e = ap by_reading e

-- A verdict on a claim that was read: a pass, or a refusal by one of 9 to 13, with a row and a column of the problem b where it has a place.
abbrev pub Judged : Problem → Verdict → Type 0
Judged b (passed d) = Unit {0}
Judged b (unread r) = ⊥
Judged b not_reduced = Unit {0}
Judged b not_monomial = Unit {0}
Judged b (below_order i j) = (i < b.m) × (j < b.n)
Judged b (at_order i j) = (i < b.m) × (j < b.n)
Judged b low_rank = Unit {0}

pass_judged : (b : Problem) (o : Option ℤ) → Judged b (pass_with o)
pass_judged b None = tt
pass_judged b (Some z) = tt

module _ (c : Claim) where
  by_rank_judged : Judged c.problem (by_rank c)
  unfolding by_rank
  by_rank_judged =
      cond_cases (rank_below c.problem c.answer.P c.answer.C) low_rank (pass_with (degree_sum c.problem c.answer.P))
      (Judged c.problem) (λ t. tt) (λ t. pass_judged c.problem (degree_sum c.problem c.answer.P))

  by_product_judged : Judged c.problem (by_product c)
  unfolding by_product
  by_product_judged = low (first_place c.problem.m c.problem.n (low_fault c.problem c.answer.P)) refl
    where
      place : (fault : ℕ → ℕ → Bool) (i j : ℕ) → first_place c.problem.m c.problem.n fault ≡ Some (i, j) → (i < c.problem.m) × (j < c.problem.n)
      place fault i j e = let f = (first_place_some c.problem.m c.problem.n fault i j).0 e in (f.row, f.column)

      high : (o : Option (ℕ × ℕ)) → first_place c.problem.m c.problem.n (order_fault c.problem c.answer.P c.answer.C) ≡ o
          → Judged c.problem (elim o [ Some place ↦ at_order place.0 place.1 | None ↦ by_rank c ])
      high None e = by_rank_judged
      high (Some p) e = place _ p.0 p.1 e

      low : (o : Option (ℕ × ℕ)) → first_place c.problem.m c.problem.n (low_fault c.problem c.answer.P) ≡ o → Judged c.problem (elim o [
        | Some place ↦ below_order place.0 place.1
        | None ↦
            elim (first_place c.problem.m c.problem.n (order_fault c.problem c.answer.P c.answer.C))
            [ Some place ↦ at_order place.0 place.1 | None ↦ by_rank c ]
      ])
      low None e = high (first_place c.problem.m c.problem.n (order_fault c.problem c.answer.P c.answer.C)) refl
      low (Some p) e = place _ p.0 p.1 e

  -- The verdict on a claim is such a one.
  pub judge_claim_judged : Judged c.problem (judge_claim c)
  unfolding judge_claim
  judge_claim_judged = first (reduced c.problem c.answer.P) (monomial_determinant c.problem c.answer.P)
    where
      first : (a b : Bool) → Judged c.problem (elim a [ false ↦ not_reduced | true ↦ elim b [ false ↦ not_monomial | true ↦ by_product c ] ])
      first false b = tt
      first true false = tt
      first true true = by_product_judged

-- So is the verdict on two files that are read.
pub verdict_judged : (s t : List ℕ) (c : Claim) (q : Place) → read_claim s t ≡ got c q → Judged c.problem (verdict s t)
verdict_judged s t c q e = subst (Judged c.problem) (sym (verdict_of_claim s t c q e)) (judge_claim_judged c)

judged_code : (b : Problem) (v : Verdict) → Judged b v → 1 ≤ (numbers v).code → 8 < (numbers v).code
unfolding numbers
judged_code b (passed d) h least = omega arith
judged_code b (unread r) h least = absurd h
judged_code b not_reduced h least = omega arith
judged_code b not_monomial h least = omega arith
judged_code b (below_order i j) h least = omega arith
judged_code b (at_order i j) h least = omega arith
judged_code b low_rank h least = omega arith

-- A code from 1 to 8 is that of a refusal by the readers.
pub code_of_refusal : (s t : List ℕ) → 1 ≤ (numbers (verdict s t)).code → (numbers (verdict s t)).code ≤ 8 → (r : Refusal) × (read_claim s t ≡ refused r)
code_of_refusal s t least most = by_result (read_claim s t) refl
  where
    by_result : (x : Result Claim) → read_claim s t ≡ x → (r : Refusal) × (read_claim s t ≡ refused r)
    by_result (refused r) e = (r, e)
    by_result (got c q) e = absurd (omega (arith, judged_code c.problem (verdict s t) (verdict_judged s t c q e) least))
