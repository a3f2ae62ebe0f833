-- "The first that applies is given, 1 to 8 in reading order, then 9 to 13 by number": the verdict of each code where it applies, and
-- that the rules' verdict is the first of them.
--   applies code c           the verdict of that code, where it applies to the claim c
--   first_applying           the first of so many codes from one on, and a pass where none applies
--   judged_in_order          the verdict of the rules is the first of the five from 9 on
use Rattle.std.specs.Prelude.{◌≡◌, refl, Bool, true, false, not, cond, ℕ, zero, suc, ◌+◌, eqb}
use Rattle.std.proofs.Common.{ap, ne_eqb}
use Rattle.std.specs.Prelude.{Option, None, Some}
use Rattle.rules.specs.Claim.{Claim}
use Rattle.rules.specs.Conditions.{reduced, monomial_determinant, degree_sum, low_fault, order_fault, first_place, rank_below}
use Rattle.rules.specs.Verdict.{Verdict, not_reduced, not_monomial, below_order, at_order, low_rank, pass_with, judge_claim, by_product, by_rank}

abbrev pub fault_if : Bool → Verdict → Option Verdict
fault_if b v = cond b (Some v) None

abbrev pub fault_at : (ℕ → ℕ → Verdict) → Option (ℕ × ℕ) → Option Verdict
fault_at v None = None
fault_at v (Some at) = Some (v at.0 at.1)

unfoldable pub applies : ℕ → Claim → Option Verdict
applies code c =
    cond (eqb code 9) (fault_if (not (reduced c.problem c.answer.P)) not_reduced)
    (cond (eqb code 10) (fault_if (not (monomial_determinant c.problem c.answer.P)) not_monomial)
    (cond (eqb code 11) (fault_at below_order (first_place c.problem.m c.problem.n (low_fault c.problem c.answer.P)))
    (cond (eqb code 12) (fault_at at_order (first_place c.problem.m c.problem.n (order_fault c.problem c.answer.P c.answer.C)))
    (cond (eqb code 13) (fault_if (rank_below c.problem c.answer.P c.answer.C) low_rank)
    None))))

-- No other code is for a claim.
pub applies_none : (c : Claim) (code : ℕ) → ¬ (code ≡ 9) → ¬ (code ≡ 10) → ¬ (code ≡ 11) → ¬ (code ≡ 12) → ¬ (code ≡ 13) → applies code c ≡ None
unfolding applies
applies_none c code h9 h10 h11 h12 h13 =
    rw (ne_eqb code 9 h9, applies) (rw (ne_eqb code 10 h10) (rw (ne_eqb code 11 h11) (rw (ne_eqb code 12 h12) (rw (ne_eqb code 13 h13)))))

-- A verdict that applies, or else another.
abbrev pub or_else : Option Verdict → Verdict → Verdict
or_else None w = w
or_else (Some v) w = v

unfoldable pub first_applying : ℕ → ℕ → Claim → Verdict
first_applying zero code c = pass_with (degree_sum c.problem c.answer.P)
first_applying (suc left) code c = or_else (applies code c) (first_applying left (code + 1) c)

-- The rules' tests, one by one, in that form.
unless_first : (b : Bool) (v w w' : Verdict) → w ≡ w' → elim b [ false ↦ v | true ↦ w ] ≡ or_else (fault_if (not b) v) w'
unless_first false v w w' e = refl
unless_first true v w w' e = e

at_first : (o : Option (ℕ × ℕ)) (v : ℕ → ℕ → Verdict) (w w' : Verdict) → w ≡ w' → elim o [ Some place ↦ v place.0 place.1 | None ↦ w ] ≡ or_else (fault_at v o) w'
at_first None v w w' e = e
at_first (Some at) v w w' e = refl

if_first : (b : Bool) (v w : Verdict) → cond b v w ≡ or_else (fault_if b v) w
if_first true v w = refl
if_first false v w = refl

pub judged_in_order : (c : Claim) → judge_claim c ≡ first_applying 5 9 c
unfolding judge_claim by_product by_rank first_applying applies
judged_in_order c =
    unless_first (reduced c.problem c.answer.P) _ _ _
    (unless_first (monomial_determinant c.problem c.answer.P) _ _ _
    (at_first (first_place c.problem.m c.problem.n (low_fault c.problem c.answer.P)) below_order _ _
    (at_first (first_place c.problem.m c.problem.n (order_fault c.problem c.answer.P c.answer.C)) at_order _ _
    (if_first (rank_below c.problem c.answer.P c.answer.C) low_rank _))))

-- What a code that applies settles, and what one that does not leaves.
pub applying_first : (c : Claim) (left code : ℕ) (v : Verdict) → applies code c ≡ Some v → first_applying (suc left) code c ≡ v
unfolding first_applying
applying_first c left code v e = ap (λ o. or_else o (first_applying left (code + 1) c)) e

pub applying_later : (c : Claim) (left code : ℕ) → applies code c ≡ None → first_applying (suc left) code c ≡ first_applying left (code + 1) c
unfolding first_applying
applying_later c left code e = ap (λ o. or_else o (first_applying left (code + 1) c)) e
