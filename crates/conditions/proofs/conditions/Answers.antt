use Rattle.std.proofs.Common.{◌≡◌, rules, ap, ◌∙◌, w32, to_z, of_z}
use Rattle.rules.specs.Verdict.{natural}
use Rattle.conditions.proofs.Judged.{judged_passed}
use Rattle.conditions.proofs.conditions.Goals as goal

pub returns : goal.returns
returns c =
    let back : to_z w32 (of_z w32 c.in_ok-sum.sum) ≡ c.in_ok-sum.sum = search rules in
    judged_passed c.args.problem.now c.args.answer.now c.in_ok-check_leading_matrix.ensures c.in_ok-check_determinant.ensures
    c.in_ok-check_below_orders.ensures c.in_ok-check_at_orders.ensures c.in_ok-check_rank.ensures c.in_ok-sum.sum c.not_negative.result
    (search rules) (c.not_negative.ensures ∙ ap natural back)
