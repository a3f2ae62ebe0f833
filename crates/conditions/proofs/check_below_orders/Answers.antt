use Rattle.std.proofs.Common.{◌∙◌, rules}
use Rattle.rules.specs.Verdict.{below_order}
use Rattle.product.specs.Faults.{flat_low_fault}
use Rattle.conditions.specs.Findings.{fault_within, fault_found, found_below}
use Rattle.conditions.proofs.check_below_orders.Goals as goal

pub refuse_at-requires-clause-within : goal.refuse_at-requires-clause-within
refuse_at-requires-clause-within c =
    let head = c.args.problem.now.head in
    fault_within head.m head.n (flat_low_fault head c.args.problem.now.f c.args.answer.now.basis.entries) _ c.requires.sound.sound_head.rows_most
    c.requires.sound.sound_head.columns_most c.first_low_fault-place.result c.first_low_fault-place.ensures

pub returns : goal.returns
returns c =
    let head = c.args.problem.now.head in
    fault_found head.m head.n (flat_low_fault head c.args.problem.now.f c.args.answer.now.basis.entries) below_order c.first_low_fault-place.result
    c.first_low_fault-place.ensures c.refuse_at.result (search rules)
    ∙ found_below c.args.problem.now c.args.answer.now c.requires.sound
