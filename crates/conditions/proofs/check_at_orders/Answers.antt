use Rattle.std.proofs.Common.{◌∙◌, rules}
use Rattle.rules.specs.Verdict.{at_order}
use Rattle.product.specs.Faults.{flat_order_fault}
use Rattle.conditions.specs.Findings.{fault_within, fault_found, found_at}
use Rattle.conditions.proofs.check_at_orders.Goals as goal

pub refuse_at-requires-clause-within : goal.refuse_at-requires-clause-within
refuse_at-requires-clause-within c =
    let head = c.args.problem.now.head in
    let answer = c.args.answer.now in
    fault_within head.m head.n (flat_order_fault head c.args.problem.now.f answer.basis.entries answer.c) _ c.requires.sound.sound_head.rows_most
    c.requires.sound.sound_head.columns_most c.first_order_fault-place.result c.first_order_fault-place.ensures

pub returns : goal.returns
returns c =
    let head = c.args.problem.now.head in
    let answer = c.args.answer.now in
    fault_found head.m head.n (flat_order_fault head c.args.problem.now.f answer.basis.entries answer.c) at_order c.first_order_fault-place.result
    c.first_order_fault-place.ensures c.refuse_at.result (search rules)
    ∙ found_at c.args.problem.now c.args.answer.now c.requires.sound
