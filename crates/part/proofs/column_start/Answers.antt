use Rattle.std.proofs.Common.{rules, arith, ◌<◌, get_or}
use Rattle.std.proofs.lemmas.List.{get_or-take}
use Rattle.rules.specs.Conditions.{sum_below}
use Rattle.rules.specs.RecordBytes.{column_bytes}
use Rattle.rules.specs.Sizes.{most_rows}
use Rattle.laws.specs.SumLaws.{sum_below_last}
use Rattle.part.proofs.column_start.Goals as goal

pub loop-order-init : goal.loop-order-init
unfolding most_rows sum_below
loop-order-init c = record { start_is = search rules; small = search rules }

pub loop-order-preserved : goal.loop-order-preserved
loop-order-preserved c =
    let k = c.loop-order.order-index in
    let within : k < c.args.j = omega arith in
    let size = rw (get_or-take c.args.j c.args.head.now.orders k 0 within) at c.column_bytes-start.ensures.value in
    let more = sum_below_last k (λ i. column_bytes c.args.head.now.m (get_or c.args.head.now.orders i 0)) in
    record { start_is = omega (arith, more, size); small = omega (arith, c.column_bytes-start.ensures.longest) }
