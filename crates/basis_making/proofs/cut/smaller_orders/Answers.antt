use Rattle.std.proofs.Common.{arith}
use Rattle.rules.specs.Sizes.{most_rows}
use Rattle.basis_making.specs.Cut.{cut_orders, cutting_all}
use Rattle.basis_making.proofs.cut.smaller_orders.Goals as goal

pub returns : goal.returns
unfolding cut_orders most_rows
returns c = cutting_all _ _ _ _ _ (omega arith) c.loop-order.invariant
