use Rattle.std.proofs.Common.{min, get_or}
use Rattle.rules.specs.Sizes.{most_rows}
use Rattle.basis_making.specs.Cut.{Cutting}
use Rattle.basis_making.proofs.cut.smaller_orders.Given as goal

abbrev pub invariant-loop-order : goal.invariant-loop-order
invariant-loop-order l = Cutting most_rows (λ j. min (get_or l.fn.orders j 0) l.done) l.fn.orders l.order-index l.order-items
