use Rattle.std.proofs.Common.{ap, ap₂, get_or}
use Rattle.std.proofs.Math.Bool.{not}
use Rattle.std.specs.Prelude.{eqb}
use Rattle.product.specs.Faults.{flat_order_fault}
use Rattle.product.proofs.fault.order_fault.Goals as goal

pub returns : goal.returns
unfolding flat_order_fault
returns c = ap₂ (λ x y. not (eqb x y)) c.order_coefficient-due.ensures (ap (λ k. get_or c.args.answer.now.c k 0) c.square_place.ensures)
