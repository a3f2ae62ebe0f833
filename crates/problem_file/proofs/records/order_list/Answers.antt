-- `problem_file::records::order_list` meets its contract. The loop's invariant: what is still to be read, stored into what stands there by now, is the whole
-- work (`Kept`). Assumes nothing.
use mathlib.Core.Path.{◌∙◌}
use lib.ListN.{length-set}
use Rattle.rules.specs.Sizes.{most_order}
use Rattle.place.specs.Places.{going_off, error_is}
use Rattle.storing.specs.Storing.{stopped, went_on, ended, into_off, into_on}
use Rattle.problem_file.proofs.records.order_list.Goals as goal

pub returns-in_err-v : goal.returns-in_err-v
unfolding most_order
returns-in_err-v c =
    going_off _ (error_is c.from_residual.ensures.1) ∙ stopped c.loop-order.invariant.1 c.loop-order-test.true (into_off _ c.in_err-v.ensures)

pub loop-order-preserved : goal.loop-order-preserved
unfolding most_order
loop-order-preserved c =
    let loop = c.loop-order in (
      simp length-set loop.invariant.0,
      went_on loop.invariant.1 c.loop-order-test.true (into_on _ c.in_ok-v.ensures),
    )

pub returns : goal.returns
returns c = ended c.loop-order.invariant.1 c.loop-order-test.false
