-- The loop's invariant: the steps that are left do the whole work (`Reached`).
use mathlib.Core.Path.{sym, ◌∙◌}
use Rattle.place.specs.Places.{error_is}
use Rattle.runs.specs.Stored.{off, on, through, stored_off}
use Rattle.runs.specs.Rows.{block_stored}
use Rattle.runs.proofs.block.Goals as goal

pub returns-in_err-here : goal.returns-in_err-here
unfolding block_stored
returns-in_err-here c =
    stored_off _ (error_is c.from_residual.ensures.1) ∙ off c.loop-i.invariant.1 c.loop-i-test.true (sym c.in_err-here.ensures)

pub loop-i-preserved : goal.loop-i-preserved
loop-i-preserved c =
    let loop = c.loop-i in (
      c.run.auto.out ∙ loop.invariant.0,
      on loop.invariant.1 c.loop-i-test.true (sym c.in_ok-here.ensures),
    )

pub returns : goal.returns
unfolding block_stored
returns c = through c.loop-i.invariant.1 c.loop-i-test.false
