-- The loop's invariant: the steps that are left do the whole work (`Reached`).
use mathlib.Core.Path.{◌∙◌}
use lib.ListN.{length-set}
use Rattle.place.specs.Places.{error_is}
use Rattle.runs.specs.Stored.{off, on, through, store_off, store_on, stored_off}
use Rattle.runs.specs.Rows.{run_stored}
use Rattle.runs.proofs.run.Goals as goal

pub returns-in_err-v : goal.returns-in_err-v
unfolding run_stored
returns-in_err-v c =
    stored_off _ (error_is c.from_residual.ensures.1) ∙ off c.loop-k.invariant.1 c.loop-k-test.true (store_off _ _ c.in_err-v.ensures)

pub loop-k-preserved : goal.loop-k-preserved
loop-k-preserved c =
    let loop = c.loop-k in (
      simp length-set loop.invariant.0,
      on loop.invariant.1 c.loop-k-test.true (store_on _ _ c.in_ok-v.ensures),
    )

pub returns : goal.returns
unfolding run_stored
returns c = through c.loop-k.invariant.1 c.loop-k-test.false
