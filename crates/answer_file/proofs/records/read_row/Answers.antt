-- `answer_file::records::read_row` meets its contract. The loop's invariant: what is still to be read, stored into what stands there by now, is the whole
-- work (`Kept`). Assumes nothing.
use mathlib.Core.Path.{sym, ◌∙◌}
use native.Mathlib.Omega.{arith}
use Rattle.laws.specs.Soundness.{sound_PE}
use Rattle.place.specs.Places.{going_off, error_is}
use Rattle.storing.specs.Records.{stored_forward}
use Rattle.storing.specs.Storing.{stopped, went_on, ended}
use Rattle.answer_file.proofs.records.read_row.Goals as goal

pub returns-in_err-here : goal.returns-in_err-here
returns-in_err-here c =
    going_off _ (error_is c.from_residual.ensures.1) ∙ stopped c.loop-j.invariant.1 c.loop-j-test.true (sym c.in_err-here.ensures)

pub loop-j-preserved : goal.loop-j-preserved
loop-j-preserved c =
    let loop = c.loop-j in
    let args = c.args in (
      omega (arith, (stored_forward (sound_PE args.p args.i loop.j) _ _ _ c.in_ok-here.ensures).number, loop.invariant),
      went_on loop.invariant.1 c.loop-j-test.true (sym c.in_ok-here.ensures),
    )

pub returns : goal.returns
returns c = ended c.loop-j.invariant.1 c.loop-j-test.false
