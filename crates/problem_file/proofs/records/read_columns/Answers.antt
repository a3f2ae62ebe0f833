-- `problem_file::records::read_columns` meets its contract. The loop's invariant: what is still to be read, stored into what stands there by now, is the whole
-- work (`Kept`). Assumes nothing.
use mathlib.Core.Path.{sym, ◌∙◌}
use native.Mathlib.Omega.{arith}
use Rattle.laws.specs.Soundness.{sound_FC}
use Rattle.place.specs.Places.{going_off, error_is}
use Rattle.storing.specs.Records.{stored_forward}
use Rattle.storing.specs.Storing.{stopped, went_on, ended}
use Rattle.problem_file.proofs.records.read_columns.Goals as goal

pub returns-in_err-here : goal.returns-in_err-here
returns-in_err-here c =
    going_off _ (error_is c.from_residual.ensures.1) ∙ stopped c.loop-j.invariant.2 c.loop-j-test.true (sym c.in_err-here.ensures)

pub loop-j-preserved : goal.loop-j-preserved
loop-j-preserved c =
    let loop = c.loop-j in
    let head = c.args.head.now in (
      c.read_column.auto.out ∙ loop.invariant.0,
      omega
          (arith, (stored_forward (sound_FC head.p head.m _ loop.j c.requires.n_bound.1 (c.requires.by_index loop.j)) _ _ _ c.in_ok-here.ensures).number),
      went_on loop.invariant.2 c.loop-j-test.true (sym c.in_ok-here.ensures),
    )

pub returns : goal.returns
returns c = ended c.loop-j.invariant.2 c.loop-j-test.false
