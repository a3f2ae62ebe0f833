-- `answer_file::records::read_entries` meets its contract. The loop's invariant: what is still to be read, stored into what stands there by now, is the whole
-- work (`Kept`). Assumes nothing.
use mathlib.Core.Path.{sym, ◌∙◌}
use mathlib.Core.List.{[]}
use native.Mathlib.Omega.{arith}
use Rattle.rules.specs.Sizes.{most_rows}
use Rattle.rules.specs.Files.{entries_reader}
use Rattle.laws.specs.ReaderLaws.{sound_each}
use Rattle.laws.specs.Soundness.{sound_PE}
use Rattle.place.specs.Places.{going_off, error_is}
use Rattle.storing.specs.Records.{stored_forward}
use Rattle.storing.specs.Storing.{stopped, went_on, ended}
use Rattle.answer_file.proofs.records.read_entries.Goals as goal

pub returns-in_err-here : goal.returns-in_err-here
unfolding entries_reader
returns-in_err-here c =
    going_off _ (error_is c.from_residual.ensures.1) ∙ stopped c.loop-i.invariant.1 c.loop-i-test.true (sym c.in_err-here.ensures)

pub loop-i-preserved : goal.loop-i-preserved
unfolding most_rows
loop-i-preserved c =
    let loop = c.loop-i in
    let args = c.args in (
      omega
          (arith, (stored_forward (sound_each [] args.m _ (sound_PE args.p loop.i)) _ _ _ c.in_ok-here.ensures).number, loop.invariant, c.requires),
      went_on loop.invariant.1 c.loop-i-test.true (sym c.in_ok-here.ensures),
    )

pub returns : goal.returns
unfolding entries_reader
returns c = ended c.loop-i.invariant.1 c.loop-i-test.false
