-- `problem_file::records::shift_list` meets its contract. The loop's invariant: what is still to be read, stored into what stands there by now, is the whole
-- work (`Kept`). Assumes nothing.
use mathlib.Core.Path.{◌∙◌}
use lib.ListN.{length-set}
use borrow.Author.Rules.{rules}
use mir.Facts.{to_z-of_z}
use mir.Syntax.{w32}
use Rattle.place.specs.Places.{going_off, error_is}
use Rattle.storing.specs.Storing.{stopped, went_on, ended}
use Rattle.problem_file.specs.Shifts.{shift_off, shift_on, two_bytes}
use Rattle.problem_file.proofs.records.shift_list.Goals as goal

pub returns-in_err-v : goal.returns-in_err-v
returns-in_err-v c =
    going_off _ (error_is c.from_residual.ensures.1) ∙ stopped c.loop-shift.invariant.1 c.loop-shift-test.true (shift_off _ _ _ c.in_err-v.ensures)

pub signed16-requires : goal.signed16-requires
signed16-requires c = two_bytes _ _ _ (search rules) c.in_ok-v.ensures

pub loop-shift-preserved : goal.loop-shift-preserved
loop-shift-preserved c =
    let loop = c.loop-shift in (
      simp length-set loop.invariant.0,
      went_on loop.invariant.1 c.loop-shift-test.true
          (shift_on _ _ _ c.in_ok-v.ensures (to_z-of_z {w = w32} (record { sfits = c.signed16.type_inv }) ∙ c.signed16.ensures)),
    )

pub returns : goal.returns
returns c = ended c.loop-shift.invariant.1 c.loop-shift-test.false
