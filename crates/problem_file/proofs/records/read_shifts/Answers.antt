-- `problem_file::records::read_shifts` meets its contract. Assumes nothing.
use mathlib.Core.Path.{sym, ap, ◌∙◌}
use native.Mathlib.Omega.{arith}
use lib.IntN.{pos}
use Rattle.rules.specs.Files.{SH_mark, SH}
use Rattle.laws.specs.Soundness.{sound_shift}
use Rattle.place.specs.Places.{going_off, error_is}
use Rattle.storing.specs.Flat.{shifts_into}
use Rattle.storing.specs.Storing.{into}
use Rattle.storing.specs.Records.{marked, closed_into, list_numbered, record_refused, record_given, refused_into, field_number}
use Rattle.problem_file.proofs.records.read_shifts.Goals as goal

pub closed-requires : goal.closed-requires
closed-requires c =
    list_numbered (pos 0) c.shift_list.new.out _ _ _ _ _ c.shift_list.result c.shift_list.ensures
    (λ j. sound_shift) (omega (arith, field_number _ _ _ _ (marked SH_mark _ c.opened.ensures c.in_ok-q.ensures)))

pub returns-in_err-q : goal.returns-in_err-q
unfolding SH
returns-in_err-q c =
    going_off _ (error_is c.from_residual.ensures.1)
    ∙ refused_into _ (record_refused _ (marked SH_mark _ c.opened.ensures c.in_err-q.ensures))

pub returns : goal.returns
unfolding SH
returns c =
    closed_into _ _ c.shift_list.result _ c.closed.ensures c.shift_list.ensures
    ∙ sym (ap (into (shifts_into c.args.out.now)) (record_given _ (marked SH_mark _ c.opened.ensures c.in_ok-q.ensures)))
