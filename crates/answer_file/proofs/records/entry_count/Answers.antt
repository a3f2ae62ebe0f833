-- `answer_file::records::entry_count` meets its contract. Assumes nothing.
use mathlib.Core.Path.{sym, ap, ◌∙◌}
use Rattle.rules.specs.Sizes.{most_length}
use Rattle.answer_file.specs.Counts.{count_reader}
use Rattle.place.specs.Places.{taken, error_is}
use Rattle.storing.specs.Records.{then_refused, then_given}
use Rattle.answer_file.proofs.records.entry_count.Goals as goal

pub returns-in_err-q : goal.returns-in_err-q
unfolding count_reader
returns-in_err-q c = ap taken (error_is c.from_residual.ensures.1) ∙ sym (then_refused _ c.in_err-q.ensures)

pub returns-in_err-q-2 : goal.returns-in_err-q-2
unfolding count_reader
returns-in_err-q-2 c =
    ap taken (error_is c.from_residual-in_err-q-2.ensures.1) ∙ sym (then_given _ c.in_ok-q.ensures ∙ then_refused _ c.in_err-q-2.ensures)

pub returns : goal.returns
unfolding count_reader most_length
returns c = c.read_count.ensures ∙ sym (then_given _ c.in_ok-q.ensures ∙ then_given _ c.in_ok-q-2.ensures)
