-- `reader::read_answer` meets its contract. Assumes nothing.
use Rattle.std.proofs.Common.{ap, ◌∙◌, Err}
use Rattle.std.proofs.lemmas.Result.{err_from_is_err_and}
use Rattle.reader.specs.Readings.{handed}
use Rattle.reader.proofs.read_answer.Goals as goal

pub returns-in_err-read_answer_into : goal.returns-in_err-read_answer_into
unfolding handed
returns-in_err-read_answer_into c =
    let (y, is, same) = err_from_is_err_and c.from_residual.result c.from_residual.ensures.1 in
    is ∙ ap Err same ∙ ap handed c.in_err-read_answer_into.ensures

pub returns : goal.returns
unfolding handed
returns c = ap handed c.in_ok-read_answer_into.ensures
