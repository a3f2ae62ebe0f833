use Rattle.std.proofs.Common.{◌∙◌}
use Rattle.claim.specs.Claims.{problem_in}
use Rattle.verdict.specs.Meant.{meant_unread}
use Rattle.reader.specs.Readings.{answer_off, answer_read, answer_basis, answer_constants}
use Rattle.judging.specs.Steps.{answer_off_verdict, answer_verdict}
use Rattle.judging.proofs.judge_answer.Goals as goal

pub returns-in_err-read_answer_into : goal.returns-in_err-read_answer_into
returns-in_err-read_answer_into c =
    let b = c.args.problem.now in
    let t = c.args.answer.now in
    meant_unread _ c.from_residual.ensures.1
    ∙ answer_off_verdict (problem_in b) t (answer_off b c.requires.valid t c.in_err-read_answer_into.ensures)

-- Where the answer is not refused, it is read.
pub conditions-requires : goal.conditions-requires
conditions-requires c =
    let b = c.args.problem.now in
    let t = c.args.answer.now in
    let read = c.in_ok-read_answer_into.ensures in
    record {
      sound_head = c.requires.sound.sound_head;
      sound_columns = c.requires.sound.sound_columns;
      sound_basis = answer_basis b c.requires.valid t read;
      C_below = answer_constants b c.requires.valid t read;
    }

pub returns : goal.returns
returns c =
    let b = c.args.problem.now in
    let t = c.args.answer.now in
    c.conditions.ensures ∙ answer_verdict (problem_in b) t (answer_read b c.requires.valid t c.in_ok-read_answer_into.ensures)
