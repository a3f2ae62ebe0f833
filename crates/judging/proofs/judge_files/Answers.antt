use Rattle.std.proofs.Common.{sym, ◌∙◌}
use Rattle.laws.specs.PreparedLaws.{verdict_after_problem}
use Rattle.laws.specs.Ranges.{problem_valid}
use Rattle.reader.specs.Readings.{problem_off, problem_read, problem_sound}
use Rattle.judging.specs.Steps.{off_verdict}
use Rattle.judging.proofs.judge_files.Goals as goal

pub returns-in-Err : goal.returns-in-Err
returns-in-Err c = let s = c.args.problem.now in off_verdict s c.args.answer.now (problem_off s c.in-Err.ensures.form_after)

-- Where it is not refused the problem was read.
pub judge_answer-requires : goal.judge_answer-requires
judge_answer-requires c =
    let s = c.args.problem.now in
    let read = c.in_default.ensures.form_after in
    record { valid = problem_valid s (problem_read s read); sound = problem_sound s read }

pub returns : goal.returns
returns c =
    let s = c.args.problem.now in
    c.judge_answer.ensures ∙ sym (verdict_after_problem s c.args.answer.now (problem_read s c.in_default.ensures.form_after))
