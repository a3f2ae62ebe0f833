use Rattle.std.proofs.Common.{◌∙◌}
use Rattle.drawing.specs.Meant.{drawn_unread}
use Rattle.drawing.specs.Steps.{off_drawn, answer_off_drawn, both_arrays, both_sound, both_drawn}
use Rattle.reader.specs.Readings.{problem_head}
use Rattle.drawing.proofs.draw_files.Goals as goal

pub returns-in_err-read_problem_into : goal.returns-in_err-read_problem_into
returns-in_err-read_problem_into c =
    let a = c.args in
    drawn_unread c.from_residual.result c.from_residual.ensures.1
    ∙ off_drawn a.problem.now a.answer.now a.u.now a.point c.in_err-read_problem_into.ensures

pub read_answer_into-requires-clause-m_le_most_rows : goal.read_answer_into-requires-clause-m_le_most_rows
read_answer_into-requires-clause-m_le_most_rows c =
    let sound = problem_head c.args.problem.now c.in_ok-read_problem_into.ensures in
    (sound.rows_most, sound.columns_most)

pub returns-in_err-read_answer_into : goal.returns-in_err-read_answer_into
returns-in_err-read_answer_into c =
    let a = c.args in
    drawn_unread c.from_residual-in_err-read_answer_into.result c.from_residual-in_err-read_answer_into.ensures.1
    ∙ answer_off_drawn a.problem.now a.answer.now a.u.now a.point c.in_ok-read_problem_into.ensures c.in_err-read_answer_into.ensures

pub draw_claim-requires : goal.draw_claim-requires
draw_claim-requires c =
    let a = c.args in
    both_arrays a.problem.now a.answer.now a.u.now a.point c.in_ok-read_problem_into.ensures c.in_ok-read_answer_into.ensures

pub returns : goal.returns
returns c =
    let a = c.args in
    let read = c.in_ok-read_problem_into.ensures in
    let read_answer = c.in_ok-read_answer_into.ensures in
    c.draw_claim.ensures c.read_answer_into.new.answer.basis.lengths (both_sound a.problem.now a.answer.now a.u.now a.point read read_answer)
    ∙ both_drawn a.problem.now a.answer.now a.u.now a.point read read_answer
