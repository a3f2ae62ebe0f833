use Rattle.std.proofs.Common.{◌≡◌, refl, sym, ap, ◌∙◌, arith, List, ℕ}
use Rattle.rules.specs.Sizes.{most_rows}
use Rattle.rules.specs.Reply.{Made, Reply}
use Rattle.laws.specs.Ranges.{problem_valid}
use Rattle.laws.specs.WriterLaws.{rectangle_most}
use Rattle.verdict.specs.Replies.{reply_meant_unread}
use Rattle.reader.specs.Readings.{problem_off, problem_read, problem_head, problem_sound, basis_off, basis_read, basis_sound}
use Rattle.making.specs.Steps.{evidence_off, evidence_answer_off, room_lacks, evidence_put}
use Rattle.making.proofs.evidence_files.Goals as goal

-- What is made says what is answered, and what is left in the buffer.
settled : {made : Made} {given answer : Reply} {buffer : List ℕ} → given ≡ answer → made ≡ record { answer = answer; buffer = buffer }
    → record { result_value : given ≡ made.answer; buffer_after : buffer ≡ made.buffer }
settled same e = record { result_value = same ∙ sym (ap (λ (x : Made). x.answer) e); buffer_after = sym (ap (λ (x : Made). x.buffer) e) }

pub returns-in_err-prepare : goal.returns-in_err-prepare
returns-in_err-prepare c =
    let a = c.args in
    let s = a.problem.now in
    settled (reply_meant_unread _ c.from_residual.ensures.1) (evidence_off s a.answer.now a.buffer.now (problem_off s c.in_err-prepare.ensures.form_after))

-- Past the first `?` the problem was read, past the second the answer.
pub read_answer_into-requires-clause-m_le_most_rows : goal.read_answer_into-requires-clause-m_le_most_rows
read_answer_into-requires-clause-m_le_most_rows c =
    let head = problem_head c.args.problem.now c.in_ok-prepare.ensures.form_after in (head.rows_most, head.columns_most)

pub returns-in_err-read_answer_into : goal.returns-in_err-read_answer_into
returns-in_err-read_answer_into c =
    let a = c.args in
    let s = a.problem.now in
    let problem = problem_read s c.in_ok-prepare.ensures.form_after in
    settled (reply_meant_unread _ c.from_residual-in_err-read_answer_into.ensures.1)
    (evidence_answer_off s a.answer.now a.buffer.now problem (basis_off c.prepare.new.form (problem_valid s problem) a.answer.now c.in_err-read_answer_into.ensures))

pub put_evidence-needed-requires-clause-sound : goal.put_evidence-needed-requires-clause-sound
put_evidence-needed-requires-clause-sound c =
    let s = c.args.problem.now in
    let read = c.in_ok-prepare.ensures.form_after in
    (problem_sound s read, basis_sound c.prepare.new.form (problem_valid s (problem_read s read)) c.args.answer.now c.in_ok-read_answer_into.ensures)

pub put_evidence-needed-requires-clause-n_in_bounds : goal.put_evidence-needed-requires-clause-n_in_bounds
unfolding most_rows
put_evidence-needed-requires-clause-n_in_bounds c =
    let head = problem_head c.args.problem.now c.in_ok-prepare.ensures.form_after in omega (arith, rectangle_most head.rows_most head.columns_most)

pub returns-then-buffer-needed : goal.returns-then-buffer-needed
returns-then-buffer-needed c =
    let a = c.args in
    let s = a.problem.now in
    let problem = problem_read s c.in_ok-prepare.ensures.form_after in
    let basis = basis_read c.prepare.new.form (problem_valid s problem) a.answer.now c.in_ok-read_answer_into.ensures in
    settled refl (room_lacks s a.answer.now a.buffer.now problem basis c.put_evidence-needed.ensures (omega arith))

pub returns : goal.returns
returns c =
    let a = c.args in
    let s = a.problem.now in
    let problem = problem_read s c.in_ok-prepare.ensures.form_after in
    let basis = basis_read c.prepare.new.form (problem_valid s problem) a.answer.now c.in_ok-read_answer_into.ensures in
    settled refl (evidence_put s a.answer.now a.buffer.now problem basis c.put_evidence-needed.ensures (omega arith) c.put_text.ensures)
