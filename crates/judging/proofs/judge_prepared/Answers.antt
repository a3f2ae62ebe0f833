use Rattle.std.proofs.Common.{rules, ◌≡◌, ◌∙◌, length}
use Rattle.rules.specs.Sizes.{most_rows, most_order}
use Rattle.layout.specs.Flat.{column_coefficients}
use Rattle.judging.specs.Steps.{form_head, form_columns, form_valid, on_verdict}
use Rattle.judging.proofs.judge_prepared.Goals as goal

-- Where the test is passed, a file gives the form. The arrays are as long as their types say.
pub judge_answer-requires : goal.judge_answer-requires
unfolding most_rows most_order
judge_answer-requires c =
    let b = c.args.problem.now in
    let file = c.given.ensures.holds c.if-not-given.false in
    let long_orders : length b.head.orders ≡ most_rows = search rules in
    let long_shifts : length b.head.shifts ≡ most_rows = search rules in
    let long : length b.f ≡ column_coefficients = search rules in
    record {
      valid = form_valid b.head b.f file;
      sound = record { sound_head = form_head b.head b.f file long_orders long_shifts; sound_columns = form_columns b.head b.f file long };
    }

pub returns : goal.returns
returns c =
    let b = c.args.problem.now in
    let (s, g) = c.given.ensures.holds c.if-not-given.false in
    (s, g, c.judge_answer.ensures ∙ on_verdict s c.args.answer.now b.head b.f g)
