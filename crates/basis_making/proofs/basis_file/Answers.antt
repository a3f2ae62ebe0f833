use Rattle.std.proofs.Common.{min, get_or, ◌≡◌, sym, ap, subst, ◌∙◌, List, ℕ, ◌≤◌, arith, Ok}
use Rattle.rules.specs.Sizes.{most_rows, most_order, most_length}
use Rattle.rules.specs.Conditions.{max_below}
use Rattle.rules.specs.Files.{read_problem}
use Rattle.rules.specs.Maker.{steps_done}
use Rattle.rules.specs.MakeBasis.{MadeBasis}
use Rattle.claim.specs.declared.Problem.{Problem}
use Rattle.claim.specs.Claims.{problem_in}
use Rattle.laws.specs.Ranges.{problem_valid}
use Rattle.laws.specs.MakerPasses.{steps_done_most}
use Rattle.problem_file.specs.Values.{problem_value}
use Rattle.reader.specs.Readings.{handed, handed_on, problem_read, problem_head, problem_columns, problem_sound}
use Rattle.basis_making.specs.Meant.{basis_meant_unread}
use Rattle.basis_making.specs.Cut.{done_is}
use Rattle.basis_making.specs.Service.{basis_off, room_lacks, basis_put}
use Rattle.basis_making.proofs.basis_file.Goals as goal

module _ (s : List ℕ) (steps : ℕ) (x : Problem) (read : Ok x ≡ handed (problem_value (read_problem s))) (done : ℕ)
    (is : done ≡ min steps (max_below x.head.n (λ j. get_or x.head.orders j 0))) where
  -- The steps done are those of the rules, …
  done_rules : done ≡ steps_done (problem_in x) steps
  done_rules = let e = handed_on _ read in is ∙ done_is x.head x.f 0 (problem_head s e) (problem_columns s e) steps

  -- … and no more than the largest order that is allowed.
  done_most : done ≤ most_order
  done_most = subst (λ k. k ≤ most_order) (sym done_rules) (steps_done_most _ (problem_valid s (problem_read s (handed_on _ read))) steps)

pub returns-in_err-given : goal.returns-in_err-given
returns-in_err-given c =
    let a = c.args in
    let e = basis_off a.problem.now a.steps a.buffer.now c.in_err-given.ensures in
    record {
      result_value = basis_meant_unread _ c.from_residual.ensures.1 ∙ sym (ap (λ (x : MadeBasis). x.answer) e);
      buffer_after = sym (ap (λ (x : MadeBasis). x.buffer) e);
    }

pub steps_done-done-requires : goal.steps_done-done-requires
steps_done-done-requires c = (problem_head c.args.problem.now (handed_on _ c.in_ok-given.ensures)).columns_most

pub put_answer-needed-requires : goal.put_answer-needed-requires
unfolding most_rows most_length
put_answer-needed-requires c =
    let s = c.args.problem.now in
    let read = c.in_ok-given.ensures in
    record {
      sound = (problem_sound s (handed_on _ read), problem_valid s (problem_read s (handed_on _ read)));
      done_le_most_order = (done_most s c.args.steps _ read _ c.steps_done-done.ensures, omega arith);
    }

pub returns-then-buffer-needed : goal.returns-then-buffer-needed
returns-then-buffer-needed c =
    let a = c.args in
    let s = a.problem.now in
    let read = c.in_ok-given.ensures in
    let done = c.steps_done-done in
    let e = room_lacks s a.steps a.buffer.now read done.result (done_rules s a.steps _ read _ done.ensures) _ _ _ c.put_answer-needed.ensures
    c.if-buffer-needed.true in
    record {
      result_value = sym (ap (λ (x : MadeBasis). x.answer) e);
      buffer_after = sym (ap (λ (x : MadeBasis). x.buffer) e);
    }

pub overflow_cast-result : goal.overflow_cast-result
unfolding most_order
overflow_cast-result c = omega (arith, done_most c.args.problem.now c.args.steps _ c.in_ok-given.ensures _ c.steps_done-done.ensures)

pub returns : goal.returns
returns c =
    let a = c.args in
    let s = a.problem.now in
    let read = c.in_ok-given.ensures in
    let done = c.steps_done-done in
    let e = basis_put s a.steps a.buffer.now read done.result (done_rules s a.steps _ read _ done.ensures) _ _ _ c.put_answer-needed.ensures
    c.if-buffer-needed.false c.put_text.new.out c.put_text.result c.put_text.ensures in
    record {
      result_value = sym (ap (λ (x : MadeBasis). x.answer) e);
      buffer_after = sym (ap (λ (x : MadeBasis). x.buffer) e);
    }
