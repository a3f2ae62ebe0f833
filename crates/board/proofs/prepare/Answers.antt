use Rattle.std.proofs.Common.{ap, ◌∙◌, Err}
use Rattle.rules.specs.Verdict.{numbers, packed}
use Rattle.verdict.specs.Meant.{meant}
use Rattle.board.specs.Lent.{problem_with, refused_number, refused_left, read_number}
use Rattle.board.proofs.prepare.Goals as goal

pub returns-in-Err : goal.returns-in-Err
returns-in-Err c =
    let a = c.args in
    let lent = problem_with a.p.now a.m.now a.n.now a.orders.now a.shifts.now a.f.now in
    let off = c.in-Err.ensures.form_after in
    record {
      value = c.pack.ensures ∙ ap packed (c.numbers.ensures ∙ ap (λ e. numbers (meant (Err e))) c.from.ensures ∙ refused_number a.problem.now lent off);
      f_after = refused_left a.problem.now lent off;
    }

-- Where the problem is not refused, it is read.
pub returns-clause-value : goal.returns-clause-value
returns-clause-value c =
    let a = c.args in
    read_number a.problem.now (problem_with a.p.now a.m.now a.n.now a.orders.now a.shifts.now a.f.now) c.in_default.ensures.form_after
