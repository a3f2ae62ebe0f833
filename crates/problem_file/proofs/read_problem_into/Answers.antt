-- `problem_file::read_problem_into` meets its contract. Assumes nothing.
use Rattle.std.proofs.Common.{sym, ap, ◌∙◌, Ok, Err}
use Rattle.storing.specs.Storing.{into_got, into_refused}
use Rattle.problem_file.specs.Values.{problem_value, problem_refused}
use Rattle.problem_file.proofs.read_problem_into.Goals as goal

pub narrow-requires : goal.narrow-requires
narrow-requires c = problem_refused c.args.s.now (sym (into_refused _ _ c.in-Err.ensures))

pub returns-in-Err : goal.returns-in-Err
unfolding problem_value
returns-in-Err c = (λ i. (Err (c.narrow.ensures i), c.no_problem.ensures i)) ∙ ap problem_value (into_refused _ _ c.in-Err.ensures)

pub returns : goal.returns
unfolding problem_value
returns c =
    let (b, read, stands) = into_got _ _ c.in_default.ensures in
    (λ i. (Ok tt, sym stands i)) ∙ ap problem_value read
