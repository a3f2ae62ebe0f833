use Rattle.std.proofs.Common.{rules}
use Rattle.prepared.specs.Reading.{gives_on_ok}
use Rattle.prepared.proofs.prepare.Goals as goal

pub returns : goal.returns
returns c =
    let read = c.read_problem_into.ensures in
    record { form_after = read; gives = gives_on_ok c.args.problem.now (search rules) c.read_problem_into.result read }
