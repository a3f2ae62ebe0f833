use Rattle.make.specs.Made.{answer_fits}
use Rattle.make.proofs.made.Goals as goal

pub returns-clause-within : goal.returns-clause-within
returns-clause-within c =
    answer_fits c.args.problem.now c.args.steps c.args.file.now _ c.basis_file.result c.basis_file.ensures.result_value c.basis_file.ensures.buffer_after
