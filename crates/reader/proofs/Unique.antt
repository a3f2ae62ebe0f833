-- Each public function's contract leaves one result.
use mathlib.Core.Path.{refl, sym, ◌∙◌}
use Rattle.unique.specs.OneResult.{OneResult}
use Rattle.reader.proofs.read_problem.Kinds as read_problem_kinds
use Rattle.reader.proofs.read_problem.Reads as read_problem
use Rattle.reader.proofs.read_answer.Kinds as read_answer_kinds
use Rattle.reader.proofs.read_answer.Reads as read_answer

pub read_problem_unique : OneResult read_problem_kinds.ps read_problem_kinds.r read_problem.Asked read_problem.Learnt
read_problem_unique κs a z z' w w' asked h h' = (h ∙ sym h', refl)

pub read_answer_unique : OneResult read_answer_kinds.ps read_answer_kinds.r read_answer.Asked read_answer.Learnt
read_answer_unique κs a z z' w w' asked h h' = (h ∙ sym h', refl)
