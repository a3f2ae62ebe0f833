-- The public function's contract leaves one result and, of the lent struct, every number at the end.
use mathlib.Core.Path.{sym, ◌∙◌}
use Rattle.unique.specs.OneResult.{OneResult}
use Rattle.problem_file.proofs.read_problem_into.Kinds as read_problem_into_kinds
use Rattle.problem_file.proofs.read_problem_into.Reads as read_problem_into

pub read_problem_into_unique : OneResult read_problem_into_kinds.ps read_problem_into_kinds.r read_problem_into.Asked read_problem_into.Learnt
read_problem_into_unique κs a z z' w w' asked h h' = let e = h ∙ sym h' in (λ i. (e i).0, λ i. (tt, ((e i).1, tt)))
