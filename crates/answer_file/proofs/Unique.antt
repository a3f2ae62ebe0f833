-- The public function's contract leaves one result and, of the lent struct, every number at the end.
use mathlib.Core.Path.{sym, ◌∙◌}
use Rattle.unique.specs.OneResult.{OneResult}
use Rattle.answer_file.proofs.read_answer_into.Kinds as read_answer_into_kinds
use Rattle.answer_file.proofs.read_answer_into.Reads as read_answer_into

pub read_answer_into_unique : OneResult read_answer_into_kinds.ps read_answer_into_kinds.r read_answer_into.Asked read_answer_into.Learnt
read_answer_into_unique κs a z z' w w' asked h h' = let e = h ∙ sym h' in (λ i. (e i).0, λ i. (tt, (tt, (tt, ((e i).1, tt)))))
