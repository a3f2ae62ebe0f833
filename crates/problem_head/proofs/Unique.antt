-- The public function's contract leaves one result.
use mathlib.Core.Path.{refl, sym, ◌∙◌}
use Rattle.unique.specs.OneResult.{OneResult}
use Rattle.problem_head.specs.Head.{headed_one}
use Rattle.problem_head.proofs.read_head.Kinds as read_head_kinds
use Rattle.problem_head.proofs.read_head.Reads as read_head

pub read_head_unique : OneResult read_head_kinds.ps read_head_kinds.r read_head.Asked read_head.Learnt
read_head_unique κs a z z' w w' asked h h' = (headed_one z z' (h ∙ sym h'), refl)
