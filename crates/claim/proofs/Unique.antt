-- Each public function's contract leaves one result.
use Rattle.std.proofs.Common.{refl, sym, ◌∙◌}
use Rattle.unique.specs.OneResult.{OneResult}
use Rattle.claim.proofs.no_head.Kinds as no_head_kinds
use Rattle.claim.proofs.no_head.Reads as no_head
use Rattle.claim.proofs.no_problem.Kinds as no_problem_kinds
use Rattle.claim.proofs.no_problem.Reads as no_problem
use Rattle.claim.proofs.no_answer.Kinds as no_answer_kinds
use Rattle.claim.proofs.no_answer.Reads as no_answer

pub no_head_unique : OneResult no_head_kinds.ps no_head_kinds.r no_head.Asked no_head.Learnt
no_head_unique κs a z z' w w' asked h h' = (h ∙ sym h', refl)

pub no_problem_unique : OneResult no_problem_kinds.ps no_problem_kinds.r no_problem.Asked no_problem.Learnt
no_problem_unique κs a z z' w w' asked h h' = (h ∙ sym h', refl)

pub no_answer_unique : OneResult no_answer_kinds.ps no_answer_kinds.r no_answer.Asked no_answer.Learnt
no_answer_unique κs a z z' w w' asked h h' = (h ∙ sym h', refl)
