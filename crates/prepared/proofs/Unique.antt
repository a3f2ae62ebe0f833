-- Each public function's contract leaves one result and, of the lent struct, every number at the end.
use mathlib.Core.Path.{refl}
use Rattle.unique.specs.OneResult.{OneResult}
use Rattle.layout.specs.Settles.{settles_unique}
use Rattle.problem_file.proofs.Unique.{read_problem_into_unique}
use Rattle.prepared.proofs.prepare.Kinds as prepare_kinds
use Rattle.prepared.proofs.prepare.Reads as prepare
use Rattle.prepared.proofs.given.Kinds as given_kinds
use Rattle.prepared.proofs.given.Reads as given

pub prepare_unique : OneResult prepare_kinds.ps prepare_kinds.r prepare.Asked prepare.Learnt
prepare_unique κs a z z' w w' asked h h' = read_problem_into_unique κs a z z' w w' asked h.0 h'.0

pub given_unique : OneResult given_kinds.ps given_kinds.r given.Asked given.Learnt
given_unique κs a z z' w w' asked h h' = (settles_unique z z' h h', refl)
