-- The public function's contract leaves one result.
use mathlib.Core.Path.{refl, sym, ◌∙◌}
use Rattle.unique.specs.OneResult.{OneResult}
use Rattle.place.specs.Places.{taken_one}
use Rattle.number.proofs.read_number.Kinds as read_number_kinds
use Rattle.number.proofs.read_number.Reads as read_number

pub read_number_unique : OneResult read_number_kinds.ps read_number_kinds.r read_number.Asked read_number.Learnt
read_number_unique κs a z z' w w' asked h h' = (taken_one z z' (h ∙ sym h'), refl)
