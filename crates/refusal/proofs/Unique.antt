-- Each public function's contract leaves one result.
use mathlib.Core.Path.{refl, sym, ◌∙◌}
use Rattle.unique.specs.OneResult.{OneResult}
use Rattle.refusal.proofs.narrow.Kinds as narrow_kinds
use Rattle.refusal.proofs.narrow.Reads as narrow
use Rattle.refusal.proofs.accepted.Kinds as accepted_kinds
use Rattle.refusal.proofs.accepted.Reads as accepted

pub narrow_unique : OneResult narrow_kinds.ps narrow_kinds.r narrow.Asked narrow.Learnt
narrow_unique κs a z z' w w' asked h h' = (h ∙ sym h', refl)

pub accepted_unique : OneResult accepted_kinds.ps accepted_kinds.r accepted.Asked accepted.Learnt
accepted_unique κs a z z' w w' asked h h' = (h ∙ sym h', refl)
