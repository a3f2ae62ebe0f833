-- The public function's contract leaves one result.
use mathlib.Core.Path.{refl, sym, ◌∙◌}
use Rattle.unique.specs.OneResult.{OneResult}
use Rattle.verdict.specs.Meant.{meant_injective}
use Rattle.conditions.proofs.conditions.Kinds as conditions_kinds
use Rattle.conditions.proofs.conditions.Reads as conditions

pub conditions_unique : OneResult conditions_kinds.ps conditions_kinds.r conditions.Asked conditions.Learnt
conditions_unique κs a z z' w w' asked h h' = (meant_injective z z' (h ∙ sym h'), refl)
