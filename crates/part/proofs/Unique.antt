-- Each public function's contract leaves one result; of a slice that is handed back, its bytes and where they lie.
use mathlib.Core.Path.{refl, sym, ◌∙◌}
use Rattle.unique.specs.OneResult.{OneResult, OneResultBy, SameReference}
use Rattle.part.specs.Parts.{part_of_injective, part_in_unique}
use Rattle.part.proofs.span.Kinds as span_kinds
use Rattle.part.proofs.span.Reads as span
use Rattle.part.proofs.cut.Kinds as cut_kinds
use Rattle.part.proofs.cut.Reads as cut
use Rattle.part.proofs.pointed_at.Kinds as pointed_at_kinds
use Rattle.part.proofs.pointed_at.Reads as pointed_at

pub span_unique : OneResult span_kinds.ps span_kinds.r span.Asked span.Learnt
span_unique κs a z z' w w' asked h h' = (part_of_injective z z' (h ∙ sym h'), refl)

pub cut_unique : OneResultBy cut_kinds.ps cut_kinds.r cut.Asked cut.Learnt (λ κs z z'. SameReference z z')
cut_unique κs a z z' w w' asked h h' = (part_in_unique _ _ z z' _ h h', refl)

pub pointed_at_unique : OneResultBy pointed_at_kinds.ps pointed_at_kinds.r pointed_at.Asked pointed_at.Learnt (λ κs z z'. SameReference z z')
pointed_at_unique κs a z z' w w' asked h h' = (part_in_unique _ _ z z' _ h h', refl)
