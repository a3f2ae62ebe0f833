-- Each public function's contract leaves one result.
use mathlib.Core.Path.{refl, sym, ◌∙◌}
use Rattle.unique.specs.OneResult.{OneResult}
use Rattle.verdict.specs.Meant.{four_of_injective}
use Rattle.drawing.specs.Meant.{drawn_meant_injective}
use Rattle.drawing.proofs.draw_files.Kinds as draw_files_kinds
use Rattle.drawing.proofs.draw_files.Reads as draw_files
use Rattle.drawing.proofs.drawn_numbers.Kinds as drawn_numbers_kinds
use Rattle.drawing.proofs.drawn_numbers.Reads as drawn_numbers

pub draw_files_unique : OneResult draw_files_kinds.ps draw_files_kinds.r draw_files.Asked draw_files.Learnt
draw_files_unique κs a z z' w w' asked h h' = (drawn_meant_injective z z' (h ∙ sym h'), refl)

pub drawn_numbers_unique : OneResult drawn_numbers_kinds.ps drawn_numbers_kinds.r drawn_numbers.Asked drawn_numbers.Learnt
drawn_numbers_unique κs a z z' w w' asked h h' = (four_of_injective z z' (h ∙ sym h'), refl)
