-- Each public function's contract leaves one result and, of the lent buffer, every byte at the end.
use mathlib.Core.Path.{refl, sym, ◌∙◌}
use Rattle.unique.specs.OneResult.{OneResult}
use Rattle.verdict.specs.Meant.{four_of_injective}
use Rattle.basis_making.specs.Meant.{basis_meant_injective}
use Rattle.basis_making.proofs.basis_file.Kinds as basis_file_kinds
use Rattle.basis_making.proofs.basis_file.Reads as basis_file
use Rattle.basis_making.proofs.basis_numbers.Kinds as basis_numbers_kinds
use Rattle.basis_making.proofs.basis_numbers.Reads as basis_numbers

pub basis_file_unique : OneResult basis_file_kinds.ps basis_file_kinds.r basis_file.Asked basis_file.Learnt
basis_file_unique κs a z z' w w' asked h h' =
    (basis_meant_injective z z' (h.0 ∙ sym h'.0), λ i. (tt, (tt, ((h.1 ∙ sym h'.1) i, tt))))

pub basis_numbers_unique : OneResult basis_numbers_kinds.ps basis_numbers_kinds.r basis_numbers.Asked basis_numbers.Learnt
basis_numbers_unique κs a z z' w w' asked h h' = (four_of_injective z z' (h ∙ sym h'), refl)
