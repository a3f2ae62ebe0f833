-- Each public function's contract leaves one result.
use mathlib.Core.Path.{refl}
use Rattle.unique.specs.OneResult.{OneResult}
use Rattle.polynomial.specs.Coefficients.{coefficients_unique}
use Rattle.determinant.proofs.determinant_of.Kinds as determinant_of_kinds
use Rattle.determinant.proofs.determinant_of.Reads as determinant_of

pub determinant_of_unique : OneResult determinant_of_kinds.ps determinant_of_kinds.r determinant_of.Asked determinant_of.Learnt
determinant_of_unique κs a z z' w w' asked h h' = (coefficients_unique _ _ z z' h h', refl)
