-- The public function's contract leaves one result.
use mathlib.Core.Path.{refl}
use Rattle.unique.specs.OneResult.{OneResult}
use Rattle.drawn.specs.Claims.{every_column_one}
use Rattle.drawn.proofs.every_column_zero.Kinds as every_column_zero_kinds
use Rattle.drawn.proofs.every_column_zero.Reads as every_column_zero

pub every_column_zero_unique : OneResult every_column_zero_kinds.ps every_column_zero_kinds.r every_column_zero.Asked every_column_zero.Learnt
every_column_zero_unique κs a z z' w w' asked h h' = (every_column_one _ _ _ _ _ _ z z' asked.arrays.P_below h h', refl)
