-- Each public function's contract leaves one result.
use mathlib.Core.Path.{refl, sym, ◌∙◌}
use Rattle.unique.specs.OneResult.{OneResult}
use Rattle.matrix.proofs.leading.leading_matrix.Kinds as leading_matrix_kinds
use Rattle.matrix.proofs.leading.leading_matrix.Reads as leading_matrix
use Rattle.matrix.proofs.rank.rank_matrix.Kinds as rank_matrix_kinds
use Rattle.matrix.proofs.rank.rank_matrix.Reads as rank_matrix

pub leading_matrix_unique : OneResult leading_matrix_kinds.ps leading_matrix_kinds.r leading_matrix.Asked leading_matrix.Learnt
leading_matrix_unique κs a z z' w w' asked h h' = (h ∙ sym h', refl)

pub rank_matrix_unique : OneResult rank_matrix_kinds.ps rank_matrix_kinds.r rank_matrix.Asked rank_matrix.Learnt
rank_matrix_unique κs a z z' w w' asked h h' = (h ∙ sym h', refl)
