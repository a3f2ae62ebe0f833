-- Each public function's contract leaves one result.
use mathlib.Core.Path.{refl, sym, ◌∙◌}
use Rattle.unique.specs.OneResult.{OneResult}
use Rattle.degrees.proofs.minus.Kinds as minus_kinds
use Rattle.degrees.proofs.minus.Reads as minus
use Rattle.degrees.proofs.not_negative.Kinds as not_negative_kinds
use Rattle.degrees.proofs.not_negative.Reads as not_negative
use Rattle.degrees.proofs.row_degree.Kinds as row_degree_kinds
use Rattle.degrees.proofs.row_degree.Reads as row_degree
use Rattle.degrees.proofs.degree_sum.Kinds as degree_sum_kinds
use Rattle.degrees.proofs.degree_sum.Reads as degree_sum

pub minus_unique : OneResult minus_kinds.ps minus_kinds.r minus.Asked minus.Learnt
minus_unique κs a z z' w w' asked h h' = (h ∙ sym h', refl)

pub not_negative_unique : OneResult not_negative_kinds.ps not_negative_kinds.r not_negative.Asked not_negative.Learnt
not_negative_unique κs a z z' w w' asked h h' = (h ∙ sym h', refl)

pub row_degree_unique : OneResult row_degree_kinds.ps row_degree_kinds.r row_degree.Asked row_degree.Learnt
row_degree_unique κs a z z' w w' asked h h' = (h ∙ sym h', refl)

pub degree_sum_unique : OneResult degree_sum_kinds.ps degree_sum_kinds.r degree_sum.Asked degree_sum.Learnt
degree_sum_unique κs a z z' w w' asked h h' = (h ∙ sym h', refl)
