-- Each public function's contract leaves one result.
use mathlib.Core.Path.{refl, sym, ◌∙◌}
use Rattle.unique.specs.OneResult.{OneResult}
use Rattle.verdict.specs.Meant.{four_of_injective}
use Rattle.verdict.proofs.numbers.Kinds as numbers_kinds
use Rattle.verdict.proofs.numbers.Reads as numbers
use Rattle.verdict.proofs.reply_numbers.Kinds as reply_numbers_kinds
use Rattle.verdict.proofs.reply_numbers.Reads as reply_numbers
use Rattle.verdict.proofs.pack.Kinds as pack_kinds
use Rattle.verdict.proofs.pack.Reads as pack

pub numbers_unique : OneResult numbers_kinds.ps numbers_kinds.r numbers.Asked numbers.Learnt
numbers_unique κs a z z' w w' asked h h' = (four_of_injective z z' (h ∙ sym h'), refl)

pub reply_numbers_unique : OneResult reply_numbers_kinds.ps reply_numbers_kinds.r reply_numbers.Asked reply_numbers.Learnt
reply_numbers_unique κs a z z' w w' asked h h' = (four_of_injective z z' (h ∙ sym h'), refl)

pub pack_unique : OneResult pack_kinds.ps pack_kinds.r pack.Asked pack.Learnt
pack_unique κs a z z' w w' asked h h' = (h ∙ sym h', refl)
