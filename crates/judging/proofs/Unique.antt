-- Each public function's contract leaves one result.
use mathlib.Core.Path.{refl, sym, ◌∙◌}
use Rattle.unique.specs.OneResult.{OneResult}
use Rattle.verdict.specs.Meant.{meant_injective, four_of_injective}
use Rattle.judging.specs.One.{judges_same, prepared_meant_unique}
use Rattle.judging.proofs.judge_files.Kinds as judge_files_kinds
use Rattle.judging.proofs.judge_files.Reads as judge_files
use Rattle.judging.proofs.judge_prepared.Kinds as judge_prepared_kinds
use Rattle.judging.proofs.judge_prepared.Reads as judge_prepared
use Rattle.judging.proofs.prepared_numbers.Kinds as prepared_numbers_kinds
use Rattle.judging.proofs.prepared_numbers.Reads as prepared_numbers

pub judge_files_unique : OneResult judge_files_kinds.ps judge_files_kinds.r judge_files.Asked judge_files.Learnt
judge_files_unique κs a z z' w w' asked h h' = (meant_injective z z' (h ∙ sym h'), refl)

pub judge_prepared_unique : OneResult judge_prepared_kinds.ps judge_prepared_kinds.r judge_prepared.Asked judge_prepared.Learnt
judge_prepared_unique κs a z z' w w' asked h h' = (prepared_meant_unique z z' (judges_same a.0.now.head a.0.now.f a.1.0.now _ _ h h'), refl)

pub prepared_numbers_unique : OneResult prepared_numbers_kinds.ps prepared_numbers_kinds.r prepared_numbers.Asked prepared_numbers.Learnt
prepared_numbers_unique κs a z z' w w' asked h h' = (four_of_injective z z' (h ∙ sym h'), refl)
