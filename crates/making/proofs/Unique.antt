-- The public function's contract leaves one result and, of the lent buffer, every byte at the end.
use mathlib.Core.Path.{sym, ◌∙◌}
use Rattle.unique.specs.OneResult.{OneResult}
use Rattle.verdict.specs.Replies.{reply_meant_injective}
use Rattle.making.proofs.evidence_files.Kinds as evidence_files_kinds
use Rattle.making.proofs.evidence_files.Reads as evidence_files

pub evidence_files_unique : OneResult evidence_files_kinds.ps evidence_files_kinds.r evidence_files.Asked evidence_files.Learnt
evidence_files_unique κs a z z' w w' asked h h' =
    (reply_meant_injective z z' (h.0 ∙ sym h'.0), λ i. (tt, (tt, ((h.1 ∙ sym h'.1) i, tt))))
