-- The public function's contract leaves one result and, of the lent buffer, every byte at the end.
use Rattle.unique.specs.OneResult.{OneResult}
use Rattle.writer.specs.Appended.{appended_unique}
use Rattle.evidence.proofs.put_evidence.Kinds as put_evidence_kinds
use Rattle.evidence.proofs.put_evidence.Reads as put_evidence

pub put_evidence_unique : OneResult put_evidence_kinds.ps put_evidence_kinds.r put_evidence.Asked put_evidence.Learnt
put_evidence_unique κs a z z' w w' asked h h' =
    let e = appended_unique _ _ _ _ _ _ _ h h' in
    (e.0, λ i. (e.1 i, (tt, (tt, tt))))
