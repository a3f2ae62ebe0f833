-- Each public function's contract leaves one result and, of the lent buffer, every byte at the end.
use Rattle.unique.specs.OneResult.{OneResult}
use Rattle.writer.specs.Appended.{appended_unique}
use Rattle.writer.proofs.put_text.Kinds as put_text_kinds
use Rattle.writer.proofs.put_text.Reads as put_text
use Rattle.writer.proofs.put4.Kinds as put4_kinds
use Rattle.writer.proofs.put4.Reads as put4
use Rattle.writer.proofs.put_number.Kinds as put_number_kinds
use Rattle.writer.proofs.put_number.Reads as put_number

pub put_text_unique : OneResult put_text_kinds.ps put_text_kinds.r put_text.Asked put_text.Learnt
put_text_unique κs a z z' w w' asked h h' = let e = appended_unique _ _ _ _ _ _ _ h h' in (e.0, λ i. (e.1 i, (tt, (tt, tt))))

pub put4_unique : OneResult put4_kinds.ps put4_kinds.r put4.Asked put4.Learnt
put4_unique κs a z z' w w' asked h h' = let e = appended_unique _ _ _ _ _ _ _ h h' in (e.0, λ i. (e.1 i, (tt, (tt, tt))))

pub put_number_unique : OneResult put_number_kinds.ps put_number_kinds.r put_number.Asked put_number.Learnt
put_number_unique κs a z z' w w' asked h h' = let e = appended_unique _ _ _ _ _ _ _ h h' in (e.0, λ i. (e.1 i, (tt, (tt, tt))))
