-- Each public function's contract leaves one result and, of the lent buffer, every byte at the end.
use Rattle.unique.specs.OneResult.{OneResult}
use Rattle.writer.specs.Appended.{appended_unique}
use Rattle.line.proofs.put_numbers.Kinds as put_numbers_kinds
use Rattle.line.proofs.put_numbers.Reads as put_numbers
use Rattle.line.proofs.line.Kinds as line_kinds
use Rattle.line.proofs.line.Reads as line
use Rattle.line.proofs.nofile.Kinds as nofile_kinds
use Rattle.line.proofs.nofile.Reads as nofile

pub put_numbers_unique : OneResult put_numbers_kinds.ps put_numbers_kinds.r put_numbers.Asked put_numbers.Learnt
put_numbers_unique κs a z z' w w' asked h h' = let e = appended_unique _ _ _ _ _ _ _ h h' in (e.0, λ i. (e.1 i, (tt, (tt, tt))))

pub line_unique : OneResult line_kinds.ps line_kinds.r line.Asked line.Learnt
line_unique κs a z z' w w' asked h h' = let e = appended_unique _ _ _ _ _ _ _ h h' in (e.0, λ i. (tt, (e.1 i, tt)))

pub nofile_unique : OneResult nofile_kinds.ps nofile_kinds.r nofile.Asked nofile.Learnt
nofile_unique κs a z z' w w' asked h h' = let e = appended_unique _ _ _ _ _ _ _ h h' in (e.0, λ i. (tt, (e.1 i, tt)))
