use mathlib.Core.Path.{◌≡◌, refl, subst}
use mathlib.Core.List.{List}
use Prim.Native.Nat.{ℕ}
use native.Mathlib.Omega.{arith}
use Rattle.rules.specs.Writer.{bytes}
use Rattle.rules.specs.Files.{CE_mark}
use Rattle.writer.specs.Appended.{Appended}
use Rattle.claim.specs.Claims.{problem_in, basis_in}
use Rattle.evidence.specs.Record.{rows_start, rows_more, record_done}
use Rattle.evidence.proofs.put_evidence.Goals as goal

pub loop-i-init : goal.loop-i-init
loop-i-init c = rows_start (problem_in c.args.problem.now) (basis_in c.args.problem.now.head.m c.args.basis.now) c.put_text-end.result c.put_text-end.new.out

pub loop-i-preserved : goal.loop-i-preserved
loop-i-preserved c =
    let l = c.loop-i in
    let mark = c.put_text-end in
    let row = c.put_row-end in
    rows_more (problem_in c.args.problem.now) (basis_in c.args.problem.now.head.m c.args.basis.now) mark.result mark.new.out l.out row.new.out l.end row.result l.i (omega arith) l.invariant row.ensures

-- What is put first is the mark.
marked : {before after text : List ℕ} {end : ℕ} → Appended before after 0 end text → text ≡ bytes 2 CE_mark → Appended before after 0 end (bytes 2 CE_mark)
marked {before} {after} {end = end} put same = subst (Appended before after 0 end) same put

pub returns : goal.returns
unfolding bytes
returns c =
    let l = c.loop-i in
    let mark = c.put_text-end in
    record_done (problem_in c.args.problem.now) (basis_in c.args.problem.now.head.m c.args.basis.now) mark.result mark.new.out c.args.out.now l.out l.end l.i (marked mark.ensures refl) (omega arith) l.invariant
