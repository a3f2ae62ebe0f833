use Rattle.std.proofs.Common.{arith, subst, get_or}
use Rattle.rules.specs.Writer.{bytes}
use Rattle.laws.specs.ByteNumbers.{length_bytes}
use Rattle.writer.specs.Appended.{Appended}
use Rattle.stepping.specs.Next.{coefficient_at}
use Rattle.basis_making.specs.Text.{put_start, put_more, put_all}
use Rattle.basis_making.proofs.text.put_numbers.Goals as goal

pub loop-t-init : goal.loop-t-init
loop-t-init c = put_start _ _ _ _ _

pub loop-t-preserved : goal.loop-t-preserved
loop-t-preserved c =
    let P = c.args.basis.now in
    let put = c.put4-end in
    put_more _ _ _ _ _ _ _ _ _ _ c.loop-t.invariant
    (subst (λ k. Appended c.loop-t.out put.new.out c.loop-t.end put.result (bytes 4 (get_or P.entries k 0))) c.entry_place.ensures put.ensures)
    (omega (arith, length_bytes 4 (coefficient_at P.entries c.args.i c.args.j c.loop-t.t)))

pub returns : goal.returns
returns c = put_all _ _ _ _ _ _ _ _ _ (omega arith) c.loop-t.invariant
