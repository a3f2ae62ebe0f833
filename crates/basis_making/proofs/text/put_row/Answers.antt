use Rattle.std.proofs.Common.{arith}
use Rattle.basis_making.specs.Text.{put_start, put_more, put_all, entry_short}
use Rattle.basis_making.proofs.text.put_row.Goals as goal

pub loop-j-init : goal.loop-j-init
loop-j-init c = put_start _ _ _ _ _

pub loop-j-preserved : goal.loop-j-preserved
loop-j-preserved c =
    put_more _ _ _ _ _ _ _ _ _ _ c.loop-j.invariant c.put_entry-end.ensures (entry_short c.args.basis.now c.requires.i_lt_most_rows.1.1 c.args.i c.loop-j.j)

pub returns : goal.returns
returns c = put_all _ _ _ _ _ _ _ _ _ (omega arith) c.loop-j.invariant
