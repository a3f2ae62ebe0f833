use Rattle.std.proofs.Common.{arith}
use Rattle.rules.specs.Writer.{write_PE, write_basis}
use Rattle.basis_making.specs.Text.{entry_room, entry, put_start, put_more, put_all, entry_short, write_short}
use Rattle.basis_making.proofs.text.put_basis.Goals as goal

pub loop-i-init : goal.loop-i-init
loop-i-init c = put_start _ _ _ _ _

pub loop-i-preserved : goal.loop-i-preserved
loop-i-preserved c =
    let P = c.args.basis.now in
    let i = c.loop-i.i in
    put_more _ _ _ _ _ _ _ _ _ _ c.loop-i.invariant c.put_row-end.ensures
    (write_short (write_PE i) (entry P i) entry_room (entry_short P c.requires.m_le_most_rows.1 i) c.args.m)

pub returns : goal.returns
unfolding write_basis
returns c = put_all _ _ _ _ _ _ _ _ _ (omega arith) c.loop-i.invariant
