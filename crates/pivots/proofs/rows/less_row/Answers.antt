use Rattle.std.proofs.Common.{arith}
use Rattle.rules.specs.Sizes.{most_rows}
use Rattle.pivots.specs.RowLaws.{less_more}
use Rattle.pivots.proofs.rows.less_row.Goals as goal

pub loop-j-preserved : goal.loop-j-preserved
unfolding most_rows
loop-j-preserved c =
    let l = c.loop-j in
    let a = c.args in
    let place = c.square_place-place.ensures in
    let other = c.square_place.ensures in
    rw place (less_more a.p a.rows.now a.i a.f a.r l.rows l.j c.mul_mod-product.result c.sub_mod.result
    (omega arith) (omega arith) l.invariant (rw other at c.mul_mod-product.ensures) (rw place at c.sub_mod.ensures))
