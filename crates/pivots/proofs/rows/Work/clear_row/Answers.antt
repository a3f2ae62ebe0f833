use Rattle.pivots.specs.RowLaws.{both_less}
use Rattle.pivots.proofs.rows.Work.clear_row.Goals as goal

pub returns : goal.returns
returns c =
    let a = c.args in
    let place = c.square_place.ensures in
    both_less a.p a.self.now.residuals a.self.now.constants a.k a.pivot.now.row a.pivot.now.column a.pivot.now.inverse c.mul_mod-f.result
    c.less_row.new.rows c.less_row-2.new.rows (rw place at c.mul_mod-f.ensures)
    c.less_row.ensures c.less_row-2.ensures
