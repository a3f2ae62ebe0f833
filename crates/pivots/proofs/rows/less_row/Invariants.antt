use Rattle.pivots.specs.Rows.{RowLess}
use Rattle.pivots.proofs.rows.less_row.Given as goal

abbrev pub invariant-loop-j : goal.invariant-loop-j
invariant-loop-j l = RowLess l.p l.initial.rows l.i l.f l.r l.j l.rows
