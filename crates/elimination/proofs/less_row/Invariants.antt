use Rattle.elimination.specs.Grid.{RowLess}
use Rattle.elimination.proofs.less_row.Given as goal

abbrev pub invariant-loop-j : goal.invariant-loop-j
invariant-loop-j l = RowLess l.p l.initial.x l.f l.y l.c l.j l.x
