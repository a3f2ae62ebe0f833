use Prim.Native.Nat.{◌≤◌}
use Rattle.matrix.specs.Fill.{RowFilled}
use Rattle.matrix.specs.Leading.{leading_number}
use Rattle.matrix.proofs.leading.leading_row.Given as goal

abbrev pub invariant-loop-j : goal.invariant-loop-j
invariant-loop-j l = (l.j ≤ l.head.m) × RowFilled l.j (leading_number l.basis.entries l.basis.lengths l.head.shifts l.head.m l.i) l.row
