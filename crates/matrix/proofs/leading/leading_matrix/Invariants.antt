use Prim.Native.Nat.{◌≤◌}
use Rattle.matrix.specs.Fill.{RowsFilled}
use Rattle.matrix.specs.Leading.{leading_number}
use Rattle.matrix.proofs.leading.leading_matrix.Given as goal

abbrev pub invariant-loop-i : goal.invariant-loop-i
invariant-loop-i l = (l.i ≤ l.head.m) × RowsFilled l.i l.head.m (leading_number l.basis.entries l.basis.lengths l.head.shifts l.head.m) l.rows
