use Prim.Native.Nat.{◌+◌, ◌≤◌}
use Rattle.matrix.specs.Fill.{RowsFilled}
use Rattle.matrix.specs.Rank.{rank_number}
use Rattle.matrix.proofs.rank.rank_matrix.Given as goal

abbrev pub invariant-loop-i : goal.invariant-loop-i
invariant-loop-i l = (l.i ≤ l.head.m) × RowsFilled l.i (l.head.m + l.head.n) (rank_number l.answer.basis.entries l.answer.c l.head.m) l.rows
