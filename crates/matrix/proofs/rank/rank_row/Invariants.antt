use Prim.Native.Nat.{◌≤◌}
use Rattle.matrix.specs.Fill.{RowFilled}
use Rattle.matrix.specs.Rank.{rank_number}
use Rattle.matrix.proofs.rank.rank_row.Given as goal

abbrev pub invariant-loop-j : goal.invariant-loop-j
invariant-loop-j l = (l.j ≤ l.width) × RowFilled l.j (rank_number l.answer.basis.entries l.answer.c l.head.m l.i) l.row
