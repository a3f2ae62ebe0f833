use mathlib.Core.Path.{◌≡◌}
use Prim.Native.Nat.{◌≤◌}
use Rattle.degrees.specs.Degrees.{entry_term, largest_from}
use Rattle.degrees.proofs.row_degree.Given as goal

-- The largest of the terms from j on.
abbrev pub invariant-loop-j : goal.invariant-loop-j
invariant-loop-j l = (l.j ≤ l.head.m) × (l.most ≡ largest_from (entry_term l.basis.lengths l.head.shifts l.i) l.head.m l.j)
