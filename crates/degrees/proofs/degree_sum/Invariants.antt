use Rattle.std.proofs.Common.{◌≡◌, ◌≤◌}
use Rattle.std.specs.Prelude.{Some}
use Rattle.degrees.specs.Degrees.{excess, total_from}
use Rattle.degrees.proofs.degree_sum.Given as goal

-- The sum of the row degrees less the shifts, from i on.
abbrev pub invariant-loop-i : goal.invariant-loop-i
invariant-loop-i l = (l.i ≤ l.head.m) × (Some l.sum ≡ total_from (excess l.basis.lengths l.head.shifts l.head.m) l.head.m l.i)
