use mathlib.Core.Path.{◌≡◌}
use lib.ListN.{length}
use Rattle.elimination.specs.Grid.{Cleared}
use Rattle.rules.specs.Sizes.{most_rows}
use Rattle.elimination.proofs.clear_below.Given as goal

abbrev pub invariant-loop-i : goal.invariant-loop-i
invariant-loop-i l = (length l.a ≡ most_rows) × Cleared l.p l.initial.a l.v l.r l.c l.i l.n l.a
