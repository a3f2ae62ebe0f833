use mathlib.Core.Path.{◌≡◌}
use Prim.Native.Nat.{ℕ, ◌≤◌, ◌<◌}
use Rattle.elimination.specs.Grid.{at}
use Rattle.elimination.proofs.pivot_row.Given as goal

abbrev pub invariant-loop-k : goal.invariant-loop-k
invariant-loop-k l = (i : ℕ) → i < l.k → l.r ≤ i → at l.a i l.c ≡ 0
