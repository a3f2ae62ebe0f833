use Prim.Native.Nat.{ℕ, pred, ◌<◌, ◌≤◌}
use lib.ListN.{get_or}
use Rattle.rules.specs.Sizes.{most_length}
use Rattle.layout.specs.Flat.{square_place}
use Rattle.determinant.proofs.row_top.Given as goal

abbrev pub invariant-loop-j : goal.invariant-loop-j
invariant-loop-j l = (l.j ≤ l.m) × ((l.top < most_length) × ((k : ℕ) → k < l.j → pred (get_or l.basis.lengths (square_place l.i k) 0) ≤ l.top))
