use mathlib.Core.Path.{◌≡◌}
use Prim.Native.Nat.{◌+◌, ◌-◌, ◌≤◌}
use lib.ListN.{length}
use Rattle.convolution.specs.Padded.{capacity}
use Rattle.determinant.specs.Expansion.{Expanded}
use Rattle.determinant.proofs.+determinant_expand_row.Given as goal

-- `determinant` calls `expand_row` at its own size, and `expand_row` calls `determinant` at the size less one: 2k + 1 and 2k are measures.
abbrev pub decreases-determinant : goal.decreases-determinant
decreases-determinant l = l.square.now.size + l.square.now.size + 1

abbrev pub decreases-expand_row : goal.decreases-expand_row
decreases-expand_row l = l.square.now.size + l.square.now.size

-- The sums hold the first j terms of the expansion.
abbrev pub invariant-expand_row-loop-j : goal.invariant-expand_row-loop-j
invariant-expand_row-loop-j l =
    (l.j ≤ l.square.size) × ((length l.sums ≡ capacity) × Expanded l.limits.modulus.p l.square.row (l.square.size - 1) l.j l.basis.entries l.limits.tops l.square.columns l.sums)
