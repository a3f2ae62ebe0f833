-- The numbers up to here are the first of the others.
use Rattle.std.proofs.Common.{◌≡◌, ◌+◌, ◌<◌, ◌≤◌, ℕ, length, get_or}
use Rattle.algebra.specs.Sum.{skip}
use Rattle.rules.specs.Sizes.{most_rows}
use Rattle.determinant.proofs.without.Given as goal

abbrev pub invariant-loop-k : goal.invariant-loop-k
invariant-loop-k l = (l.k + 1 ≤ most_rows) × ((length l.left ≡ most_rows) × ((i : ℕ) → i < l.k → get_or l.left i 0 ≡ get_or l.columns (skip l.j i) 0))
