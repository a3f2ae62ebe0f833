use mathlib.Core.Path.{◌≡◌}
use Prim.Native.Nat.{◌≤◌}
use lib.ListN.{length}
use Rattle.rules.specs.Sizes.{most_rows}
use Rattle.determinant.specs.Tops.{TopsFrom}
use Rattle.determinant.proofs.row_tops.Given as goal

abbrev pub invariant-loop-i : goal.invariant-loop-i
invariant-loop-i l = (l.i ≤ l.m) × ((length l.tops ≡ most_rows) × TopsFrom l.i l.m l.sum l.basis.lengths l.tops)
