use Prim.Native.Nat.{◌+◌, ◌*◌, ◌≤◌}
use mathlib.Core.Path.{◌≡◌}
use lib.ListN.{get_or}
use Rattle.rules.specs.Conditions.{sum_below}
use Rattle.rules.specs.RecordBytes.{head_bytes, column_bytes}
use Rattle.rules.specs.Sizes.{most_rows}
use Rattle.laws.specs.Soundness.{longest_FC}
use Rattle.part.proofs.column_start.Given as goal

-- The start of the column at the index, and that it is small.
abbrev pub invariant-loop-order : goal.invariant-loop-order
invariant-loop-order l =
    record {
      start_is : l.start ≡ head_bytes l.head.m l.head.n + sum_below l.order-index (λ i. column_bytes l.head.m (get_or l.head.orders i 0));
      small : l.start ≤ head_bytes most_rows most_rows + longest_FC * l.order-index;
    }
