use Rattle.convolution.specs.Padded.{capacity}
use mathlib.Core.Path.{◌≡◌}
use Prim.Native.Nat.{◌≤◌}
use lib.ListN.{length}
use Rattle.convolution.specs.Steps.{with_turns}
use Rattle.convolution.proofs.add_triple.Given as goal

abbrev pub invariant-loop-k : goal.invariant-loop-k
invariant-loop-k l = (l.k ≤ l.k-end) × ((length l.sums ≡ capacity) × (l.sums ≡ with_turns l.modulus l.at l.x l.y l.z l.g l.k l.initial.sums))
