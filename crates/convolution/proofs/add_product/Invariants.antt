use Rattle.convolution.specs.Padded.{capacity}
use mathlib.Core.Path.{◌≡◌}
use Prim.Native.Nat.{◌+◌, ◌/◌, ◌%◌, ◌≤◌}
use lib.ListN.{length}
use Rattle.convolution.specs.Steps.{with_triples}
use Rattle.convolution.proofs.add_product.Given as goal

abbrev pub invariant-loop-at : goal.invariant-loop-at
invariant-loop-at l = (l.at % 3 ≡ 0) × ((l.at ≤ l.count + 2) × ((length l.sums ≡ capacity) × (l.sums ≡ with_triples l.modulus l.top l.f l.g (l.at / 3) l.initial.sums)))
