use Rattle.convolution.specs.Padded.{Filled, Remainder}
use Prim.Native.Nat.{◌≤◌}
use Rattle.convolution.proofs.residues.Given as goal

abbrev pub invariant-loop-k : goal.invariant-loop-k
invariant-loop-k l = (l.k ≤ l.k-end) × Filled l.k (Remainder l.p l.sums) l.l
