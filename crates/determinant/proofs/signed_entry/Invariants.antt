use Rattle.convolution.specs.Padded.{Filled}
use Prim.Native.Nat.{◌≤◌}
use Rattle.determinant.specs.Sign.{SignedCell}
use Rattle.determinant.proofs.signed_entry.Given as goal

abbrev pub invariant-loop-k : goal.invariant-loop-k
invariant-loop-k l = (l.k ≤ l.count) × Filled l.k (SignedCell l.p l.row l.column l.j l.basis.entries) l.l
