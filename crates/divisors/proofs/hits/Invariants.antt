use mathlib.Core.Path.{◌≡◌}
use Prim.Native.Nat.{◌≤◌}
use Rattle.divisors.specs.Table.{left_open}
use Rattle.divisors.proofs.hits.Given as goal

abbrev pub invariant-loop-i : goal.invariant-loop-i
invariant-loop-i l = (l.count ≡ left_open l.primes l.inverses l.from l.high l.low l.limit l.i) × (l.count ≤ l.i)
