use mathlib.Core.Path.{◌≡◌}
use Prim.Native.Nat.{◌%◌, ◌≤◌}
use lib.ListN.{length}
use Rattle.divisors.specs.Found.{block}
use Rattle.divisors.specs.Table.{Clear}
use Rattle.divisors.proofs.divisor_among.Given as goal

abbrev pub invariant-loop-from : goal.invariant-loop-from
invariant-loop-from l = (l.from ≤ length l.primes) × (l.from % block ≡ 0) × Clear l.primes 0 l.from l.p
