use Rattle.divisors.specs.Table.{Clear}
use Rattle.divisors.proofs.divisor_by_division.Given as goal

abbrev pub invariant-loop-i : goal.invariant-loop-i
invariant-loop-i l = Clear l.primes l.from l.i l.p
