use Rattle.prepared.specs.Counted.{Gathered}
use Rattle.prepared.proofs.zeros.Given as goal

abbrev pub invariant-loop-x : goal.invariant-loop-x
invariant-loop-x l = Gathered l.numbers 0 l.bits l.x-index
