use Rattle.iteration.specs.Begin.{Unit}
use Rattle.iteration.proofs.start.identity.Given as goal

abbrev pub invariant-loop-i : goal.invariant-loop-i
invariant-loop-i l = Unit l.i l.entries
