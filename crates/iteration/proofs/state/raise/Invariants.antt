use Rattle.iteration.specs.Steps.{Raising}
use Rattle.iteration.proofs.state.raise.Given as goal

abbrev pub invariant-loop-i : goal.invariant-loop-i
invariant-loop-i l = Raising l.moves l.initial.degrees l.i l.degrees
