use Rattle.prepared.specs.Counted.{Counted}
use Rattle.prepared.proofs.all_below.Given as goal

abbrev pub invariant-loop-x : goal.invariant-loop-x
invariant-loop-x l = Counted l.numbers 0 l.limit l.over l.x-index
