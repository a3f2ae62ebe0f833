use Rattle.iteration.specs.Measure.{Measuring}
use Rattle.iteration.proofs.measure.lengths.Given as goal

abbrev pub invariant-loop-place : goal.invariant-loop-place
invariant-loop-place l = Measuring l.entries l.place l.count-items
