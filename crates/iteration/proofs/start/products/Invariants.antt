use Rattle.iteration.specs.Begin.{Copying}
use Rattle.iteration.proofs.start.products.Given as goal

abbrev pub invariant-loop-place : goal.invariant-loop-place
invariant-loop-place l = Copying l.f l.place l.number-items
