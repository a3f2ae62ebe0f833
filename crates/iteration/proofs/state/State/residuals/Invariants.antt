use Rattle.iteration.specs.Steps.{Looked}
use Rattle.iteration.proofs.state.State.residuals.Given as goal

abbrev pub invariant-loop-place : goal.invariant-loop-place
invariant-loop-place l = Looked l.head.m l.head.n l.k l.head.orders l.self.products l.place l.number-items
