use Rattle.claim.specs.Claims.{problem_in}
use Rattle.iteration.specs.After.{After}
use Rattle.iteration.proofs.entries_after.Given as goal

abbrev pub invariant-loop-k : goal.invariant-loop-k
invariant-loop-k l = After (problem_in l.problem) l.k l.state.entries l.state.products l.state.degrees
