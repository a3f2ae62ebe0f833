use Rattle.claim.specs.Claims.{problem_in, basis_in}
use Rattle.evidence.specs.Record.{RowsPut}
use Rattle.evidence.proofs.put_evidence.Given as goal

abbrev pub invariant-loop-i : goal.invariant-loop-i
invariant-loop-i l = RowsPut (problem_in l.problem) (basis_in l.problem.head.m l.basis) l.initial.end l.initial.out l.out l.end l.i
