use Rattle.claim.specs.Claims.{problem_in, basis_in}
use Rattle.evidence.specs.Record.{RowPut}
use Rattle.evidence.proofs.put_row.Given as goal

abbrev pub invariant-loop-j : goal.invariant-loop-j
invariant-loop-j l = RowPut (problem_in l.problem) (basis_in l.problem.head.m l.basis) l.i l.at l.initial.out l.out l.end l.j
