use Rattle.std.proofs.Common.{◌≡◌, ◌-◌, ◌<◌, ◌≤◌}
use Rattle.algebra.specs.Residue.{red}
use Rattle.drawn.specs.Columns.{after_steps}
use Rattle.drawn.proofs.column_value.Given as goal

-- What Horner's rule has after the steps from the order down to k.
abbrev pub invariant-loop-k : goal.invariant-loop-k
invariant-loop-k l = record {
  down : l.k ≤ l.order;
  below : l.value < l.problem.head.p;
  value :
      red l.problem.head.p l.value
      ≡ after_steps l.problem.head.p l.problem.head.m l.problem.f l.answer.basis.entries l.answer.c l.u l.point l.order l.j (l.order - l.k);
}
