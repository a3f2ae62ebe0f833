use Rattle.pivots.specs.Order.{Best, degree_at, is_taken}
use Rattle.pivots.proofs.order.next_row.Given as goal

abbrev pub invariant-loop-i : goal.invariant-loop-i
invariant-loop-i l = Best (degree_at l.degrees) (is_taken l.taken) l.m l.i l.best
