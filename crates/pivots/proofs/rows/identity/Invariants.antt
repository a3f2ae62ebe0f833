use Rattle.pivots.specs.Rows.{Identity}
use Rattle.pivots.proofs.rows.identity.Given as goal

abbrev pub invariant-loop-i : goal.invariant-loop-i
invariant-loop-i l = Identity l.i l.rows
