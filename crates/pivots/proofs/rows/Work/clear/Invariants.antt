use Rattle.pivots.specs.Rows.{Cleared}
use Rattle.pivots.proofs.rows.Work.clear.Given as goal

abbrev pub invariant-loop-k : goal.invariant-loop-k
invariant-loop-k l =
    Cleared l.p l.initial.self.residuals l.initial.self.constants l.taken l.pivot.row l.pivot.column l.pivot.inverse l.k l.self.residuals l.self.constants
