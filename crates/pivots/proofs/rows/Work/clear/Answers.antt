use Rattle.std.proofs.Common.{arith, sym, ◌∙◌, true≢false}
use Rattle.pivots.specs.RowLaws.{cleared_more, cleared_passed}
use Rattle.pivots.proofs.rows.Work.clear.Goals as goal
use Rattle.pivots.proofs.rows.Work.clear.Goals.{then-waits, else-waits}

pub loop-k-preserved : goal.loop-k-preserved
loop-k-preserved c =
    let a = c.args in
    let l = c.loop-k in
    let pivot = a.pivot.now in
    elim c.if-waits.branch [
      | then-waits w ↦
          rw w.self-is (cleared_more a.p a.self.now.residuals a.self.now.constants a.taken.now pivot.row pivot.column pivot.inverse l.k
          l.self.residuals l.self.constants l.invariant _ _ w.if-waits.true c.requires.row_taken (omega arith) w.clear_row.ensures)
      | else-waits w ↦
          rw w.self-is (cleared_passed a.p a.self.now.residuals a.self.now.constants a.taken.now pivot.row pivot.column pivot.inverse l.k
          l.self.residuals l.self.constants l.invariant (λ e. true≢false (sym w.if-waits.false ∙ e)))
    ]
