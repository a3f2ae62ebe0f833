use Rattle.std.proofs.Common.{sym, ap, ◌∙◌, get_or}
use Rattle.iteration.specs.Steps.{residual_row_past, residual_column_past, residual_finished, residual_active}
use Rattle.iteration.proofs.state.State.residual.Goals as goal
use Rattle.iteration.proofs.state.State.residual.Goals.{else-i-head-via-then-i-head+then-j-head+else-k-head, else-i-head-via-then-i-head+else-j-head, else-i-head-via-else-i-head}

pub returns-then-k-head : goal.returns-then-k-head
returns-then-k-head c =
    let a = c.args in
    let head = a.head.now in
    ap (λ k. get_or a.self.now.products k 0) c.entry_place.ensures
    ∙ sym (residual_active head.m head.n head.orders a.self.now.products a.i a.j a.k c.if-i-head.true c.if-j-head.true c.if-k-head.true)

pub returns-else-i-head : goal.returns-else-i-head
returns-else-i-head c =
    let a = c.args in
    let head = a.head.now in
    sym (elim c.else-i-head.branch [
      | else-i-head-via-then-i-head+then-j-head+else-k-head w ↦
          residual_finished head.m head.n head.orders a.self.now.products a.i a.j a.k w.if-i-head.true w.if-j-head.true w.if-k-head.false
      | else-i-head-via-then-i-head+else-j-head w ↦
          residual_column_past head.m head.n head.orders a.self.now.products a.i a.j a.k w.if-i-head.true w.if-j-head.false
      | else-i-head-via-else-i-head w ↦
          residual_row_past head.m head.n head.orders a.self.now.products a.i a.j a.k w.if-i-head.false
    ])
