use Rattle.std.proofs.Common.{◌≡◌, subst, arith}
use Rattle.pivots.specs.Order.{Best, degree_at, is_taken, best_next}
use Rattle.pivots.proofs.order.next_row.Goals as goal

pub returns : goal.returns
returns c =
    let a = c.args in
    let end : c.loop-i.i ≡ a.m = omega arith in
    best_next _ _ _ c.loop-i.best (subst (λ i. Best (degree_at a.degrees.now) (is_taken a.taken.now) a.m i c.loop-i.best) end c.loop-i.invariant)
