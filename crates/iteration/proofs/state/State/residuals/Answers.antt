use Rattle.std.proofs.Common.{◌≡◌, subst, arith}
use Rattle.rules.specs.Sizes.{most_rows}
use Rattle.layout.specs.Flat.{square}
use Rattle.iteration.specs.Steps.{Looked, looked_more, residuals_of}
use Rattle.iteration.proofs.state.State.residuals.Goals as goal

pub loop-place-preserved : goal.loop-place-preserved
unfolding most_rows
loop-place-preserved c =
    let l = c.loop-place in
    let head = c.args.head.now in
    looked_more head.m head.n c.args.k head.orders c.args.self.now.products l.place l.number-items c.residual.result (omega arith) c.residual.ensures
    l.invariant

pub returns : goal.returns
unfolding most_rows
returns c =
    let l = c.loop-place in
    let head = c.args.head.now in
    let products = c.args.self.now.products in
    let end : l.place ≡ square = omega arith in
    residuals_of head.m head.n c.args.k head.orders products l.number-items c.requires.0 c.requires.1.0
    (subst (λ n. Looked head.m head.n c.args.k head.orders products n l.number-items) end l.invariant)
