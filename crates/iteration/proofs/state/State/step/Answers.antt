use Rattle.std.proofs.Common.{suc, ◌≤◌, subst, arith}
use Rattle.rules.specs.Sizes.{most_order}
use Rattle.claim.specs.Claims.{problem_of}
use Rattle.claim.specs.Holds.{holds_orders}
use Rattle.pivots.specs.State.{Chose}
use Rattle.iteration.specs.After.{residuals_chosen, after_next}
use Rattle.iteration.proofs.state.State.step.Goals as goal

pub returns : goal.returns
unfolding most_order
returns c f valid before =
    let head = c.args.head.now in
    let k = c.args.k in
    let state = c.args.self.now in
    let b = problem_of head f in
    let small : suc k ≤ most_order = omega arith in
    let chosen = c.choose-choice in
    let choice = residuals_chosen b valid k small state.entries state.products state.degrees before head.orders c.residuals.result
    (holds_orders head f) c.residuals.ensures in
    after_next b valid k small state.entries state.products state.degrees before chosen.result.moves chosen.result.factors
    (subst (λ c. Chose head.p c chosen.result.moves chosen.result.factors) choice chosen.ensures)
    c.step_rows.new.rows c.step_rows-2.new.rows c.raise.new.degrees
    c.step_rows.ensures c.step_rows-2.ensures c.raise.ensures
