use Rattle.std.proofs.Common.{rules, arith, ap, ◌∙◌, ◌≤◌, ◌<◌, get_or, length, take, ℕ, List}
use Rattle.std.specs.Prelude.{MatchOption}
use Rattle.std.specs.Option.{option_or}
use Rattle.drawing.specs.Numbers.{first_of_all}
use Rattle.rules.specs.Sizes.{most_rows}
use Rattle.drawing.proofs.first_too_large.Goals as goal

pub returns : goal.returns
unfolding most_rows
returns c =
    let a = c.args in
    let read : List ℕ = take a.m a.u.now in
    let found : MatchOption c.position-place.result ((k : ℕ) → k < length read → get_or read k 0 < a.p)
    (λ i. (i < length read) × ((a.p ≤ get_or read i 0) × ((k : ℕ) → k < i → get_or read k 0 < a.p))) = search rules in
    c.or.ensures
    ∙ ap (option_or c.position-place.result) c.then_some.ensures
    ∙ first_of_all a.p a.m a.u.now a.point (omega arith) c.position-place.result found
