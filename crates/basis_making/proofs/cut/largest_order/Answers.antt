use Rattle.std.proofs.Common.{rules, take, ap, ◌∙◌}
use Rattle.std.proofs.lemmas.Iterator.{YieldsList-from_slice}
use Rattle.std.proofs.lemmas.Iterator.Consumers.{YieldsList-from_copied, reduce_from_yields_List}
use Rattle.std.specs.Option.{unwrap_or}
use Rattle.std.specs.Ordering.{nat_cmp, max_by_ordering}
use Rattle.rules.specs.Sizes.{most_rows}
use Rattle.basis_making.specs.Cut.{largest_is}
use Rattle.basis_making.proofs.cut.largest_order.Goals as goal

pub returns : goal.returns
unfolding most_rows
returns c =
    let head = c.args.head.now in
    c.unwrap_or.ensures
    ∙ ap (λ r. unwrap_or r 0)
    (reduce_from_yields_List (λ p z. max_by_ordering (nat_cmp p z) p z) _ _ c.max.ensures.ran (YieldsList-from_copied (YieldsList-from_slice (take head.n head.orders) cc)))
    ∙ largest_is head.n head.orders (search rules)
