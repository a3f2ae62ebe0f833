use Rattle.std.proofs.Common.{rules, ◌≡◌, ◌<◌, ◌-◌, get_or, length, take, drop, ℕ, List, true, arith}
use Rattle.std.specs.Prelude.{◌↔◌}
use Rattle.rules.specs.Sizes.{most_rows, most_order}
use Rattle.prepared.specs.Canonical.{Order}
use Rattle.prepared.proofs.Parts.{parts_given}
use Rattle.prepared.proofs.orders_given.Goals as goal

pub returns-then-are_orders : goal.returns-then-are_orders
unfolding most_rows most_order
returns-then-are_orders c =
    let a = c.args in
    let used : List ℕ = take a.n a.orders.now in
    let unused : List ℕ = take (4 - a.n) (drop a.n a.orders.now) in
    let first : (j : ℕ) → j < length used → Order true (get_or used j 0) = search rules in
    let rest : (c.all.result ≡ true) ↔ ((j : ℕ) → j < length unused → get_or unused j 0 ≡ 0) = search rules in
    parts_given Order 0 4 a.n a.orders.now c.all.result c.requires (omega arith) first rest
