use Rattle.std.proofs.Common.{arith, rules, ◌≡◌, ◌≤◌, ◌<◌, get_or, length, ℕ, List, take, subst, sym, zero-le, length-take}
use Rattle.std.proofs.lemmas.List.{get_or-take}
use Rattle.std.specs.Option.{MatchOption, unwrap_or}
use Rattle.std.specs.Prelude.{Option, None, Some}
use Rattle.rules.specs.Sizes.{most_rows}
use Rattle.layout.specs.Holds.{Ordered}
use Rattle.drawn.specs.Asked.{Largest}
use Rattle.drawn.proofs.largest_order.Goals as goal

-- The largest of the first n orders, or 0 where there is none.
largest_found : (n : ℕ) (orders : List ℕ) (o : Option ℕ) → n ≤ length orders → Ordered orders
    → MatchOption o (length (take n orders) ≡ 0)
    (λ m. ((k : ℕ) → k < length (take n orders) → get_or (take n orders) k 0 ≤ m)
    × ((k : ℕ) × (k < length (take n orders)) × (get_or (take n orders) k 0 ≡ m)))
    → Largest n orders (unwrap_or o 0)
largest_found n orders None long ordered h = record { most = zero-le; above = λ j b. absurd (omega (arith, length-take n orders)) }
largest_found n orders (Some m) long ordered (all, (k, inside, is)) =
    record {
      most = omega (arith, get_or-take n orders k 0 (omega (arith, length-take n orders)), ordered k);
      above = λ j b. omega (arith, get_or-take n orders j 0 b, all j (omega (arith, length-take n orders)));
    }

pub returns : goal.returns
unfolding most_rows
returns c =
    let head = c.args.head.now in
    let read : List ℕ = take head.n head.orders in
    let found : MatchOption c.max.result (length read ≡ 0)
    (λ m. ((k : ℕ) → k < length read → get_or read k 0 ≤ m) × ((k : ℕ) × (k < length read) × (get_or read k 0 ≡ m))) = search rules in
    subst (Largest head.n head.orders) (sym c.unwrap_or.ensures) (largest_found head.n head.orders c.max.result (search rules) c.requires.0 found)
