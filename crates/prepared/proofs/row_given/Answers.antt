use Rattle.std.proofs.Common.{arith, length-take, length, ◌-◌}
use Rattle.rules.specs.Sizes.{most_order}
use Rattle.prepared.specs.Settling.{settled_by}
use Rattle.prepared.proofs.Parts.{below_part, length_part}
use Rattle.prepared.proofs.row_given.Goals as goal

pub returns-then-all_below : goal.returns-then-all_below
unfolding most_order
returns-then-all_below c =
    let a = c.args in
    let row = a.row.now in
    let first_long = length-take a.d row in
    let rest_long = length_part a.d (length row - a.d) row (omega arith) in
    let first = below_part 0 a.d a.p row (omega arith) (omega arith) (omega arith) in
    let rest = below_part a.d (length row - a.d) 1 row (omega arith) (omega arith) (omega arith) in
    settled_by (λ ends. record { below = first.0 (c.all_below.ensures.holds c.if-all_below.true); ends = rest.0 ends }) (λ h. rest.1 h.ends) c.zeros.ensures
