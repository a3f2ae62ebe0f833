use Rattle.std.proofs.Common.{arith, length, ◌-◌, ◌*◌}
use Rattle.rules.specs.Sizes.{most_rows, most_order}
use Rattle.layout.specs.Flat.{column_place}
use Rattle.prepared.specs.Settling.{settled_by}
use Rattle.prepared.proofs.Parts.{below_part, length_part}
use Rattle.prepared.proofs.column_given.Goals as goal

pub returns-then-rows_given : goal.returns-then-rows_given
unfolding column_place most_rows most_order
returns-then-rows_given c =
    let a = c.args in
    let column = a.column.now in
    let long = length_part (a.m * 16) (length column - a.m * 16) column (omega arith) in
    let rest = below_part (a.m * 16) (length column - a.m * 16) 1 column (omega arith) (omega arith) (omega arith) in
    settled_by (λ zeros. record { rows = c.rows_given.ensures.holds c.if-rows_given.true; no_more = rest.0 zeros }) (λ h. rest.1 h.no_more) c.zeros.ensures
