use Rattle.std.proofs.Common.{ap₂}
use mathlib.Core.Path.{◌≡◌, sym, ap, ◌∙◌}
use native.Mathlib.Omega.{arith}
use borrow.Author.Rules.{rules}
use lib.IntN.{◌-ℤ◌}
use mir.Syntax.{w32}
use mir.Val.{to_z, of_z}
use Rattle.rules.specs.Sizes.{most_rows}
use Rattle.rules.specs.Table.{table}
use Rattle.layout.specs.Flat.{width, cell}
use Rattle.degrees.proofs.Degrees.{shift_back, difference_small}
use Rattle.matrix.specs.Fill.{zero_row, row_of_zeros, filled_more, filled_row}
use Rattle.matrix.specs.Leading.{leading_number, leading_some, leading_none, at_power}
use Rattle.matrix.proofs.leading.leading_row.Goals as goal

pub returns-in_default : goal.returns-in_default
unfolding most_rows table zero_row
returns-in_default c =
    sym (row_of_zeros c.args.head.now.m (leading_number c.args.basis.now.entries c.args.basis.now.lengths c.args.head.now.shifts c.args.head.now.m c.args.i)
    (λ j.
    leading_none c.args.basis.now.entries c.args.basis.now.lengths c.args.head.now.shifts c.args.head.now.m c.args.i j
    (sym c.row_degree.ensures ∙ c.in_default.is)))

pub minus-power-requires : goal.minus-power-requires
minus-power-requires c =
    let a = c.args in
    let back : to_z w32 (of_z w32 c.in-Some.degree) ≡ c.in-Some.degree = search rules in
    rw back (difference_small a.basis.now.lengths a.head.now.shifts c.requires.sized a.head.now.m a.i c.loop-j.j c.in-Some.degree
    (sym c.row_degree.ensures ∙ c.in-Some.is))

pub loop-j-preserved : goal.loop-j-preserved
unfolding most_rows
loop-j-preserved c =
    let a = c.args in
    let j = c.loop-j.j in
    let row = c.in-Some.degree in
    let back : to_z w32 (of_z w32 c.in-Some.degree) ≡ c.in-Some.degree = search rules in
    let power_back : to_z w32 (of_z w32 c.minus-power.result) ≡ c.minus-power.result = search rules in
    -- the number that is stored in a turn
    let stored : c.entry_at.result ≡ leading_number a.basis.now.entries a.basis.now.lengths a.head.now.shifts a.head.now.m a.i j =
    c.entry_at.ensures
    ∙ ap (λ z. at_power z (cell a.basis.now.entries a.i j))
    (power_back ∙ c.minus-power.ensures ∙ ap₂ ◌-ℤ◌ back (shift_back a.basis.now.lengths a.head.now.shifts c.requires.sized j))
    ∙ sym (leading_some a.basis.now.entries a.basis.now.lengths a.head.now.shifts a.head.now.m a.i j row (sym c.row_degree.ensures ∙ c.in-Some.is)) in
    (search rules, filled_more 0 0 width _ j c.loop-j.row c.entry_at.result c.loop-j.invariant.1 (omega arith) stored)

pub returns : goal.returns
returns c =
    filled_row (leading_number c.args.basis.now.entries c.args.basis.now.lengths c.args.head.now.shifts c.args.head.now.m c.args.i) c.loop-j.invariant.1
    (omega arith)
