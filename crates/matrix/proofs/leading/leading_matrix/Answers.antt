use mathlib.Core.Path.{refl}
use mathlib.Core.List.{[]}
use native.Mathlib.Omega.{arith}
use borrow.Author.Rules.{rules}
use Rattle.rules.specs.Sizes.{most_rows}
use Rattle.rules.specs.Table.{table}
use Rattle.matrix.specs.Fill.{zero_row, filled_none, filled_array}
use Rattle.matrix.specs.Leading.{leading_number}
use Rattle.matrix.proofs.leading.leading_matrix.Goals as goal

pub loop-i-init : goal.loop-i-init
unfolding most_rows table zero_row
loop-i-init c = (search rules, filled_none [] zero_row most_rows _ _ refl)

pub returns : goal.returns
returns c =
    filled_array c.args.head.now.m (leading_number c.args.basis.now.entries c.args.basis.now.lengths c.args.head.now.shifts c.args.head.now.m)
    c.loop-i.invariant.1 (omega arith)
