use borrow.Author.Rules.{rules}
use native.Mathlib.Omega.{arith}
use Rattle.rules.specs.Sizes.{most_rows}
use Rattle.layout.specs.Flat.{width}
use Rattle.matrix.specs.Fill.{filled_more, filled_row}
use Rattle.matrix.specs.Rank.{rank_number}
use Rattle.matrix.proofs.rank.rank_row.Goals as goal

pub loop-j-preserved : goal.loop-j-preserved
unfolding most_rows
loop-j-preserved c = (search rules, filled_more 0 0 width _ c.loop-j.j c.loop-j.row c.rank_entry.result c.loop-j.invariant.1 (omega arith) c.rank_entry.ensures)

pub returns : goal.returns
returns c = filled_row (rank_number c.args.answer.now.basis.entries c.args.answer.now.c c.args.head.now.m c.args.i) c.loop-j.invariant.1 (omega arith)
