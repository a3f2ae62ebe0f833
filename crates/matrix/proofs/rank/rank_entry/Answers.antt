use mathlib.Core.Path.{sym, ap, ◌∙◌}
use native.Mathlib.Omega.{arith}
use lib.ListN.{get_or}
use Rattle.rules.specs.Sizes.{most_length}
use Rattle.layout.specs.Flat.{cell_at}
use Rattle.matrix.specs.Rank.{rank_number_left, rank_number_right}
use Rattle.matrix.proofs.rank.rank_entry.Goals as goal

pub returns-then-j-head : goal.returns-then-j-head
unfolding most_length
returns-then-j-head c =
    ap (λ k. get_or c.args.answer.now.basis.entries k 0) c.entry_place.ensures
    ∙ sym (rank_number_left c.args.answer.now.basis.entries c.args.answer.now.c c.args.head.now.m c.args.i c.args.j c.if-j-head.true
    ∙ cell_at c.args.answer.now.basis.entries c.args.i c.args.j 0 (omega arith))

pub returns-else-j-head : goal.returns-else-j-head
returns-else-j-head c =
    ap (λ k. get_or c.args.answer.now.c k 0) c.square_place.ensures
    ∙ sym (rank_number_right c.args.answer.now.basis.entries c.args.answer.now.c c.args.head.now.m c.args.i c.args.j c.if-j-head.false)
