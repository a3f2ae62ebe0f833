-- The columns from c to j are done, those from j on are as they were, and every entry stays below p.
use native.Mathlib.Omega.{arith}
use Rattle.rules.specs.Sizes.{most_rows}
use Rattle.elimination.specs.Laws.{row_less_more}
use Rattle.elimination.proofs.less_row.Goals as goal

pub loop-j-preserved : goal.loop-j-preserved
unfolding most_rows
loop-j-preserved c =
    row_less_more _ _ _ _ _ _ _ _ _ c.loop-j.invariant (omega arith) c.mul_mod-product.ensures c.sub_mod.ensures
