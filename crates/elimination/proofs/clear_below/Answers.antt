-- The rows between r and i are cleared, row r and those from i on are as they were, and every entry stays below p.
use native.Mathlib.Omega.{arith}
use lib.ListN.{length-set}
use Rattle.rules.specs.Sizes.{most_rows}
use Rattle.elimination.specs.Laws.{cleared_more}
use Rattle.elimination.proofs.clear_below.Goals as goal

pub loop-i-preserved : goal.loop-i-preserved
unfolding most_rows
loop-i-preserved c =
    let (size, cleared) = c.loop-i.invariant in
    (simp length-set size, cleared_more _ _ _ _ _ _ _ _ _ _ cleared (omega arith) (omega arith) c.mul_mod-f.ensures c.less_row.ensures)
