-- An exchange of rows and the clearing of a column are a step of elimination; the last row needs neither. The entry whose inverse is asked
-- for is not 0, so that the answer is not none.
use native.Mathlib.Omega.{arith}
use Rattle.field.specs.Laws.{answered_of, answered_none}
use Rattle.elimination.specs.Laws.{stepped, stepped_last}
use Rattle.elimination.proofs.step.Goals as goal

pub returns-then-r-m : goal.returns-then-r-m
returns-then-r-m c =
    stepped_last _ c.requires.prime _ _ _ _ _ _ (omega arith) (omega arith) c.if-r-m.true (omega arith) c.requires.c_nonzero (c.requires.below _ _)
    c.requires.below

-- Not reached: 0 alone has no inverse, and the entry is not 0.
pub returns-in_default : goal.returns-in_default
returns-in_default c = absurd (c.requires.c_nonzero (answered_none _ c.requires.prime _ (c.requires.below _ _) _ c.inverse_mod.ensures c.in_default.is))

pub returns : goal.returns
returns c =
    stepped _ c.requires.prime _ _ _ _ _ _ _ _ _ (omega arith) (omega arith) (omega arith)
    (answered_of _ c.requires.prime _ _ _ c.inverse_mod.ensures c.in-Some.is)
    c.swap_rows.ensures c.clear_below.ensures
