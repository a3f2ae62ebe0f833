-- The rows of a are dependent exactly if the rows of b from r on are, in the columns from c on.
use native.Mathlib.Omega.{arith}
use Rattle.rules.specs.Sizes.{most_rows}
use Rattle.elimination.specs.Laws.{left_start, left_passed, left_stepped, left_settles}
use Rattle.elimination.proofs.dependent.Goals as goal
use Rattle.elimination.proofs.dependent.Goals.{in-Some, in_default}

pub loop-c-init : goal.loop-c-init
loop-c-init c = left_start _ _ _ _ c.requires.below

pub loop-c-preserved : goal.loop-c-preserved
unfolding most_rows
loop-c-preserved c =
    let left = c.loop-c.invariant in
    let inside = c.loop-c-test.true in
    elim c.match-pivot_row.branch [
      | in-Some w ↦
          rw (w.b-is, w.r-is) (left_stepped _ _ _ _ _ _ _ _ left (omega (arith, w.in-Some.ensures.low, w.in-Some.ensures.high)) inside w.step-b.ensures)
      | in_default w ↦ rw (w.b-is, w.r-is) (left_passed _ _ _ _ _ _ _ left inside w.in_default.ensures)
    ]

pub returns : goal.returns
returns c = left_settles _ c.requires.prime.two_le _ _ _ _ _ _ c.loop-c.invariant c.loop-c-test.false
