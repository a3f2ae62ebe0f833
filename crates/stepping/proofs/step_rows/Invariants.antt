use Rattle.stepping.specs.Next.{Next}
use Rattle.stepping.specs.Filled.{Filled, RowsBox}
use Rattle.stepping.proofs.step_rows.Given as goal

abbrev pub invariant-loop-i : goal.invariant-loop-i
invariant-loop-i l =
    Filled l.p (Next l.p l.m l.initial.rows l.choice.moves l.choice.factors) (RowsBox l.i l.columns l.powers.start l.powers.end) l.initial.rows l.rows
