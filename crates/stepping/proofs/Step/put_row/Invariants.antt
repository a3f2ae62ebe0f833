use Rattle.stepping.specs.Next.{Next}
use Rattle.stepping.specs.Filled.{Filled, RowBox}
use Rattle.stepping.proofs.Step.put_row.Given as goal

abbrev pub invariant-loop-j : goal.invariant-loop-j
invariant-loop-j l =
    Filled l.self.p (Next l.self.p l.self.m l.self.old.now l.self.choice.now.moves l.self.choice.now.factors)
    (RowBox l.i l.j l.powers.start l.powers.end) l.initial.out l.out
