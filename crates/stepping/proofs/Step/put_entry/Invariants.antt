use Rattle.stepping.specs.Next.{Next}
use Rattle.stepping.specs.Filled.{Filled, EntryBox}
use Rattle.stepping.proofs.Step.put_entry.Given as goal

abbrev pub invariant-loop-t : goal.invariant-loop-t
invariant-loop-t l =
    Filled l.self.p (Next l.self.p l.self.m l.self.old.now l.self.choice.now.moves l.self.choice.now.factors) (EntryBox l.i l.j l.powers.start l.t)
    l.initial.out l.out
