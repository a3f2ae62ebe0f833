use Prim.Native.Nat.{◌+◌, ◌≤◌}
use mathlib.Core.Path.{sym, subst}
use mathlib.Core.Bool.{cond}
use lib.Dec.{eqb}
use lib.ListN.{length}
use Rattle.rules.specs.Part.{Part}
use Rattle.laws.specs.PartLaws.{pointed_within}
use Rattle.part.specs.Parts.{PartIn}
use Rattle.part.proofs.pointed_at.Goals as goal

pub cut-requires : goal.cut-requires
cut-requires c =
    subst (λ (x : Part). x.start + x.size ≤ cond (eqb x.file 0) (length c.args.problem.now) (length c.args.answer.now)) (sym c.span-x.ensures)
    (pointed_within c.args.problem.now c.args.answer.now)

pub returns : goal.returns
returns c = subst (PartIn c.args.problem c.args.answer c.cut.result) c.span-x.ensures c.cut.ensures
