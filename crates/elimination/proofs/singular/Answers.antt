-- The rows of a square are dependent exactly if its determinant is 0.
use Rattle.elimination.specs.Laws.{settles_det}
use Rattle.elimination.proofs.singular.Goals as goal

pub returns : goal.returns
returns c = settles_det _ c.requires.prime _ c.args.a _ c.dependent.ensures
