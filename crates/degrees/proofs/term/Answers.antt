use Rattle.std.proofs.Common.{ap, ap₂, ◌∙◌, get_or}
use Rattle.rules.specs.Conditions.{shifted_degree_of}
use Rattle.degrees.proofs.Degrees.{shift_back}
use Rattle.degrees.proofs.term.Goals as goal

pub returns : goal.returns
returns c =
    c.shifted_degree.ensures
    ∙ ap₂ shifted_degree_of (ap (λ k. get_or c.args.basis.now.lengths k 0) c.square_place.ensures)
    (shift_back c.args.basis.now.lengths c.args.head.now.shifts c.requires.sized c.args.j)
