use Rattle.std.proofs.Common.{◌∙◌}
use Rattle.polynomial.specs.Count.{tests_monomial}
use Rattle.conditions.specs.Steps.{square_of}
use Rattle.conditions.specs.Findings.{found_not_monomial}
use Rattle.conditions.proofs.check_determinant.Goals as goal

pub determinant_of-determinant-requires : goal.determinant_of-determinant-requires
determinant_of-determinant-requires c = square_of c.requires.sound.sound_head c.requires.sound.sound_basis c.requires.modulus_value

pub returns : goal.returns
returns c =
    c.refuse_if.ensures
    ∙ found_not_monomial c.args.problem.now c.args.answer.now c.requires.sound c.is_monomial.result c.requires.modulus_value
    (tests_monomial c.determinant_of-determinant.ensures c.is_monomial.ensures)
