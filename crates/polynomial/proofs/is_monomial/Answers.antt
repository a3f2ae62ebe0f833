-- The count of the coefficients other than 0 tells whether there is exactly one.
use mathlib.Core.Path.{ap, ◌∙◌}
use lib.Dec.{eqb}
use Rattle.polynomial.specs.Count.{nonzeros_of, count_settles}
use Rattle.polynomial.proofs.is_monomial.Goals as goal

pub returns : goal.returns
returns c =
    let l = c.args.f.coefficients in
    count_settles l c.requires.zeros (ap (λ x. eqb x 1) (c.nonzeros.ensures ∙ nonzeros_of l c.args.f.length))
