use mathlib.Core.Path.{refl}
use Rattle.rules.specs.Sizes.{most_rows, most_length}
use Rattle.polynomial.specs.Coefficients.{most_power}
use Rattle.convolution.specs.Padded.{capacity}
use Rattle.convolution.proofs.no_coefficients.Goals as goal

pub returns : goal.returns
unfolding capacity most_power most_rows most_length
returns c = refl
