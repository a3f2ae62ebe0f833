use mathlib.Core.Path.{refl}
use Rattle.convolution.specs.Steps.{folded}
use Rattle.convolution.specs.Fold.{folded_small}
use Rattle.convolution.proofs.fold.Goals as goal

pub returns : goal.returns
unfolding folded
returns c = rw c.from.ensures (refl, folded_small c.requires c.ranges.v.fits)
