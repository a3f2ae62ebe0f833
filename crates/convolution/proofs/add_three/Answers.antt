use mathlib.Core.Path.{ap₂}
use Prim.Native.Nat.{◌+◌}
use Rattle.convolution.specs.Steps.{with_three}
use Rattle.convolution.proofs.add_three.Goals as goal

pub returns : goal.returns
unfolding with_three
returns c =
    let folded = c.fold.ensures.0 in
    ap₂ ◌+◌ (ap₂ ◌+◌ (ap₂ ◌+◌ folded c.product.ensures.0) c.product-2.ensures.0) c.product-3.ensures.0
