use native.Mathlib.Omega.{arith}
use mathlib.Core.Path.{◌≡◌, subst}
use Rattle.polynomial.specs.Coefficients.{ZerosFrom, one_zero_more, ends_nowhere}
use Rattle.convolution.specs.Unpadded.{coefficient}
use Rattle.convolution.proofs.length_of.Goals as goal

pub loop-k-preserved : goal.loop-k-preserved
loop-k-preserved c = one_zero_more c.if-l-k-ne0.false c.loop-k.invariant

pub returns : goal.returns
returns c =
    let none : c.loop-k.k ≡ 0 = omega arith in
    ends_nowhere (subst (ZerosFrom (coefficient c.args.l.now)) none c.loop-k.invariant)
