use Rattle.polynomial.specs.Coefficients.{ZerosFrom}
use Rattle.convolution.specs.Unpadded.{coefficient}
use Rattle.convolution.proofs.length_of.Given as goal

-- From k on there are zeros.
abbrev pub invariant-loop-k : goal.invariant-loop-k
invariant-loop-k l = ZerosFrom (coefficient l.l) l.k
