use native.Mathlib.Omega.{arith}
use Rattle.determinant.proofs.row_top.Goals as goal

pub returns : goal.returns
returns c =
    let b = c.loop-j in
    record { above = λ j h. b.invariant.1.1 j (omega arith); low = b.invariant.1.0 }
