-- The count is that of the numbers passed which are left open.
use mathlib.Core.Path.{◌≡◌, refl}
use Prim.Native.Nat.{ℕ, ◌≤◌}
use mathlib.Core.Bool.{Bool, true, false}
use native.Mathlib.Omega.{arith}
use Rattle.std.specs.Int.{from_bool}
use Rattle.divisors.specs.Table.{left_open, open_more}
use Rattle.divisors.proofs.hits.Goals as goal

-- What is counted of one number is 0 or 1.
at_most_one : (b : Bool) (one : ℕ) → one ≡ from_bool b → one ≤ 1
at_most_one true one e = omega arith
at_most_one false one e = omega arith

pub loop-i-init : goal.loop-i-init
unfolding left_open
loop-i-init c = (refl, omega arith)

pub loop-i-preserved : goal.loop-i-preserved
loop-i-preserved c = (
  open_more _ _ _ _ _ _ _ _ _ _ c.loop-i.invariant.0 c.high_quotient-part.ensures c.from-count.ensures,
  omega (arith, at_most_one _ _ c.from-count.ensures),
)
