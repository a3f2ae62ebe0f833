-- How far from 0 a difference is, and what the width of a signed number asks.
--   nat_abs_minus, mag_le     these two
use Rattle.std.specs.Prelude.{◌+◌, ◌≤◌, ℤ, pos, negsuc, neg_ℤ, nat_abs, ◌-ℤ◌}
use Rattle.std.proofs.Common.{le_refl, arith}
use Rattle.std.specs.Int.Signed.{mag}
use Rattle.algebra.specs.Integer.{nat_abs_add, nat_abs_neg}

-- A difference is at most as large as its parts together.
pub nat_abs_minus : (x y : ℤ) → nat_abs (x -ℤ y) ≤ nat_abs x + nat_abs y
nat_abs_minus x y = rw (nat_abs_neg y) at (nat_abs_add x (neg_ℤ y))

-- The size bounds what the width of a signed number asks.
pub mag_le : (x : ℤ) → mag x ≤ nat_abs x
mag_le (pos n) = le_refl n
mag_le (negsuc n) = omega arith
