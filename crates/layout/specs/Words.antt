-- What fits a word of 64 bits.
use Rattle.std.specs.Prelude.{ℕ, ◌*◌, ◌^◌, ◌<◌}
use Rattle.std.proofs.Common.{mul-le-mul, arith}
use Rattle.std.proofs.Math.Nat.{le-pred_of_lt}

-- A product of two numbers below 2^31, as every number modulo an allowed prime is, is below 2^62.
pub product_small : {x y : ℕ} → x < 2 ^ 31 → y < 2 ^ 31 → x * y < 2 ^ 62
product_small hx hy = omega (arith, mul-le-mul (le-pred_of_lt hx) (le-pred_of_lt hy))
