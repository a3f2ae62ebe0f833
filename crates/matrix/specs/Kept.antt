-- The number of a power, and what stands there. No proof cites it now; it stands because it was stated.
--   exponent_of z            the number at which the coefficient at z stands
--   at_exponent, exponent_negative, exponent_nat_abs
use Rattle.std.specs.Prelude.{◌≡◌, refl, true, false, ℕ, ◌<◌, T, ℤ, pos, negsuc, nat_abs}
use Rattle.std.proofs.Common.{sym, subst, arith, ltb-true}
use Rattle.std.specs.Int.Signed.{lt_z}
use Rattle.rules.specs.Sizes.{most_length}
use Rattle.matrix.specs.Leading.{at_power}

-- The number of a power, and one at which no entry of P has a coefficient where it is negative.
unfoldable pub exponent_of : ℤ → ℕ
exponent_of (pos k) = k
exponent_of (negsuc k) = most_length

-- What stands there is what stands at the power, if nothing stands from the largest length on.
pub at_exponent : (z : ℤ) (f : ℕ → ℕ) → f most_length ≡ 0 → at_power z f ≡ f (exponent_of z)
unfolding at_power exponent_of
at_exponent (pos k) f past = refl
at_exponent (negsuc k) f past = sym past

-- By the test of being below 0.
pub exponent_negative : (z : ℤ) → lt_z z (pos 0) ≡ true → exponent_of z ≡ most_length
unfolding exponent_of
exponent_negative (pos k) t = absurd (let h : k < 0 = ltb-true k 0 t in omega arith)
exponent_negative (negsuc k) t = refl

pub exponent_nat_abs : (z : ℤ) → lt_z z (pos 0) ≡ false → exponent_of z ≡ nat_abs z
unfolding exponent_of
exponent_nat_abs (pos k) t = refl
exponent_nat_abs (negsuc k) t = absurd (subst T t tt)
