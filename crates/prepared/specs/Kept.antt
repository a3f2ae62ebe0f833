-- A signed number between two others, by the comparisons. No proof cites it now; it stands because it was stated.
--   Between low high z       z is neither below the one nor above the other
--   between_shifts, between_zero       that makes a shift of z, or 0
use Rattle.std.specs.Prelude.{◌≡◌, refl, ◌↔◌, true, false, ◌≤◌, ℤ, pos, negsuc, nat_abs}
use Rattle.std.proofs.Common.{ap, true≢false, arith, ltb-false, leb-true, le-leb, le-ltb}
use Rattle.std.specs.Int.Signed.{lt_z, le_z}
use Rattle.rules.specs.Sizes.{most_shift}

pub record Between (low high z : ℤ) : Type 0 where
  pub above : lt_z z low ≡ false
  pub below : le_z z high ≡ true

pub between_shifts : (z : ℤ) → Between (negsuc 999) (pos 1_000) z ↔ (nat_abs z ≤ most_shift)
unfolding most_shift
between_shifts (pos a) = (λ b. leb-true a 1_000 b.below, λ h. record { above = refl; below = le-leb a 1_000 h })
between_shifts (negsuc a) = (
  λ b. let h : a ≤ 999 = ltb-false 999 a b.above in omega arith,
  λ h. record { above = le-ltb 999 a (omega arith); below = refl },
)

pub between_zero : (z : ℤ) → Between (pos 0) (pos 0) z ↔ (z ≡ pos 0)
between_zero (pos a) = (
  λ b. let h : a ≤ 0 = leb-true a 0 b.below in let e : a ≡ 0 = omega arith in ap pos e,
  λ e. let h : nat_abs (pos a) ≡ 0 = ap nat_abs e in record { above = le-ltb a 0 (omega arith); below = le-leb a 0 (omega arith) },
)
between_zero (negsuc a) = (
  λ b. absurd (true≢false b.above),
  λ e. let h : nat_abs (negsuc a) ≡ 0 = ap nat_abs e in absurd (omega arith),
)
