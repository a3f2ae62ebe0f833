-- Which numbers pass the test of being below 0, and the number that is meant where that is not so. No proof cites it now.
--   negative_natural         below 0 it is 0
--   not_negative, nat_abs_natural      from 0 on it is the number's size
use mathlib.Core.Path.{◌≡◌, refl, subst}
use mathlib.Core.Bool.{true, false}
use Prim.Native.Nat.{◌<◌}
use native.Mathlib.Omega.{arith}
use borrow.Author.Tests.{ltb-true}
use lib.Dec.{T}
use lib.IntN.{ℤ, pos, negsuc, nat_abs}
use lib.Signed.{lt_z, non_neg}
use Rattle.rules.specs.Verdict.{natural}

pub negative_natural : (x : ℤ) → lt_z x (pos 0) ≡ true → natural x ≡ 0
negative_natural (pos a) t = absurd (let h : a < 0 = ltb-true a 0 t in omega arith)
negative_natural (negsuc a) t = refl

pub not_negative : (x : ℤ) → lt_z x (pos 0) ≡ false → T (non_neg x)
not_negative (pos a) t = tt
not_negative (negsuc a) t = absurd (subst T t tt)

pub nat_abs_natural : (x : ℤ) → lt_z x (pos 0) ≡ false → nat_abs x ≡ natural x
nat_abs_natural (pos a) t = refl
nat_abs_natural (negsuc a) t = absurd (subst T t tt)
