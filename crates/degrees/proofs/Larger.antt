-- The larger of two degrees is what the library's `max` gives: it takes none for less than every number.
--   max_larger               of two that may be none
use Rattle.std.specs.Prelude.{◌≡◌, refl, Bool, true, false, not, cond, ℕ, ltb, ℤ, pos, negsuc, Option, None, Some}
use Rattle.std.proofs.Common.{arith, Less, Equal, Greater}
use Rattle.std.proofs.Math.Dec.{leb}
use Rattle.std.proofs.lemmas.Bool.Decides.{nat_tests}
use Rattle.std.specs.Int.Signed.{lt_z, le_z}
use Rattle.std.specs.Ordering.{is_lt, int_cmp, ord_max}
use Rattle.std.specs.Option.{option_cmp}
use Rattle.rules.specs.Conditions.{larger}

not_above : (a b : ℕ) → leb a b ≡ not (ltb b a)
not_above a b = grind (arith, nat_tests)

not_greater : (a b : ℤ) → le_z a b ≡ not (lt_z b a)
not_greater (pos a) (pos b) = not_above a b
not_greater (pos a) (negsuc b) = refl
not_greater (negsuc a) (pos b) = refl
not_greater (negsuc a) (negsuc b) = not_above b a

picked : (x y z : Bool) (a b : ℤ) → y ≡ not x → cond (is_lt (cond x Less (cond z Greater Equal))) (Some a) (Some b) ≡ Some (cond y b a)
picked true y z a b e = rw e refl
picked false y true a b e = rw e refl
picked false y false a b e = rw e refl

pub max_larger : (x y : Option ℤ) → ord_max (option_cmp int_cmp) x y ≡ larger x y
max_larger None None = refl
max_larger None (Some b) = refl
max_larger (Some a) None = refl
max_larger (Some a) (Some b) = picked (lt_z b a) (le_z a b) (lt_z a b) a b (not_greater a b)
