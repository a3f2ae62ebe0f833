-- An answer that settles a statement.
--   Settles D r              r is true if D holds, and false if it does not
--   settles_unique           two answers that settle the same statement are equal
use Rattle.std.specs.Prelude.{◌≡◌, refl, Bool, true, false}

pub record Settles (D : Type 0) (r : Bool) : Type 0 where
  pub holds : r ≡ true → D
  pub fails : r ≡ false → ¬ D

pub settles_unique : {D : Type 0} (r s : Bool) → Settles D r → Settles D s → r ≡ s
settles_unique true true hr hs = refl
settles_unique true false hr hs = absurd (hs.fails refl (hr.holds refl))
settles_unique false true hr hs = absurd (hr.fails refl (hs.holds refl))
settles_unique false false hr hs = refl
