-- What a callee gave, as a turn's result, in the code's own answer. No proof cites it now; it stands because it was stated.
--   field_off, field_on, going_off, going_on       stored
--   refuses, gives           one field
use Rattle.std.specs.Prelude.{◌≡◌, ℕ, Ok, Err}
use Rattle.std.proofs.Common.{sym, ap, ◌∙◌}
use Rattle.rules.specs.Reader.{Result, refused, got}
use Rattle.place.specs.declared.Place.{Place as Spot}
use Rattle.place.specs.declared.Stop.{Stop}
use Rattle.place.specs.Places.{place, refusal, Field, taken, Going, going}
use Rattle.storing.specs.Storing.{into}

-- A field's answer, stored.
module _ {B : Type 0} (g : ℕ → B) {r : Field} {m : Result ℕ} (gave : taken r ≡ m) where
  pub field_off : {x : Stop} → r ≡ Err x → into g m ≡ refused (refusal x)
  unfolding into
  field_off e = ap (into g) (sym gave ∙ ap taken e)

  pub field_on : {v : ℕ} {q : Spot} → r ≡ Ok (v, q) → into g m ≡ got (g v) (place q)
  unfolding into
  field_on e = ap (into g) (sym gave ∙ ap taken e)

-- The answer of several fields that stored what they read.
module _ {B : Type 0} (b : B) {r : Going} {m : Result B} (gave : going r b ≡ m) where
  pub going_off : {x : Stop} → r ≡ Err x → m ≡ refused (refusal x)
  going_off e = sym gave ∙ ap (λ (g : Going). going g b) e

  pub going_on : {q : Spot} → r ≡ Ok q → m ≡ got b (place q)
  going_on e = sym gave ∙ ap (λ (g : Going). going g b) e

-- A field that is refused, or given, in the code's answer.
module _ {r : Field} {m : Result ℕ} (gave : taken r ≡ m) where
  pub refuses : {x : Stop} → r ≡ Err x → m ≡ refused (refusal x)
  refuses e = sym gave ∙ ap taken e

  pub gives : {v : ℕ} {q : Spot} → r ≡ Ok (v, q) → m ≡ got v (place q)
  gives e = sym gave ∙ ap taken e
