-- What a callee gave, as a turn's result, in the code's own answer. No proof cites it now; it stands because it was stated.
--   field_off, field_on, steps_off, steps_on
use Rattle.std.specs.Prelude.{◌≡◌, ℕ, Ok, Err}
use Rattle.std.proofs.Common.{sym, ap, ◌∙◌}
use Rattle.rules.specs.Reader.{Result, refused, got}
use Rattle.place.specs.declared.Place.{Place as Spot}
use Rattle.place.specs.declared.Stop.{Stop}
use Rattle.place.specs.Places.{place, refusal, Field, taken, Going}
use Rattle.runs.specs.Stored.{Left, storing, stored}

module _ {S : Type 0} (g : ℕ → S) (st : S) {r : Field} {m : Result ℕ} (gave : taken r ≡ m) where
  pub field_off : {x : Stop} → r ≡ Err x → ◌≡◌ {A = Left S} (storing g st m) (refused (refusal x), st)
  unfolding storing
  field_off e = ap (storing g st) (sym gave ∙ ap taken e)

  pub field_on : {v : ℕ} {q : Spot} → r ≡ Ok (v, q) → ◌≡◌ {A = Left S} (storing g st m) (got tt (place q), g v)
  unfolding storing
  field_on e = ap (storing g st) (sym gave ∙ ap taken e)

module _ {S : Type 0} (st : S) {g : Going} {m : Left S} (gave : stored g st ≡ m) where
  pub steps_off : {x : Stop} → g ≡ Err x → ◌≡◌ {A = Left S} m (refused (refusal x), st)
  steps_off e = sym gave ∙ ap (λ (h : Going). stored h st) e

  pub steps_on : {q : Spot} → g ≡ Ok q → ◌≡◌ {A = Left S} m (got tt (place q), st)
  steps_on e = sym gave ∙ ap (λ (h : Going). stored h st) e
