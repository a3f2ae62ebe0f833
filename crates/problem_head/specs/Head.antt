-- The `PR` record: what reading it gives, as a result of the rules.
--   headed                   the code's answer
--   headed_one               one answer of the code for each of the rules
use Rattle.std.specs.Prelude.{◌≡◌, refl, ℕ, Result as Outcome, Ok, Err}
use Rattle.std.proofs.Common.{sym, ap}
use Rattle.rules.specs.Reader.{Place, Refusal, Result, refused, got}
use Rattle.laws.specs.ReaderLaws.{got_not_refused}
use Rattle.place.specs.declared.Place.{Place as Spot}
use Rattle.place.specs.declared.Stop.{Stop}
use Rattle.place.specs.Places.{place, refusal, place_one, refusal_one}
use Rattle.problem_head.specs.declared.Sizes.{Sizes}

abbrev pub Headed : Type 0
Headed = Outcome (Sizes × Spot) Stop

abbrev pub headed : Headed → Result (ℕ × ℕ × ℕ)
headed (Ok h) = got (h.0.p, h.0.m, h.0.n) (place h.1)
headed (Err x) = refused (refusal x)

-- The rules' results tell the code's apart.
parts_one : {a b : ℕ × ℕ × ℕ} {p q : Place} → got a p ≡ got b q → (a ≡ b) × (p ≡ q)
parts_one e = (cc, cc)

refused_one : {x y : Refusal} → ◌≡◌ {A = Result (ℕ × ℕ × ℕ)} (refused x) (refused y) → x ≡ y
refused_one e = cc

pub headed_one : (a b : Headed) → headed a ≡ headed b → a ≡ b
headed_one (Ok h) (Ok k) e =
    let (same, there) = parts_one e in
    let after = place_one h.1 k.1 there in
    λ i. Ok (record { p = (same i).0; m = (same i).1; n = (same i).2 }, after i)
headed_one (Ok h) (Err y) e = got_not_refused (sym e) refl
headed_one (Err x) (Ok k) e = got_not_refused e refl
headed_one (Err x) (Err y) e = ap Err (refusal_one x y (refused_one e))
