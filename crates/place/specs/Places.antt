-- The code's places and refusals as those of the rules.
--   place, code, refusal     the code's place, reason and refusal; code_least         no code is 0
--   Field, taken             what one field gives
--   Going, going             what several fields give, with what they left in the room lent
--   error_is, going_off      what a `?` hands on
--   place_one, refusal_one, taken_one    one of the code for each of the rules
use Rattle.std.specs.Prelude.{◌≡◌, refl, cond, ℕ, ◌+◌, ◌<◌, ◌≤◌, eqb, Result as Outcome, Ok, Err}
use Rattle.std.specs.Result.{IsErrAnd}
use Rattle.std.proofs.lemmas.Result.{err_from_is_err_and}
use Rattle.std.proofs.Common.{sym, ap, ◌∙◌, arith}
use Rattle.rules.specs.Reader.{Place, Refusal, Result, refused, got}
use Rattle.laws.specs.ReaderLaws.{got_not_refused}
use Rattle.place.specs.declared.Place.{Place as Spot}
use Rattle.place.specs.declared.Reason.{Reason}
use Rattle.place.specs.declared.Reason.TheVariants.{CutShort, WrongMark, WrongSize, WrongPrime, WrongNumber, NotBelowPrime, LastIsZero, BytesLeft}
use Rattle.place.specs.declared.Stop.{Stop}

abbrev pub place : Spot → Place
place q = record { file = q.file; number = q.number; start = q.start; at = q.at }

-- The refusals' codes: document 01, "Verdicts", 1 to 8.
abbrev pub code : Reason → ℕ
code CutShort = 1
code WrongMark = 2
code WrongSize = 3
code WrongPrime = 4
code WrongNumber = 5
code NotBelowPrime = 6
code LastIsZero = 7
code BytesLeft = 8

pub code_least : (r : Reason) → 1 ≤ code r
code_least CutShort = omega arith
code_least WrongMark = omega arith
code_least WrongSize = omega arith
code_least WrongPrime = omega arith
code_least WrongNumber = omega arith
code_least NotBelowPrime = omega arith
code_least LastIsZero = omega arith
code_least BytesLeft = omega arith

abbrev pub refusal : Stop → Refusal
refusal x = record { code = x.code; place = place x.place }

abbrev pub Field : Type 0
Field = Outcome (ℕ × Spot) Stop

abbrev pub taken : Field → Result ℕ
taken (Ok f) = got f.0 (place f.1)
taken (Err x) = refused (refusal x)

abbrev pub Going : Type 0
Going = Outcome Spot Stop

abbrev pub going : {A : Type 0} → Going → A → Result A
going (Ok q) a = got a (place q)
going (Err x) a = refused (refusal x)

-- The code's place at which a record starts, the one after a record, and how the reading goes on after it.
abbrev pub after_of : Spot → Spot
after_of q = record { file = q.file; number = q.number + 1; start = q.start; at = q.at }

abbrev pub opened_at : Spot → Spot
opened_at q = record { file = q.file; number = q.number; start = q.at; at = q.at }

abbrev pub closed_of : Going → Going
closed_of (Ok q) = Ok (after_of q)
closed_of (Err x) = Err x

-- One more record can be counted.
abbrev pub Numbered : Going → Type 0
Numbered (Ok q) = q.number < 65_535
Numbered (Err x) = Unit {0}

-- After the last record of a file of that length: its end, or refusal 8.
abbrev pub finish_of : ℕ → Spot → Going
finish_of n q = cond (eqb q.at n) (Ok q) (Err (record { code = 8; place = opened_at q }))

-- The rules' places, refusals and results of a field tell the code's apart.
pub place_one : (q r : Spot) → place q ≡ place r → q ≡ r
place_one q r e = λ i. record { file = (e i).file; number = (e i).number; start = (e i).start; at = (e i).at }

pub refusal_one : (x y : Stop) → refusal x ≡ refusal y → x ≡ y
refusal_one x y e = λ i. record { code = (e i).code; place = place_one x.place y.place (ap (λ (z : Refusal). z.place) e) i }

got_one : {v w : ℕ} {p q : Place} → got v p ≡ got w q → (v ≡ w) × (p ≡ q)
got_one e = (cc, cc)

refused_one : {x y : Refusal} → ◌≡◌ {A = Result ℕ} (refused x) (refused y) → x ≡ y
refused_one e = cc

pub taken_one : (a b : Field) → taken a ≡ taken b → a ≡ b
taken_one (Ok f) (Ok g) e =
    let (same, there) = got_one e in
    let after = place_one f.1 g.1 there in
    λ i. Ok (same i, after i)
taken_one (Ok f) (Err y) e = got_not_refused (sym e) refl
taken_one (Err x) (Ok g) e = got_not_refused e refl
taken_one (Err x) (Err y) e = ap Err (refusal_one x y (refused_one e))

-- A `?` hands on the refusal that it was given.
pub error_is : {A : Type 0} {r : Outcome A Stop} {x : Stop} → IsErrAnd r (λ y. y ≡ x) → r ≡ Err x
error_is {r = r} h = let (y, is, same) = err_from_is_err_and r h in is ∙ ap Err same

pub going_off : {A : Type 0} (a : A) {r : Going} {x : Stop} → r ≡ Err x → going r a ≡ refused (refusal x)
going_off a e = ap (λ (g : Going). going g a) e
