-- Fields read one after the other, each stored as it is read: how the reading goes on, and what the room holds by then, after a refusal too.
--   storing                  one field: its value stored, or the room as it was
--   steps                    so many steps, each from where the one before left the reading and the room
--   Reached                  a loop's invariant: the steps that are left do the whole work; off, on, through: a turn that is refused, one that
--                            is not, and the end
--   store_off, store_on, stored, stored_off       what a callee gave, as a turn's result
--   reading                  what was read: storing_reads, steps_read, reading_going
--   going_one                one answer of the code for each of the rules
use Rattle.std.specs.Prelude.{◌≡◌, List}
use Rattle.std.proofs.Math.Path.{refl, sym, ap, fun_ext}
use Rattle.std.proofs.Common.{◌∙◌, add-one}
use Prim.Native.Nat.{ℕ, zero, suc, ◌+◌, ◌-◌, ◌≤◌, ◌<◌}
use native.Mathlib.Omega.{arith}
use Rattle.rules.specs.Reader.{Place, Refusal, Result, refused, got, Reader, next, each}
use Rattle.laws.specs.ReaderLaws.{got_not_refused}
use Rattle.place.specs.declared.Stop.{Stop}
use Rattle.std.specs.Prelude.{Ok, Err}
use Rattle.place.specs.Places.{refusal, going, place_one, refusal_one, Going}
use Rattle.storing.specs.Storing.{into, pour, rest, rest_whole}

-- How the reading goes on, beside the room.
abbrev pub Left : Type 0 → Type 0
Left S = Result (Unit {0}) × S

unfoldable pub storing : {A S : Type 0} → (A → S) → S → Result A → Left S
storing g st (refused x) = (refused x, st)
storing g st (got a q) = (got tt q, g a)

-- The next step, unless the reading is refused.
unfoldable pub onward : {S : Type 0} → Result (Unit {0}) → S → (S → Place → Left S) → Left S
onward (refused x) st f = (refused x, st)
onward (got u q) st f = f st q

module _ {S : Type 0} (f : ℕ → S → Place → Left S) where
  -- n steps, the first of number i.
  unfoldable pub steps : ℕ → ℕ → S → Place → Left S
  steps zero i st p = (got tt p, st)
  steps (suc n) i st p = onward (f i st p).0 (f i st p).1 (λ st' q. steps n (suc i) st' q)

  turn : (n i : ℕ) (st : S) (p : Place) → i < n
      → steps (n - i) i st p ≡ onward (f i st p).0 (f i st p).1 (λ st' q. steps (n - (i + 1)) (i + 1) st' q)
  unfolding steps
  turn n i st p h =
      let e : n - i ≡ suc (n - (i + 1)) = omega arith in
      ap (λ (k : ℕ). steps k i st p) e ∙ ap (λ (j : ℕ). onward (f i st p).0 (f i st p).1 (λ st' q. steps (n - (i + 1)) j st' q)) (sym (add-one i))

  none_left : (n i : ℕ) (st : S) (p : Place) → n ≤ i → steps (n - i) i st p ≡ (got tt p, st)
  unfolding steps
  none_left n i st p h =
      let e : n - i ≡ 0 = omega arith in
      ap (λ (k : ℕ). steps k i st p) e

  -- The invariant of a loop of n steps that began with st₀ at p₀: the steps after the i-th do the whole work.
  pub record Reached (n : ℕ) (st₀ : S) (p₀ : Place) (i : ℕ) (st : S) (p : Place) : Type 0 where
    pub whole : steps n 0 st₀ p₀ ≡ steps (n - i) i st p

  pub begun : (n : ℕ) (st : S) (p : Place) → Reached n st p 0 st p
  begun n st p = record { whole = let e : n - 0 ≡ n = omega arith in sym (ap (λ (k : ℕ). steps k 0 st p) e) }

module _ {S : Type 0} {f : ℕ → S → Place → Left S} {n i : ℕ} {st₀ st : S} {p₀ p : Place} (kept : Reached f n st₀ p₀ i st p) where
  pub off : {x : Refusal} {st' : S} → i < n → f i st p ≡ (refused x, st') → ◌≡◌ {A = Left S} (refused x, st') (steps f n 0 st₀ p₀)
  unfolding onward
  off h e = sym (kept.whole ∙ turn f n i st p h ∙ ap (λ (r : Left S). onward r.0 r.1 (λ st' q. steps f (n - (i + 1)) (i + 1) st' q)) e)

  pub on : {q : Place} {st' : S} → i < n → f i st p ≡ (got tt q, st') → Reached f n st₀ p₀ (i + 1) st' q
  unfolding onward
  on h e =
      record { whole = kept.whole ∙ turn f n i st p h ∙ ap (λ (r : Left S). onward r.0 r.1 (λ st' q. steps f (n - (i + 1)) (i + 1) st' q)) e }

  pub through : n ≤ i → ◌≡◌ {A = Left S} (got tt p, st) (steps f n 0 st₀ p₀)
  through h = sym (kept.whole ∙ none_left f n i st p h)

-- What was read, stored; after a refusal the room does not count.
unfoldable pub reading : {S : Type 0} → Result (Unit {0}) → S → Result S
reading (refused x) st = refused x
reading (got u q) st = got st q

-- A field's answer, stored.
module _ {A S : Type 0} (g : A → S) (st : S) {m : Result A} where
  pub store_off : {x : Refusal} → refused x ≡ m → ◌≡◌ {A = Left S} (storing g st m) (refused x, st)
  unfolding storing
  store_off e = ap (storing g st) (sym e)

  pub store_on : {a : A} {q : Place} → got a q ≡ m → ◌≡◌ {A = Left S} (storing g st m) (got tt q, g a)
  unfolding storing
  store_on e = ap (storing g st) (sym e)

-- The answer of steps, beside the room.
abbrev pub stored : {S : Type 0} → Going → S → Left S
stored g st = (going g tt, st)

pub stored_off : {S : Type 0} (st : S) {g : Going} {x : Stop} → g ≡ Err x → ◌≡◌ {A = Left S} (stored g st) (refused (refusal x), st)
stored_off st e = ap (λ (g : Going). stored g st) e

pub storing_reads : {A S : Type 0} (g : A → S) (st : S) (m : Result A) → reading (storing g st m).0 (storing g st m).1 ≡ into g m
unfolding storing reading into
storing_reads g st (refused x) = refl
storing_reads g st (got a q) = refl

-- Steps of which each stores what a reader of the rules reads: together they store what all of these read.
module _ {A S : Type 0} (put : S → ℕ → A → S) (r : ℕ → Reader A) (s : List ℕ) (f : ℕ → S → Place → Left S)
    (reads : (i : ℕ) (st : S) (p : Place) → reading (f i st p).0 (f i st p).1 ≡ into (put st i) (r i s p)) where
  reading_onward : (u : Result (Unit {0})) (st : S) (k : S → Place → Left S)
      → reading (onward u st k).0 (onward u st k).1 ≡ next (reading u st) (λ st' q. reading (k st' q).0 (k st' q).1)
  unfolding reading onward next
  reading_onward (refused x) st k = refl
  reading_onward (got u q) st k = refl

  steps_rest : (n i : ℕ) (st : S) (p : Place) → reading (steps f n i st p).0 (steps f n i st p).1 ≡ rest put r s n i st p
  unfolding steps reading rest
  steps_rest zero i st p = refl
  steps_rest (suc n) i st p =
      reading_onward (f i st p).0 (f i st p).1 (λ st' q. steps f n (suc i) st' q)
      ∙ ap (λ (m : Result S). next m (λ st' q. reading (steps f n (suc i) st' q).0 (steps f n (suc i) st' q).1)) (reads i st p)
      ∙ ap (λ (k : S → Place → Result S). next (into (put st i) (r i s p)) k) (fun_ext (λ st'. fun_ext (λ q. steps_rest n (suc i) st' q)))

  pub steps_read : (n : ℕ) (st : S) (p : Place) → reading (steps f n 0 st p).0 (steps f n 0 st p).1 ≡ into (pour put 0 st) (each n r s p)
  steps_read n st p =
      let e : n ≡ n - 0 = omega arith in
      steps_rest n 0 st p ∙ ap (λ (k : ℕ). rest put r s k 0 st p) e ∙ rest_whole put r s n st p

-- The code's answer beside its room.
pub reading_going : {S : Type 0} (g : Going) (st : S) → reading (going g tt) st ≡ going g st
unfolding reading
reading_going (Ok q) st = refl
reading_going (Err x) st = refl

got_place : {p q : Place} → ◌≡◌ {A = Result (Unit {0})} (got tt p) (got tt q) → p ≡ q
got_place e = cc

refused_one : {x y : Refusal} → ◌≡◌ {A = Result (Unit {0})} (refused x) (refused y) → x ≡ y
refused_one e = cc

pub going_one : (g h : Going) → going {A = Unit {0}} g tt ≡ going h tt → g ≡ h
going_one (Ok q) (Ok r) e = ap Ok (place_one q r (got_place e))
going_one (Ok q) (Err y) e = got_not_refused (sym e) refl
going_one (Err x) (Ok r) e = got_not_refused e refl
going_one (Err x) (Err y) e = ap Err (refusal_one x y (refused_one e))
