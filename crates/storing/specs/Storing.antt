-- Reading into room that the caller lends: what a reader of the rules gives is stored, and a loop over readers stores as it goes.
--   into                     a result with its value stored: into_off, into_on, into_got, into_refused, into_next, into_end
--   pour                     the members of a list stored one after the other
--   rest                     a loop's work from its i-th reader on: what is still to be read, stored into what the room holds by then
--   Kept                     a loop's invariant: the rest of the work is the whole work
--   began, stopped, went_on, ended       the loop's start, a turn that is refused, one that is not, and its end: the whole is the rules' `each`, stored
--   file_end                 a file whose last record has been stored
use Rattle.std.specs.Prelude.{◌≡◌, Bool, true, false, cond, List, [], ◌∷◌, eqb, length}
use Rattle.std.proofs.Math.Path.{refl, sym, ap, fun_ext}
use Rattle.std.proofs.Common.{◌∙◌, zero-add, add-zero, add-suc, suc-add, add-one}
use Prim.Native.Nat.{ℕ, zero, suc, ◌+◌, ◌-◌, ◌≤◌, ◌<◌}
use native.Mathlib.Omega.{arith}
use Rattle.rules.specs.Reader.{Place, Refusal, Result, refused, got, Reader, next, each, end}
use Rattle.place.specs.declared.Place.{Place as Spot}
use Rattle.std.specs.Prelude.{Ok, Err}
use Rattle.place.specs.Places.{place, refusal, going, finish_of, opened_at, Going}

unfoldable pub into : {A B : Type 0} → (A → B) → Result A → Result B
into g (refused r) = refused r
into g (got a q) = got (g a) q

-- The parts of a result, or others where there are none.
value_or : {B : Type 0} → B → Result B → B
value_or b (refused x) = b
value_or b (got c q) = c

place_or : {B : Type 0} → Place → Result B → Place
place_or p (refused x) = p
place_or p (got b q) = q

refusal_or : {B : Type 0} → Refusal → Result B → Refusal
refusal_or y (refused x) = x
refusal_or y (got b q) = y

-- What was stored was read.
pub into_got : {A B : Type 0} (h : A → B) (m : Result A) {b : B} {q : Place} → got b q ≡ into h m → (a : A) × (got a q ≡ m) × (h a ≡ b)
unfolding into value_or place_or
into_got h (refused x) e = let z : ◌≡◌ {A = ℕ} 0 1 = cc in absurd (omega arith)
into_got h (got a q') {b} e = (a, ap (λ (p : Place). got a p) (ap (place_or q') e), ap (value_or b) (sym e))

-- What was refused was refused.
pub into_refused : {A B : Type 0} (h : A → B) (m : Result A) {x : Refusal} → refused x ≡ into h m → refused x ≡ m
unfolding into refusal_or
into_refused h (refused y) e = ap (λ (r : Refusal). refused r) (ap (refusal_or y) e)
into_refused h (got a q) e = let z : ◌≡◌ {A = ℕ} 0 1 = cc in absurd (omega arith)

-- Storing what a reader gives to the next one.
pub into_next : {A B C : Type 0} (g : B → C) (m : Result A) (f : A → Place → Result B) → into g (next m f) ≡ next m (λ a q. into g (f a q))
unfolding into next
into_next g (refused x) f = refl
into_next g (got a q) f = refl

-- The end of a file does nothing to what was read.
pub into_end : {A B : Type 0} (h : A → B) (a : A) (s : List ℕ) (p : Place) → into h (end a s p) ≡ end (h a) s p
unfolding into end
into_end h a s p = go (eqb p.at (length s)) _
  where
    go : (b : Bool) (x : Refusal) → into h (cond b (got a p) (refused x)) ≡ cond b (got (h a) p) (refused x)
    go true x = refl
    go false x = refl

going_finish : {B : Type 0} (b : B) (s : List ℕ) (q : Spot) → going (finish_of (length s) q) b ≡ end b s (place q)
unfolding end
going_finish b s q = go (eqb q.at (length s))
  where
    go : (t : Bool) → going (cond t (Ok q) (Err (record { code = 8; place = opened_at q }))) b
        ≡ cond t (got b (place q)) (refused (refusal (record { code = 8; place = opened_at q })))
    go true = refl
    go false = refl

-- A file whose last record has been stored.
pub file_end : {A B : Type 0} (h : A → B) (a : A) {b : B} (s : List ℕ) (q : Spot) {g : Going} → h a ≡ b → g ≡ finish_of (length s) q
    → going g b ≡ into h (end a s (place q))
file_end h a {b} s q e f =
    ap (λ (x : Going). going x b) f ∙ going_finish b s q ∙ sym (into_end h a s (place q) ∙ ap (λ y. end y s (place q)) e)

-- What was refused, or read, with its value stored.
module _ {A B : Type 0} (g : A → B) {m : Result A} where
  pub into_off : {x : Refusal} → refused x ≡ m → into g m ≡ refused x
  unfolding into
  into_off e = ap (into g) (sym e)

  pub into_on : {a : A} {q : Place} → got a q ≡ m → into g m ≡ got (g a) q
  unfolding into
  into_on e = ap (into g) (sym e)

-- The members of a list, the first of number i, put into st one after the other.
unfoldable pub pour : {A S : Type 0} → (S → ℕ → A → S) → ℕ → S → List A → S
pour put i st [] = st
pour put i st (a ∷ l) = pour put (suc i) (put st i a) l

module _ {A S : Type 0} (put : S → ℕ → A → S) (f : ℕ → Reader A) (s : List ℕ) where
  -- The readers f i, f (i + 1), …, n of them, with each value put into what is there by then.
  unfoldable pub rest : ℕ → ℕ → S → Place → Result S
  rest zero i st p = got st p
  rest (suc n) i st p = next (into (put st i) (f i s p)) (λ st' q. rest n (suc i) st' q)

  -- One turn, at the i-th of n readers.
  rest_turn : (n i : ℕ) (st : S) (p : Place) → i < n
      → rest (n - i) i st p ≡ next (into (put st i) (f i s p)) (λ st' q. rest (n - (i + 1)) (i + 1) st' q)
  unfolding rest
  rest_turn n i st p h =
      let e : n - i ≡ suc (n - (i + 1)) = omega arith in
      ap (λ (k : ℕ). rest k i st p) e ∙ ap (λ (j : ℕ). next (into (put st i) (f i s p)) (λ st' q. rest (n - (i + 1)) j st' q)) (sym (add-one i))

  rest_none : (n i : ℕ) (st : S) (p : Place) → n ≤ i → rest (n - i) i st p ≡ got st p
  unfolding rest
  rest_none n i st p h =
      let e : n - i ≡ 0 = omega arith in
      ap (λ (k : ℕ). rest k i st p) e

  into_cons : (i : ℕ) (st : S) (a : A) (r : Result (List A))
      → into (pour put (suc i) (put st i a)) r ≡ into (pour put i st) (next r (λ l q. got (a ∷ l) q))
  unfolding into pour next
  into_cons i st a (refused x) = refl
  into_cons i st a (got l q) = refl

  rest_step : (n i : ℕ) (st : S) → ((st' : S) (q : Place) → rest n (suc i) st' q ≡ into (pour put (suc i) st') (each n (λ k. f (suc i + k)) s q))
      → (r : Result A)
      → next (into (put st i) r) (λ st' q. rest n (suc i) st' q)
      ≡ into (pour put i st) (next r (λ a q. next (each n (λ k. f (suc i + k)) s q) (λ l q'. got (a ∷ l) q')))
  unfolding into next
  rest_step n i st ih (refused x) = refl
  rest_step n i st ih (got a q) = ih (put st i a) q ∙ into_cons i st a (each n (λ k. f (suc i + k)) s q)

  rest_from : (n i : ℕ) (st : S) (p : Place) → rest n i st p ≡ into (pour put i st) (each n (λ k. f (i + k)) s p)
  unfolding rest into pour each
  rest_from zero i st p = refl
  rest_from (suc n) i st p =
      rest_step n i st (λ st' q. rest_from n (suc i) st' q) (f i s p)
      ∙ ap (λ (j : ℕ). into (pour put i st) (next (f j s p) (λ a q. next (each n (λ k. f (suc i + k)) s q) (λ l q'. got (a ∷ l) q')))) (sym (add-zero i))
      ∙ ap (λ (g : ℕ → Reader A). into (pour put i st) (next (f (i + 0) s p) (λ a q. next (each n g s q) (λ l q'. got (a ∷ l) q'))))
      (fun_ext (λ k. ap f (suc-add i k ∙ sym (add-suc i k))))

  -- The whole loop, from its first reader on.
  pub rest_whole : (n : ℕ) (st : S) (p : Place) → rest (n - 0) 0 st p ≡ into (pour put 0 st) (each n f s p)
  rest_whole n st p =
      let e : n - 0 ≡ n = omega arith in
      ap (λ (k : ℕ). rest k 0 st p) e
      ∙ rest_from n 0 st p
      ∙ ap (λ (g : ℕ → Reader A). into (pour put 0 st) (each n g s p)) (fun_ext (λ k. ap f (zero-add k)))

  -- The invariant of a loop over n readers that began with st₀ at p₀: the rest of the work after i readers is the whole work.
  pub record Kept (n : ℕ) (st₀ : S) (p₀ : Place) (i : ℕ) (st : S) (p : Place) : Type 0 where
    pub whole : rest (n - 0) 0 st₀ p₀ ≡ rest (n - i) i st p

  pub began : (n : ℕ) (st : S) (p : Place) → Kept n st p 0 st p
  began n st p = record { whole = refl }

module _ {A S : Type 0} {put : S → ℕ → A → S} {f : ℕ → Reader A} {s : List ℕ} {n i : ℕ} {st₀ st : S} {p₀ p : Place}
    (kept : Kept put f s n st₀ p₀ i st p) (h : i < n) where
  -- A turn that is refused refuses the whole.
  pub stopped : {x : Refusal} → into (put st i) (f i s p) ≡ refused x → refused x ≡ into (pour put 0 st₀) (each n f s p₀)
  unfolding next
  stopped e =
      sym
      (sym (rest_whole put f s n st₀ p₀)
      ∙ kept.whole
      ∙ rest_turn put f s n i st p h
      ∙ ap (λ r. next r (λ st' q. rest put f s (n - (i + 1)) (i + 1) st' q)) e)

  -- A turn that is not keeps the invariant.
  pub went_on : {st' : S} {q : Place} → into (put st i) (f i s p) ≡ got st' q → Kept put f s n st₀ p₀ (i + 1) st' q
  unfolding next
  went_on e =
      record { whole = kept.whole ∙ rest_turn put f s n i st p h ∙ ap (λ r. next r (λ st' q. rest put f s (n - (i + 1)) (i + 1) st' q)) e }

-- After the last turn all is stored.
pub ended : {A S : Type 0} {put : S → ℕ → A → S} {f : ℕ → Reader A} {s : List ℕ} {n i : ℕ} {st₀ st : S} {p₀ p : Place} → Kept put f s n st₀ p₀ i st p → n ≤ i
    → got st p ≡ into (pour put 0 st₀) (each n f s p₀)
ended {put = put} {f = f} {s = s} {n = n} {i = i} {st₀ = st₀} {st = st} {p₀ = p₀} {p = p} kept h =
    sym (sym (rest_whole put f s n st₀ p₀) ∙ kept.whole ∙ rest_none put f s n i st p h)
