-- Laws of the parts that the files' readers are made of.
--   next_got, next_refused   a reading in two steps: what each step did
--   next_next_got, next_next_refused   two readings whose results are put together
--   next_cong                what comes after a reading matters only at what it gave
--   field_passed, field_short, field_failed, field_cases, field_got      what a field gives, and how it is refused
--   end_passed, end_failed, end_cases, end_got           the same of a file's end
--   moved, opening, closed   the place after a field, at a record's start, after its end
--   Forward, Refusing        where a reading ends, or is refused
--   Listed n d Q l           l has n members, of which the one with the number i is in Q i
--   Sound k c Q m            m moves over k bytes and c records at most, gives what is in Q, and looks no further than it may move
--   sound_give, sound_next, sound_field, sound_end, sound_inside, sound_each, sound_weaken      the parts are sound
--   Ends m                   what m gives, it gives at the file's end: ends_end, ends_next
use Rattle.std.specs.Prelude.{◌≡◌, refl, ◌↔◌, ◌≢◌, ◌⊎◌, List, [], ◌∷◌, ℕ, zero, suc, ◌+◌, ◌*◌, ◌≤◌, ◌<◌, leb, eqb, length, get_or, take}
use Rattle.std.proofs.Common.{sym, ap, ap₂, subst, ◌∙◌, inl, inr, le_of_suc-le-suc, not-suc-le-zero, arith, le→leb, eqb→eq, length-take, get_or-take}
use Rattle.std.proofs.Math.Logic.{by_cases}
use Rattle.std.proofs.Math.Decide.{ℕ_discrete, dec_le}
use Rattle.std.proofs.Math.Arith.{lt→nleb}
use Rattle.std.proofs.Math.Dec.{T, eqb_refl, not_T}
use Rattle.laws.specs.BoolLaws.{cond_true, cond_false}
use Rattle.rules.specs.Reader.{Place, Refusal, Result, refused, got, Reader, next, ◌>>=◌, give, number_at, field, inside, each, end}

-- RESULTS

-- A result is not both a refusal and something read.
pub got_not_refused {ℓ} : {X : Type ℓ} {A : Type 0} {x : Result A} {a : A} {q : Place} {r : Refusal} → x ≡ got a q → x ≡ refused r → X
got_not_refused h k = absurd (let z : ◌≡◌ {A = ℕ} 0 1 = cc in omega arith)

-- The same refusal, of a reading of another kind.
refused_as : {A B : Type 0} {r r' : Refusal} → ◌≡◌ {A = Result A} (refused r) (refused r') → ◌≡◌ {A = Result B} (refused r) (refused r')
refused_as {r} {r'} h = ap refused (let e : r ≡ r' = cc in e)

-- A reading in two steps that gave something: each step did.
pub next_got : {A B : Type 0} (x : Result A) (f : A → Place → Result B) {b : B} {q : Place} → next x f ≡ got b q
    → (a : A) × (p : Place) × (x ≡ got a p) × (f a p ≡ got b q)
unfolding next
next_got (refused r) f h = got_not_refused h refl
next_got (got a p) f h = (a, p, refl, h)

-- Two readings whose results are put together: each gave something.
pub next_next_got : {A B C : Type 0} (x : Result A) (f : A → Result B) (g : A → B → C) {c : C} {q : Place}
    → next x (λ a p. next (f a) (λ b r. got (g a b) r)) ≡ got c q → (a : A) × (p : Place) × (b : B) × (x ≡ got a p) × (f a ≡ got b q) × (g a b ≡ c)
next_next_got {A} {B} {C} x f g {c} {q} h = second (next_got x (λ a p. next (f a) (λ b r. got (g a b) r)) h)
  where
    both : (a : A) (p : Place) → x ≡ got a p → (b : B) × (r : Place) × (f a ≡ got b r) × (◌≡◌ {A = Result C} (got (g a b) r) (got c q))
        → (a : A) × (p : Place) × (b : B) × (x ≡ got a p) × (f a ≡ got b q) × (g a b ≡ c)
    both a p e (b, r, e', h) = let same : r ≡ q = cc in let value : g a b ≡ c = cc in (a, p, b, e, e' ∙ ap (got b) same, value)

    second : (a : A) × (p : Place) × (x ≡ got a p) × (next (f a) (λ b r. got (g a b) r) ≡ got c q)
        → (a : A) × (p : Place) × (b : B) × (x ≡ got a p) × (f a ≡ got b q) × (g a b ≡ c)
    second (a, p, e, h) = both a p e (next_got (f a) (λ b r. got (g a b) r) h)

-- A reading in two steps that was refused: the first was, or the second was after the first gave something.
pub next_refused : {A B : Type 0} (x : Result A) (f : A → Place → Result B) {r : Refusal} → next x f ≡ refused r
    → (x ≡ refused r) ⊎ ((a : A) × (p : Place) × (x ≡ got a p) × (f a p ≡ refused r))
unfolding next
next_refused (refused r) f h = inl (refused_as h)
next_refused (got a p) f h = inr (a, p, refl, h)

-- Two readings whose results are put together, and which were refused: one of them was.
pub next_next_refused : {A B C : Type 0} (x : Result A) (f : A → Result B) (g : A → B → C) {r : Refusal}
    → next x (λ a p. next (f a) (λ b q. got (g a b) q)) ≡ refused r → (x ≡ refused r) ⊎ ((a : A) × (p : Place) × (x ≡ got a p) × (f a ≡ refused r))
next_next_refused {A} {B} {C} x f g {r} h = by_step (next_refused x (λ a p. next (f a) (λ b q. got (g a b) q)) h)
  where
    second : (a : A) → (f a ≡ refused r) ⊎ ((b : B) × (q : Place) × (f a ≡ got b q) × (◌≡◌ {A = Result C} (got (g a b) q) (refused r))) → f a ≡ refused r
    second a (inl e) = e
    second a (inr (b, q, e, h)) = got_not_refused refl h

    by_step : (x ≡ refused r) ⊎ ((a : A) × (p : Place) × (x ≡ got a p) × (next (f a) (λ b q. got (g a b) q) ≡ refused r))
        → (x ≡ refused r) ⊎ ((a : A) × (p : Place) × (x ≡ got a p) × (f a ≡ refused r))
    by_step (inl e) = inl e
    by_step (inr (a, p, e, h)) = inr (a, p, e, second a (next_refused (f a) (λ b q. got (g a b) q) h))

-- FIELDS

-- The place k bytes further on in the same record.
abbrev pub moved : ℕ → Place → Place
moved k p = record { file = p.file; number = p.number; start = p.start; at = p.at + k }

module _ (k : ℕ) (test : ℕ → ℕ) (s : List ℕ) (p : Place) where
  -- A field that is wholly there and passes its test gives its number, …
  pub field_passed : p.at + k ≤ length s → test (number_at k s p.at) ≡ 0 → field k test s p ≡ got (number_at k s p.at) (moved k p)
  unfolding field
  field_passed h e =
      cond_true (leb (p.at + k) (length s)) _ _ (le→leb (p.at + k) (length s) h)
      ∙ cond_true (eqb (test (number_at k s p.at)) 0) _ _ (subst (λ x. T (eqb x 0)) (sym e) tt)

  -- … one that is not wholly there is refused by 1, …
  pub field_short : length s < p.at + k → field k test s p ≡ refused (record { code = 1; place = p })
  unfolding field
  field_short h = cond_false (leb (p.at + k) (length s)) _ _ (lt→nleb (p.at + k) (length s) h)

  -- … and one that fails its test, by the test's code.
  pub field_failed : p.at + k ≤ length s → test (number_at k s p.at) ≢ 0
      → field k test s p ≡ refused (record { code = test (number_at k s p.at); place = p })
  unfolding field
  field_failed h ne =
      cond_true (leb (p.at + k) (length s)) _ _ (le→leb (p.at + k) (length s) h)
      ∙ cond_false (eqb (test (number_at k s p.at)) 0) _ _
      (not_T (eqb (test (number_at k s p.at)) 0) (λ t. ne (eqb→eq (test (number_at k s p.at)) 0 t)))

  -- What holds of a field in each of the three cases holds of it.
  pub field_cases : (P : Result ℕ → Type 0)
      → (p.at + k ≤ length s → test (number_at k s p.at) ≡ 0 → P (got (number_at k s p.at) (moved k p)))
      → (length s < p.at + k → P (refused (record { code = 1; place = p })))
      → (p.at + k ≤ length s → test (number_at k s p.at) ≢ 0 → P (refused (record { code = test (number_at k s p.at); place = p })))
      → P (field k test s p)
  field_cases P passed short failed = by_cases (dec_le (p.at + k) (length s))
      (λ h. by_cases (ℕ_discrete (test (number_at k s p.at)) 0) (λ e. rw (field_passed h e) (passed h e)) (λ ne. rw (field_failed h ne) (failed h ne)))
      (λ nh. rw (field_short (omega arith)) (short (omega arith)))

  -- A field gives v exactly if it is wholly there, its number is v, and v passes the test.
  pub field_got : (v : ℕ) (q : Place) → (field k test s p ≡ got v q) ↔ (p.at + k ≤ length s) × (v ≡ number_at k s p.at) × (test v ≡ 0) × (q ≡ moved k p)
  field_got v q = (
    field_cases (λ x. x ≡ got v q → (p.at + k ≤ length s) × (v ≡ number_at k s p.at) × (test v ≡ 0) × (q ≡ moved k p))
        (λ h e x. (h, cc, cc, cc)) (λ h x. got_not_refused x refl) (λ h ne x. got_not_refused x refl),
    λ (h, n, e, m). field_passed h (ap test (sym n) ∙ e) ∙ ap₂ got (sym n) (sym m),
  )

-- The first place of a record that starts where the reading stands.
abbrev pub opening : Place → Place
opening p = record { file = p.file; number = p.number; start = p.at; at = p.at }

module _ {A : Type 0} (a : A) (s : List ℕ) (p : Place) where
  -- At the end of its file a reading ends …
  pub end_passed : p.at ≡ length s → end a s p ≡ got a p
  unfolding end
  end_passed h = cond_true (eqb p.at (length s)) _ _ (subst (λ n. T (eqb p.at n)) h (eqb_refl p.at))

  -- … and elsewhere it is refused by 8.
  pub end_failed : p.at ≢ length s → end a s p ≡ refused (record { code = 8; place = opening p })
  unfolding end
  end_failed ne = cond_false (eqb p.at (length s)) _ _ (not_T (eqb p.at (length s)) (λ t. ne (eqb→eq p.at (length s) t)))

  -- What holds in both cases holds.
  pub end_cases : (P : Result A → Type 0) → (p.at ≡ length s → P (got a p)) → (p.at ≢ length s → P (refused (record { code = 8; place = opening p })))
      → P (end a s p)
  end_cases P passed failed = by_cases (ℕ_discrete p.at (length s)) (λ h. rw (end_passed h) (passed h)) (λ ne. rw (end_failed ne) (failed ne))

  -- The end of a file gives what was read, exactly at the file's end.
  pub end_got : (b : A) (q : Place) → (end a s p ≡ got b q) ↔ (p.at ≡ length s) × (b ≡ a) × (q ≡ p)
  end_got b q = (
    end_cases (λ x. x ≡ got b q → (p.at ≡ length s) × (b ≡ a) × (q ≡ p)) (λ h x. (h, cc, cc)) (λ ne x. got_not_refused x refl),
    λ (h, e, f). end_passed h ∙ ap₂ got (sym e) (sym f),
  )

-- RECORDS

-- The place after a record that ends where the reading stands.
abbrev pub closed : Place → Place
closed q = record { file = q.file; number = q.number + 1; start = q.start; at = q.at }

-- WHERE A READING ENDS

-- A number read from the front of a file is that of the whole file.
number_at_take : (k : ℕ) (s : List ℕ) (at N : ℕ) → at + k ≤ N → number_at k (take N s) at ≡ number_at k s at
unfolding number_at
number_at_take zero s at N h = refl
number_at_take (suc k) s at N h = ap₂ (λ x y. x + 256 * y) (get_or-take N s at 0 (omega arith)) (number_at_take k s (at + 1) N (omega arith))

-- The place q is reached from p, over at most k bytes and c ends of records, in the same file and not beyond its end.
pub record Forward (k c : ℕ) (s : List ℕ) (p q : Place) : Type 0 where
  pub file : q.file ≡ p.file
  pub number : q.number ≤ p.number + c
  pub at : q.at ≤ p.at + k
  pub in_file : p.at ≤ length s → q.at ≤ length s
  pub start : p.start ≤ p.at → q.start ≤ q.at

-- A refusal by one of the codes 1 to 8, at a place reached from p.
pub record Refusing (k c : ℕ) (s : List ℕ) (p : Place) (r : Refusal) : Type 0 where
  pub code_least : 1 ≤ r.code
  pub code_most : r.code ≤ 8
  pub place : Forward k c s p r.place

forward_trans : {k c l d : ℕ} {s : List ℕ} {p q r : Place} → Forward k c s p q → Forward l d s q r → Forward (k + l) (c + d) s p r
forward_trans f g = record {
  file = g.file ∙ f.file;
  number = omega (arith, f.number, g.number);
  at = omega (arith, f.at, g.at);
  in_file = λ h. g.in_file (f.in_file h);
  start = λ h. g.start (f.start h);
}

forward_weaken : {k c l d : ℕ} {s : List ℕ} {p q : Place} → k ≤ l → c ≤ d → Forward k c s p q → Forward l d s p q
forward_weaken h e f = record {
  file = f.file;
  number = omega (arith, f.number);
  at = omega (arith, f.at);
  in_file = f.in_file;
  start = f.start;
}

forward_refl : (k c : ℕ) (s : List ℕ) (p : Place) → Forward k c s p p
forward_refl k c s p = record { file = refl; number = omega arith; at = omega arith; in_file = λ h. h; start = λ h. h }

refusing_weaken : {k c l d : ℕ} {s : List ℕ} {p : Place} {r : Refusal} → k ≤ l → c ≤ d → Refusing k c s p r → Refusing l d s p r
refusing_weaken h e z = record { code_least = z.code_least; code_most = z.code_most; place = forward_weaken h e z.place }

-- The reader m moves over at most k bytes and c ends of records, gives what is in Q, refuses by codes 1 to 8 at a place that it may move
-- to, and looks at no byte after those and the next one.
pub record Sound {A : Type 0} (k c : ℕ) (Q : A → Type 0) (m : Reader A) : Type 0 where
  pub gives : (s : List ℕ) (p : Place) {a : A} {q : Place} → m s p ≡ got a q → Q a × Forward k c s p q
  pub refuses : (s : List ℕ) (p : Place) {r : Refusal} → m s p ≡ refused r → Refusing k c s p r
  pub looks : (s : List ℕ) (p : Place) (N : ℕ) → p.at + k < N → m (take N s) p ≡ m s p

-- Larger bounds and a larger set will do.
pub sound_weaken : {A : Type 0} {k c l d : ℕ} {Q R : A → Type 0} {m : Reader A} → k ≤ l → c ≤ d → ((a : A) → Q a → R a) → Sound k c Q m → Sound l d R m
sound_weaken h e f m = record {
  gives = λ s p x. let (v, g) = m.gives s p x in (f _ v, forward_weaken h e g);
  refuses = λ s p x. refusing_weaken h e (m.refuses s p x);
  looks = λ s p N b. m.looks s p N (omega arith);
}

-- To give what is in Q is sound.
pub sound_give : {A : Type 0} {Q : A → Type 0} (a : A) → Q a → Sound 0 0 Q (give a)
sound_give {A} {Q} a v = record {
  gives = λ s p {a = a'} {q} x. let e : a ≡ a' = cc in let f : p ≡ q = cc in (subst Q e v, subst (Forward 0 0 s p) f (forward_refl 0 0 s p));
  refuses = λ s p x. got_not_refused refl x;
  looks = λ s p N b. refl;
}

-- What comes after a reading matters only at what it gave.
pub next_cong : {A B : Type 0} (x : Result A) (f g : A → Place → Result B) → ((a : A) (q : Place) → x ≡ got a q → f a q ≡ g a q) → next x f ≡ next x g
unfolding next
next_cong (refused r) f g h = refl
next_cong (got a q) f g h = h a q refl

-- A reader, and one that goes on with what it gave.
pub sound_next : {A B : Type 0} {k c l d : ℕ} {Q : A → Type 0} {R : B → Type 0} {m : Reader A} {f : A → Reader B} → Sound k c Q m
    → ((a : A) → Q a → Sound l d R (f a)) → Sound (k + l) (c + d) R (m >>= f)
sound_next {B} {k} {c} {l} {d} {m} {f} hm hf = record {
  gives = λ s p x.
      let (a, p', e, h) = next_got (m s p) (λ a q. f a s q) x in
      let (v, there) = hm.gives s p e in
      let (w, further) = (hf a v).gives s p' h in
      (w, forward_trans there further);
  refuses = λ s p {r} x. by_step s p r (next_refused (m s p) (λ a q. f a s q) x);
  looks = λ s p N b.
      ap (λ x. next x (λ a q. f a (take N s) q)) (hm.looks s p N (omega arith))
      ∙ next_cong (m s p) (λ a q. f a (take N s) q) (λ a q. f a s q)
      (λ a q e. let (v, there) = hm.gives s p e in (hf a v).looks s q N (omega (arith, there.at)));
}
  where
    by_step : (s : List ℕ) (p : Place) (r : Refusal) → (m s p ≡ refused r) ⊎ ((a : _) × (p' : Place) × (m s p ≡ got a p') × (f a s p' ≡ refused r))
        → Refusing (k + l) (c + d) s p r
    by_step s p r (inl e) = refusing_weaken (omega arith) (omega arith) (hm.refuses s p e)
    by_step s p r (inr (a, p', e, h)) =
        let (v, there) = hm.gives s p e in
        let z = (hf a v).refuses s p' h in
        record { code_least = z.code_least; code_most = z.code_most; place = forward_trans there z.place }

-- A field whose test's codes are at most 8.
pub sound_field : (k : ℕ) (test : ℕ → ℕ) → ((v : ℕ) → test v ≤ 8) → Sound k 0 (λ v. test v ≡ 0) (field k test)
sound_field k test codes = record {
  gives = λ s p {a = v} {q} x.
      let (h, n, e, there) = (field_got k test s p v q).0 x in
      (e, subst (Forward k 0 s p) (sym there) (record { file = refl; number = omega arith; at = omega arith; in_file = λ b. h; start = λ b. omega arith }));
  refuses = λ s p {r} x. field_cases k test s p (λ x. x ≡ refused r → Refusing k 0 s p r)
      (λ h e y. got_not_refused refl y)
      (λ h y. at_field s p 1 r (omega arith) (omega arith) y)
      (λ h ne y. at_field s p (test (number_at k s p.at)) r (omega arith) (codes _) y)
      x;
  looks = λ s p N b.
      let n : number_at k (take N s) p.at ≡ number_at k s p.at = number_at_take k s p.at N (omega arith) in
      field_cases k test s p (λ x. field k test (take N s) p ≡ x)
      (λ h e. field_passed k test (take N s) p (rw length-take (omega arith)) (ap test n ∙ e) ∙ ap (λ v. got v (moved k p)) n)
      (λ h. field_short k test (take N s) p (rw length-take (omega arith)))
      (λ h ne. field_failed k test (take N s) p (rw length-take (omega arith)) (λ e. ne (ap test (sym n) ∙ e))
      ∙ ap (λ v. refused (record { code = test v; place = p })) n);
}
  where
    at_field : (s : List ℕ) (p : Place) (code : ℕ) (r : Refusal) → 1 ≤ code → code ≤ 8
        → ◌≡◌ {A = Result ℕ} (refused (record { code = code; place = p })) (refused r) → Refusing k 0 s p r
    at_field s p code r least most y =
        let e : ◌≡◌ {A = Refusal} (record { code = code; place = p }) r = cc in
        subst (Refusing k 0 s p) e (record { code_least = least; code_most = most; place = forward_refl k 0 s p })

-- The end of a file.
pub sound_end : {A : Type 0} {Q : A → Type 0} (a : A) → Q a → Sound 0 0 Q (end a)
sound_end {A} {Q} a v = record {
  gives = λ s p {a = a'} {q} x. let (h, e, f) = (end_got a s p a' q).0 x in (subst Q (sym e) v, subst (Forward 0 0 s p) (sym f) (forward_refl 0 0 s p));
  refuses = λ s p {r} x. end_cases a s p (λ x. x ≡ refused r → Refusing 0 0 s p r)
      (λ h y. got_not_refused refl y)
      (λ ne y.
      let e : ◌≡◌ {A = Refusal} (record { code = 8; place = opening p }) r = cc in
      subst (Refusing 0 0 s p) e (record {
        code_least = omega arith;
        code_most = omega arith;
        place = record { file = refl; number = omega arith; at = omega arith; in_file = λ b. b; start = λ b. omega arith };
      }))
      x;
  looks = λ s p N b. end_cases a s p (λ x. end a (take N s) p ≡ x)
      (λ h. end_passed a (take N s) p (rw length-take (omega arith)))
      (λ ne. end_failed a (take N s) p (rw length-take (omega arith)));
}

-- A record.
pub sound_inside : {A : Type 0} {k c : ℕ} {Q : A → Type 0} {m : Reader A} → Sound k c Q m → Sound k (c + 1) Q (inside m)
sound_inside {A} {k} {c} {Q} {m} hm = record {
  gives = λ s p {a = b} {q} x.
      let (a, p', e, h) = next_got (m s (opening p)) (λ a q. got a (closed q)) x in
      let (v, there) = hm.gives s (opening p) e in
      let f : a ≡ b = cc in
      let g : closed p' ≡ q = cc in (
        subst Q f v,
        subst (Forward k (c + 1) s p) g
            (forward_weaken (omega arith) (omega arith) (forward_trans (forward_trans (opens s p) there) (closes s p'))),
      );
  refuses = λ s p {r} x. by_step s p r (next_refused (m s (opening p)) (λ a q. got a (closed q)) x);
  looks = λ s p N b. ap (λ x. next x (λ a q. got a (closed q))) (hm.looks s (opening p) N b);
}
  where
    opens : (s : List ℕ) (p : Place) → Forward 0 0 s p (opening p)
    opens s p = record { file = refl; number = omega arith; at = omega arith; in_file = λ h. h; start = λ h. omega arith }

    closes : (s : List ℕ) (p : Place) → Forward 0 1 s p (closed p)
    closes s p = record { file = refl; number = omega arith; at = omega arith; in_file = λ h. h; start = λ h. h }

    by_step : (s : List ℕ) (p : Place) (r : Refusal)
        → (m s (opening p) ≡ refused r) ⊎ ((a : A) × (q : Place) × (m s (opening p) ≡ got a q) × (◌≡◌ {A = Result A} (got a (closed q)) (refused r)))
        → Refusing k (c + 1) s p r
    by_step s p r (inl e) =
        let z = hm.refuses s (opening p) e in
        record {
          code_least = z.code_least;
          code_most = z.code_most;
          place = forward_weaken (omega arith) (omega arith) (forward_trans (opens s p) z.place);
        }
    by_step s p r (inr (a, q, e, h)) = got_not_refused refl h

-- A list of n members, of which the one with the number i is in Q i.
pub record Listed {A : Type 0} (n : ℕ) (d : A) (Q : ℕ → A → Type 0) (l : List A) : Type 0 where
  pub size : length l ≡ n
  pub member : (i : ℕ) → i < n → Q i (get_or l i d)

listed_nil : {A : Type 0} (d : A) (Q : ℕ → A → Type 0) → Listed 0 d Q []
listed_nil d Q = record { size = refl; member = λ i h. absurd (not-suc-le-zero h) }

listed_cons : {A : Type 0} (n : ℕ) (d : A) (Q : ℕ → A → Type 0) (a : A) (l : List A) → Q 0 a → Listed n d (λ i. Q (suc i)) l → Listed (suc n) d Q (a ∷ l)
listed_cons n d Q a l v h = record { size = ap suc h.size; member = member }
  where
    member : (i : ℕ) → i < suc n → Q i (get_or (a ∷ l) i d)
    member zero b = v
    member (suc i) b = h.member i (le_of_suc-le-suc b)

-- Readers one after the other.
pub sound_each : {A : Type 0} {k c : ℕ} (d : A) {Q : ℕ → A → Type 0} (n : ℕ) (f : ℕ → Reader A) → ((i : ℕ) → Sound k c (Q i) (f i))
    → Sound (n * k) (n * c) (Listed n d Q) (each n f)
unfolding each
sound_each d {Q} zero f h = sound_weaken (omega arith) (omega arith) (λ l v. v) (sound_give [] (listed_nil d Q))
sound_each d {Q} (suc n) f h =
    sound_weaken (omega arith) (omega arith) (λ l v. v)
    (sound_next (h 0) (λ a v. sound_next (sound_each d n (λ i. f (suc i)) (λ i. h (suc i)))
    (λ l w. sound_give {Q = Listed (suc n) d Q} (a ∷ l) (listed_cons n d Q a l v w))))

-- What the reader m gives, it gives at the file's end.
pub record Ends {A : Type 0} (m : Reader A) : Type 0 where
  pub at_end : (s : List ℕ) (p : Place) {a : A} {q : Place} → m s p ≡ got a q → q.at ≡ length s

-- The end of a file does, …
pub ends_end : {A : Type 0} (a : A) → Ends (end a)
ends_end a = record { at_end = λ s p {a = b} {q} x. let (h, e, f) = (end_got a s p b q).0 x in ap (λ (p : Place). p.at) f ∙ h }

-- … and so does what goes on to it.
pub ends_next : {A B : Type 0} (m : Reader A) {f : A → Reader B} → ((a : A) → Ends (f a)) → Ends (m >>= f)
ends_next m {f} hf = record { at_end = λ s p x. let (a, p', e, h) = next_got (m s p) (λ a q. f a s q) x in (hf a).at_end s p' h }
