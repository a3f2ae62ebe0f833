-- What holds of a field of any number and its test's code. No proof cites it now; it stands because it was stated.
--   one_to_low, one_to_high          a size test after its first half
--   any_refused, any_passed, any_failed      a test after a field of any number
--   tested_of, tested_field  what the code makes of a number and its test's code
--   coefficient_last, coefficient_other      the test of a coefficient, of the last one and of another
use Rattle.std.specs.Prelude.{Ok, Err, ◌≡◌, refl, ◌≢◌, Bool, true, false, cond, not, List, ℕ, suc, ◌+◌, ◌≤◌, ◌<◌, leb, ltb, eqb}
use Rattle.std.proofs.Common.{sym, ap, ◌∙◌, add-one, le-leb, eq-eqb, ne_eqb, eqb-true}
use Rattle.std.proofs.lemmas.Bool.{lt-leb, eqb-false}
use Rattle.rules.specs.Reader.{Place, Refusal, refused, got, field, unless}
use Rattle.place.specs.declared.Place.{Place as Spot}
use Rattle.place.specs.Places.{place, taken, Field}
use Rattle.rules.specs.Files.{one_to, coefficient_test}
use Rattle.laws.specs.ReaderLaws.{got_not_refused, field_short, field_failed, field_got, field_cases}

-- A size test after its first half.
pub one_to_low : (most v : ℕ) → v < 1 → one_to most v ≡ false
one_to_low most v h = ap (λ (b : Bool). elim b [ true ↦ leb v most | false ↦ false ]) (lt-leb 1 v h)

pub one_to_high : (most v : ℕ) → 1 ≤ v → one_to most v ≡ leb v most
one_to_high most v h = ap (λ (b : Bool). elim b [ true ↦ leb v most | false ↦ false ]) (le-leb 1 v h)

-- A field that may have any number, and then a test of the number: what is refused stays so, and else the test decides.
module _ (k : ℕ) (test : ℕ → ℕ) (s : List ℕ) (p : Place) where
  pub any_refused : {x : Refusal} → field k (λ v. 0) s p ≡ refused x → field k test s p ≡ refused x
  any_refused {x} =
      field_cases k (λ v. 0) s p (λ r. r ≡ refused x → field k test s p ≡ refused x) (λ h e z. absurd (got_not_refused (sym z) refl)) (λ h z. field_short k test s p h ∙ z)
      (λ h ne. absurd (ne refl))

  pub any_passed : (v : ℕ) (q : Place) → field k (λ v. 0) s p ≡ got v q → test v ≡ 0 → field k test s p ≡ got v q
  any_passed v q e t = let there = (field_got k (λ v. 0) s p v q).0 e in (field_got k test s p v q).1 (there.0, there.1, t, there.3)

  pub any_failed : (v : ℕ) (q : Place) → field k (λ v. 0) s p ≡ got v q → test v ≢ 0 → field k test s p ≡ refused (record { code = test v; place = p })
  any_failed v q e ne =
      let there = (field_got k (λ v. 0) s p v q).0 e in
      field_failed k test s p there.0 (λ z. ne (ap test there.1 ∙ z)) ∙ ap (λ (n : ℕ). refused (record { code = test n; place = p })) (sym there.1)

-- The test of a coefficient, by whether it is the last one.
by_last : ℕ → Bool → ℕ → ℕ
by_last p b v = elim (ltb v p) [ true ↦ elim b [ true ↦ unless 7 (λ w. not (eqb w 0)) v | false ↦ 0 ] | false ↦ 6 ]

in_range : (b : Bool) → cond {A = ℕ} b 0 6 ≡ elim b as (λ x. ℕ) [ true ↦ 0 | false ↦ 6 ]
in_range true = refl
in_range false = refl

-- A coefficient by its two tests, if it is the last one, or by the first alone.
last_code : (p v : ℕ) → cond {A = ℕ} (eqb (cond (ltb v p) 0 6) 0) (cond (not (eqb v 0)) 0 7) (cond (ltb v p) 0 6) ≡ by_last p true v
unfolding by_last
last_code p v = go (ltb v p)
  where
    go : (b : Bool)
        → cond {A = ℕ} (eqb (cond b 0 6) 0) (cond (not (eqb v 0)) 0 7) (cond b 0 6)
        ≡ elim b as (λ x. ℕ) [ true ↦ unless 7 (λ w. not (eqb w 0)) v | false ↦ 6 ]
    go true = refl
    go false = refl

coefficient_by : (p L k v : ℕ) (b : Bool) → eqb (k + 1) L ≡ b → coefficient_test p L k v ≡ by_last p b v
unfolding by_last coefficient_test
coefficient_by p L k v b e = ap (λ (j : ℕ). by_last p (eqb j L) v) (sym (add-one k)) ∙ ap (λ (c : Bool). by_last p c v) e

pub coefficient_last : (p L k v : ℕ) → k + 1 ≡ L
    → cond {A = ℕ} (eqb (cond (ltb v p) 0 6) 0) (cond (not (eqb v 0)) 0 7) (cond (ltb v p) 0 6) ≡ coefficient_test p L k v
coefficient_last p L k v e = last_code p v ∙ sym (coefficient_by p L k v true (eq-eqb (k + 1) L e))

pub coefficient_other : (p L k v : ℕ) → (k + 1 ≡ L → ⊥) → cond {A = ℕ} (ltb v p) 0 6 ≡ coefficient_test p L k v
unfolding by_last
coefficient_other p L k v ne = in_range (ltb v p) ∙ sym (coefficient_by p L k v false (ne_eqb (k + 1) L ne))

-- What the code makes of a number and its test's code.
abbrev pub tested_of : Spot → ℕ → Spot → ℕ → Field
tested_of q v next code = cond (eqb code 0) (Ok (v, next)) (Err (record { code = code; place = q }))

-- What the code makes of a field's number and its test's code is the rules' field.
pub tested_field : (k : ℕ) (test : ℕ → ℕ) (s : List ℕ) (q : Spot) (v : ℕ) (next : Spot) (code : ℕ)
    → field k (λ v. 0) s (place q) ≡ got v (place next) → code ≡ test v → taken (tested_of q v next code) ≡ field k test s (place q)
tested_field k test s q v next code read same = go (eqb code 0) refl
  where
    go : (b : Bool) → eqb code 0 ≡ b → taken (cond b (Ok (v, next)) (Err (record { code = code; place = q }))) ≡ field k test s (place q)
    go true e = sym (any_passed k test s (place q) v (place next) read (sym same ∙ eqb-true code 0 e))
    go false e =
        ap (λ (n : ℕ). refused (record { code = n; place = place q })) same
        ∙ sym (any_failed k test s (place q) v (place next) read (λ z. eqb-false code 0 e (same ∙ z)))
