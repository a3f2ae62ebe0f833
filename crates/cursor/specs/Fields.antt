-- One field of the rules, case by case: when it is refused, and where the reading then stands.
--   test_refused, test_passed, test_failed   a field of any number, and then its test
--   complement_low, complement_mid, complement_high      two's complement by ranges
--   coefficient_refused, coefficient_passed, coefficient_zero      a coefficient that is not below p, one that passes, and a last one that is 0
--   residue_field            a coefficient that is no entry's
use Rattle.std.specs.Prelude.{◌≡◌, refl, ◌≢◌, Bool, true, false, cond, not, List, ℕ, suc, ◌+◌, ◌-◌, ◌≤◌, ◌<◌, ltb, eqb, pos, negsuc, ◌-ℤ◌}
use Rattle.std.proofs.Common.{sym, ap, ◌∙◌, add-one, arith, lt-ltb, le-ltb, eq-eqb, ne_eqb, eqb-true}
use Rattle.std.proofs.Math.Path.{fun_ext}
use Rattle.std.proofs.Math.Dec.{eqb-suc-zero}
use Rattle.rules.specs.Reader.{Place, Refusal, refused, got, field, unless}
use Rattle.laws.specs.ReaderLaws.{got_not_refused, field_short, field_failed, field_got, field_cases}
use Rattle.rules.specs.Files.{two's_complement, coefficient_test, residue}

-- A field that is read by one test, and then a second test of its number, which refuses what the first refuses, and by the same code.
module _ (k : ℕ) (first second : ℕ → ℕ) (s : List ℕ) (p : Place) where
  then_refused : {x : Refusal} → ((v : ℕ) → first v ≢ 0 → second v ≡ first v) → field k first s p ≡ refused x → field k second s p ≡ refused x
  then_refused {x} same =
      field_cases k first s p (λ r. r ≡ refused x → field k second s p ≡ refused x) (λ h e z. got_not_refused (sym z) refl)
      (λ h z. field_short k second s p h ∙ z)
      (λ h ne z.
      field_failed k second s p h (λ e. ne (sym (same _ ne) ∙ e)) ∙ ap (λ (n : ℕ). refused (record { code = n; place = p })) (same _ ne) ∙ z)

  then_passed : {v : ℕ} {q : Place} → field k first s p ≡ got v q → second v ≡ 0 → field k second s p ≡ got v q
  then_passed {v} {q} e t = let there = (field_got k first s p v q).0 e in (field_got k second s p v q).1 (there.0, there.1, t, there.3)

  then_failed : {v : ℕ} {q : Place} → field k first s p ≡ got v q → second v ≢ 0 → field k second s p ≡ refused (record { code = second v; place = p })
  then_failed {v} {q} e ne =
      let there = (field_got k first s p v q).0 e in
      field_failed k second s p there.0 (λ z. ne (ap second there.1 ∙ z)) ∙ ap (λ (n : ℕ). refused (record { code = second n; place = p })) (sym there.1)

-- A field of any number, and then a test of the number.
module _ (k c : ℕ) (holds : ℕ → Bool) (s : List ℕ) (p : Place) where
  pub test_refused : {x : Refusal} → field k (λ v. 0) s p ≡ refused x → field k (unless c holds) s p ≡ refused x
  test_refused = then_refused k (λ v. 0) (unless c holds) s p (λ v ne. absurd (ne refl))

  module _ {v : ℕ} {q : Place} (e : field k (λ v. 0) s p ≡ got v q) where
    pub test_passed : true ≡ holds v → field k (unless c holds) s p ≡ got v q
    test_passed h = then_passed k (λ v. 0) (unless c holds) s p e (ap (λ (b : Bool). cond {A = ℕ} b 0 c) (sym h))

    pub test_failed : 1 ≤ c → false ≡ holds v → field k (unless c holds) s p ≡ refused (record { code = c; place = p })
    test_failed least h =
        let fails : unless c holds v ≡ c = ap (λ (b : Bool). cond {A = ℕ} b 0 c) (sym h) in
        then_failed k (λ v. 0) (unless c holds) s p e (λ z. omega (arith, z, fails))
        ∙ ap (λ (n : ℕ). refused (record { code = n; place = p })) fails

-- A number below 65,536, less that.
pub less_65536 : (v : ℕ) → v < 65_536 → pos v -ℤ pos 65_536 ≡ negsuc (65_536 - suc v)
less_65536 v h = ap (λ (b : Bool). cond b (negsuc (65_536 - suc v)) (pos (v - 65_536))) (lt-ltb v 65_536 h)

-- From 32,768 on it is the number less 65,536.
complement_from : (v : ℕ) → 32_768 ≤ v → two's_complement v ≡ cond (ltb v 65_536) (negsuc (65_536 - suc v)) (pos (v - 65_536))
unfolding two's_complement
complement_from v h = rw (le-ltb v 32_768 h) refl

pub complement_low : (v : ℕ) → v < 32_768 → two's_complement v ≡ pos v
unfolding two's_complement
complement_low v h = rw (lt-ltb v 32_768 h) refl

pub complement_mid : (v : ℕ) → 32_768 ≤ v → v < 65_536 → two's_complement v ≡ negsuc (65_536 - suc v)
complement_mid v h l = complement_from v h ∙ less_65536 v l

pub complement_high : (v : ℕ) → 65_536 ≤ v → two's_complement v ≡ pos (v - 65_536)
complement_high v h =
    complement_from v (omega arith) ∙ ap (λ (b : Bool). cond b (negsuc (65_536 - suc v)) (pos (v - 65_536))) (le-ltb v 65_536 h)

-- The test of a coefficient, by whether it is below p and whether it is the last one.
abbrev by_tests : Bool → Bool → ℕ → ℕ
by_tests below last v = elim below [ true ↦ elim last [ true ↦ unless 7 (λ w. not (eqb w 0)) v | false ↦ 0 ] | false ↦ 6 ]

coefficient_by : (p L k v : ℕ) → coefficient_test p L k v ≡ by_tests (ltb v p) (eqb (k + 1) L) v
unfolding coefficient_test
coefficient_by p L k v = ap (λ (j : ℕ). by_tests (ltb v p) (eqb j L) v) (sym (add-one k))

by_fails : (below last : Bool) (v : ℕ) → cond {A = ℕ} below 0 6 ≢ 0 → by_tests below last v ≡ cond below 0 6
by_fails true last v ne = absurd (ne refl)
by_fails false last v ne = refl

by_passes : (below last : Bool) (v : ℕ) → cond {A = ℕ} below 0 6 ≡ 0 → (last ≡ true → v ≢ 0) → by_tests below last v ≡ 0
by_passes true true v e ne = ap (λ (b : Bool). cond {A = ℕ} (not b) 0 7) (ne_eqb v 0 (ne refl))
by_passes true false v e ne = refl
by_passes false last v e ne = absurd (omega arith)

by_zero : (below : Bool) (v : ℕ) → cond {A = ℕ} below 0 6 ≡ 0 → v ≡ 0 → by_tests below true v ≡ 7
by_zero true v e z = ap (λ (n : ℕ). cond {A = ℕ} (not (eqb n 0)) 0 7) z
by_zero false v e z = absurd (omega arith)

-- A coefficient below p, and then whether it is an entry's last one and 0.
module _ (p L k : ℕ) (s : List ℕ) (q : Place) where
  pub coefficient_refused : {x : Refusal} → field 4 (residue p) s q ≡ refused x → field 4 (coefficient_test p L k) s q ≡ refused x
  coefficient_refused =
      then_refused 4 (residue p) (coefficient_test p L k) s q (λ v ne. coefficient_by p L k v ∙ by_fails (ltb v p) (eqb (k + 1) L) v ne)

  module _ {v : ℕ} {r : Place} (e : field 4 (residue p) s q ≡ got v r) where
    below : cond {A = ℕ} (ltb v p) 0 6 ≡ 0
    below = ((field_got 4 (residue p) s q v r).0 e).2

    pub coefficient_passed : (k + 1 ≡ L → v ≢ 0) → field 4 (coefficient_test p L k) s q ≡ got v r
    coefficient_passed ne =
        then_passed 4 (residue p) (coefficient_test p L k) s q e
        (coefficient_by p L k v ∙ by_passes (ltb v p) (eqb (k + 1) L) v below (λ l. ne (eqb-true (k + 1) L l)))

    pub coefficient_zero : k + 1 ≡ L → v ≡ 0 → field 4 (coefficient_test p L k) s q ≡ refused (record { code = 7; place = q })
    coefficient_zero l z =
        let code : coefficient_test p L k v ≡ 7 =
        coefficient_by p L k v ∙ ap (λ (b : Bool). by_tests (ltb v p) b v) (eq-eqb (k + 1) L l) ∙ by_zero (ltb v p) v below z in
        then_failed 4 (residue p) (coefficient_test p L k) s q e (λ n. omega (arith, n, code))
        ∙ ap (λ (n : ℕ). refused (record { code = n; place = q })) code

-- A coefficient of which nothing is the last one.
pub residue_field : (p k : ℕ) → field 4 (coefficient_test p 0 k) ≡ field 4 (residue p)
unfolding coefficient_test
residue_field p k =
    ap (λ (t : ℕ → ℕ). field 4 t) (fun_ext (λ v. ap (λ (b : Bool). by_tests (ltb v p) b v) (eqb-suc-zero k) ∙ not_last (ltb v p) v))
  where
    not_last : (below : Bool) (v : ℕ) → by_tests below false v ≡ cond below 0 6
    not_last true v = refl
    not_last false v = refl
