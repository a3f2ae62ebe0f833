-- What the searches of `Conditions` say: some number below n passes a test, the first that does, the first place that has a fault.
--   is_zero_iff                                  a number of K is 0
--   some_below_iff                               some number below n passes
--   first_below_none, first_below_some           the first that passes, if any does
--   some_below_cong, first_below_cong            only the tests of numbers in range count
--   FirstPlace                                   the first row that has a fault, and in it the first column
--   first_place_none, first_place_some           which place is found, if any is
use Rattle.std.specs.Prelude.{◌≡◌, refl, ◌⊎◌, ◌↔◌, Bool, true, false, ℕ, zero, suc, ◌<◌}
use Rattle.std.proofs.Common.{sym, ap, ap₂, subst, ◌∙◌, inl, inr, suc-le-suc, le_of_suc-le-suc, not-suc-le-zero, zero-lt-suc, arith}
use Rattle.std.proofs.lemmas.Bool.{false≢true}
use Rattle.std.specs.Prelude.{Option, None, Some}
use Rattle.laws.specs.Options.{some_none}
use Rattle.std.proofs.lemmas.Option.{same_Some, none-some}
use Rattle.std.proofs.Math.Nat.{zero-mod}
use Rattle.std.proofs.Math.Decide.{dec_lt}
use Rattle.algebra.specs.Residue.{K, Residue, red, residue_ext}
use Rattle.laws.specs.BoolLaws.{false_iff, eqb_iff}
use Rattle.rules.specs.Conditions.{is_zero, some_below, first_below, first_place}

-- The test whether a number of K is 0.
pub is_zero_iff : (p : ℕ) (x : Residue p) → (is_zero p x ≡ true) ↔ (x ≡ (K p).𝟘)
unfolding red
is_zero_iff p x = (
  λ e. residue_ext p ((eqb_iff x.0 0).0 e ∙ sym (zero-mod (suc _))),
  λ e. (eqb_iff x.0 0).1 (ap (λ y. y.0) e ∙ zero-mod (suc _)),
)

-- SOME NUMBER

either_iff : (b c : Bool) → (elim b as (λ x. Bool) [ true ↦ true | false ↦ c ] ≡ true) ↔ ((b ≡ true) ⊎ (c ≡ true))
either_iff true c = (λ e. inl refl, λ e. refl)
either_iff false c = (inr, elim [ inl e ↦ absurd (false≢true e) | inr e ↦ e ])

some_below_pass : (n : ℕ) (test : ℕ → Bool) → some_below n test ≡ true → (i : ℕ) × (i < n) × (test i ≡ true)
unfolding some_below
some_below_pass zero test e = absurd (false≢true e)
some_below_pass (suc n) test e = elim ((either_iff (test zero) (some_below n (λ i. test (suc i)))).0 e) [
  | inl h ↦ (zero, zero-lt-suc n, h)
  | inr h ↦ let (i, b, p) = some_below_pass n (λ i. test (suc i)) h in (suc i, suc-le-suc b, p)
]

some_below_at : (n : ℕ) (test : ℕ → Bool) (i : ℕ) → i < n → test i ≡ true → some_below n test ≡ true
unfolding some_below
some_below_at zero test i b p = absurd (not-suc-le-zero b)
some_below_at (suc n) test zero b p = (either_iff (test zero) (some_below n (λ i. test (suc i)))).1 (inl p)
some_below_at (suc n) test (suc i) b p =
    (either_iff (test zero) (some_below n (λ i. test (suc i)))).1 (inr (some_below_at n (λ i. test (suc i)) i (le_of_suc-le-suc b) p))

-- Some number below n passes the test …
pub some_below_iff : (n : ℕ) (test : ℕ → Bool) → (some_below n test ≡ true) ↔ ((i : ℕ) × (i < n) × (test i ≡ true))
some_below_iff n test = (some_below_pass n test, λ (i, b, p). some_below_at n test i b p)

-- … or none does.
pub some_below_false_iff : (n : ℕ) (test : ℕ → Bool) → (some_below n test ≡ false) ↔ ((i : ℕ) → i < n → test i ≡ false)
some_below_false_iff n test = (
  λ e i b. (false_iff (test i)).1 (λ p. (false_iff (some_below n test)).0 e (some_below_at n test i b p)),
  λ fails. (false_iff (some_below n test)).1 (λ e. let (i, b, p) = some_below_pass n test e in (false_iff (test i)).0 (fails i b) p),
)

-- Only the tests of numbers in range count.
pub some_below_cong : (n : ℕ) (s t : ℕ → Bool) → ((i : ℕ) → i < n → s i ≡ t i) → some_below n s ≡ some_below n t
unfolding some_below
some_below_cong zero s t h = refl
some_below_cong (suc n) s t h =
    ap₂ (λ x y. elim x as (λ _. Bool) [ true ↦ true | false ↦ y ]) (h zero (zero-lt-suc n))
    (some_below_cong n (λ i. s (suc i)) (λ i. t (suc i)) (λ i b. h (suc i) (suc-le-suc b)))

-- THE FIRST NUMBER

-- i is the first number below n that passes the test.
abbrev pub First : (n : ℕ) → (ℕ → Bool) → ℕ → Type 0
First n test i = (i < n) × (test i ≡ true) × ((k : ℕ) → k < i → test k ≡ false)

-- The step of the search: the first number, or the first of the others.
abbrev step : Bool → Option ℕ → Option ℕ
step b o = elim b [ true ↦ Some zero | false ↦ elim o [ None ↦ None | Some i ↦ Some (suc i) ] ]

-- o is none and no number passes, or o is the first that does.
abbrev Found : (n : ℕ) → (ℕ → Bool) → Option ℕ → Type 0
Found n test o = ((o ≡ None) × ((i : ℕ) → i < n → test i ≡ false)) ⊎ ((i : ℕ) × (o ≡ Some i) × First n test i)

-- The search finds the first number that passes, or none passes.
first_below_cases : (n : ℕ) (test : ℕ → Bool) → Found n test (first_below n test)
unfolding first_below
first_below_cases zero test = inl (refl, λ i b. absurd (not-suc-le-zero b))
first_below_cases (suc n) test = go (test zero) refl (first_below_cases n (λ i. test (suc i)))
  where
    later : test zero ≡ false → ((i : ℕ) → i < n → test (suc i) ≡ false) → (i : ℕ) → i < suc n → test i ≡ false
    later e fails zero b = e
    later e fails (suc i) b = fails i (le_of_suc-le-suc b)

    before : test zero ≡ false → (i : ℕ) → ((k : ℕ) → k < i → test (suc k) ≡ false) → (k : ℕ) → k < suc i → test k ≡ false
    before e i fails zero b = e
    before e i fails (suc k) b = fails k (le_of_suc-le-suc b)

    go : (b : Bool) → test zero ≡ b
        → Found n (λ i. test (suc i)) (first_below n (λ i. test (suc i)))
        → Found (suc n) test (first_below (suc n) test)
    go true e r = inr (zero, ap (λ b. step b (first_below n (λ i. test (suc i)))) e, (zero-lt-suc n, e, λ k b. absurd (not-suc-le-zero b)))
    go false e (inl (q, fails)) = inl (ap (λ b. step b (first_below n (λ i. test (suc i)))) e ∙ ap (step false) q, later e fails)
    go false e (inr (i, q, (b, p, f))) =
        inr (suc i, ap (λ b. step b (first_below n (λ i. test (suc i)))) e ∙ ap (step false) q, (suc-le-suc b, p, before e i f))

-- The first number that passes is one alone.
first_unique : (n : ℕ) (test : ℕ → Bool) (i k : ℕ) → First n test i → First n test k → i ≡ k
first_unique n test i k (hi, pi, fi) (hk, pk, fk) = elim (dec_lt i k) [
  | yes l ↦ absurd ((false_iff (test i)).0 (fk i l) pi)
  | no nl ↦ elim (dec_lt k i) [ yes l ↦ absurd ((false_iff (test k)).0 (fi k l) pk) | no nk ↦ omega arith ]
]

-- No number is found exactly if none passes …
pub first_below_none : (n : ℕ) (test : ℕ → Bool) → (first_below n test ≡ None) ↔ ((i : ℕ) → i < n → test i ≡ false)
first_below_none n test = elim (first_below_cases n test) [
  | inl h ↦ (λ e. h.1, λ f. h.0)
  | inr h ↦ (λ e. absurd (some_none h.0 (sym h.1 ∙ e)), λ f. absurd ((false_iff (test h.0)).0 (f h.0 h.2.0) h.2.1))
]

-- … and i is found exactly if it is the first that does.
pub first_below_some : (n : ℕ) (test : ℕ → Bool) (i : ℕ) → (first_below n test ≡ Some i) ↔ First n test i
first_below_some n test i = elim (first_below_cases n test) [
  | inl h ↦ (λ e. absurd (none-some i (sym h.0 ∙ e)), λ f. absurd ((false_iff (test i)).0 (h.1 i f.0) f.1))
  | inr h ↦ (
    λ e. subst (First n test) (same_Some h.0 i (sym h.1 ∙ e)) h.2,
    λ f. h.1 ∙ ap Some (first_unique n test h.0 i h.2 f),
  )
]

-- Only the tests of numbers in range count.
pub first_below_cong : (n : ℕ) (s t : ℕ → Bool) → ((i : ℕ) → i < n → s i ≡ t i) → first_below n s ≡ first_below n t
unfolding first_below
first_below_cong zero s t h = refl
first_below_cong (suc n) s t h =
    ap₂ step (h zero (zero-lt-suc n)) (first_below_cong n (λ i. s (suc i)) (λ i. t (suc i)) (λ i b. h (suc i) (suc-le-suc b)))

-- THE FIRST PLACE

-- "the first row that has a fault and in it the first column"
pub record FirstPlace (m n : ℕ) (fault : ℕ → ℕ → Bool) (i j : ℕ) : Type 0 where
  pub row : i < m
  pub column : j < n
  pub faulty : fault i j ≡ true
  pub rows_before : (a b : ℕ) → a < i → b < n → fault a b ≡ false
  pub columns_before : (b : ℕ) → b < j → fault i b ≡ false

-- The place found in a row, if one is.
abbrev in_row : ℕ → Option ℕ → Option (ℕ × ℕ)
in_row i o = elim o [ None ↦ None | Some j ↦ Some (i, j) ]

abbrev in_rows : (n : ℕ) → (ℕ → ℕ → Bool) → Option ℕ → Option (ℕ × ℕ)
in_rows n fault o = elim o [ None ↦ None | Some i ↦ in_row i (first_below n (fault i)) ]

-- The search finds the first place, or there is no fault.
first_place_cases : (m n : ℕ) (fault : ℕ → ℕ → Bool)
    → ((first_place m n fault ≡ None) × ((i j : ℕ) → i < m → j < n → fault i j ≡ false))
    ⊎ ((i : ℕ) × (j : ℕ) × (first_place m n fault ≡ Some (i, j)) × FirstPlace m n fault i j)
unfolding first_place
first_place_cases m n fault = elim (first_below_cases m (λ i. some_below n (fault i))) [
  | inl (e, fails) ↦ inl (ap (in_rows n fault) e, λ i j hi hj. (some_below_false_iff n (fault i)).0 (fails i hi) j hj)
  | inr (i, e, (hi, p, fails)) ↦ elim (first_below_cases n (fault i)) [
    | inl (q, clear) ↦ absurd ((false_iff (some_below n (fault i))).0 ((some_below_false_iff n (fault i)).1 clear) p)
    | inr (j, q, (hj, f, clear)) ↦ inr (
      i,
      j,
      ap (in_rows n fault) e ∙ ap (in_row i) q,
      record { row = hi; column = hj; faulty = f; rows_before = λ a b ha hb. (some_below_false_iff n (fault a)).0 (fails a ha) b hb; columns_before = clear },
    )
  ]
]

-- No place is found exactly if there is no fault …
pub first_place_none : (m n : ℕ) (fault : ℕ → ℕ → Bool) → (first_place m n fault ≡ None) ↔ ((i j : ℕ) → i < m → j < n → fault i j ≡ false)
first_place_none m n fault = elim (first_place_cases m n fault) [
  | inl h ↦ (λ e. h.1, λ f. h.0)
  | inr h ↦ (
    λ e. absurd (some_none (h.0, h.1) (sym h.2 ∙ e)),
    λ f. absurd ((false_iff (fault h.0 h.1)).0 (f h.0 h.1 h.3.row h.3.column) h.3.faulty),
  )
]

first_place_unique : (m n : ℕ) (fault : ℕ → ℕ → Bool) (i j a b : ℕ) → FirstPlace m n fault i j → FirstPlace m n fault a b → ◌≡◌ {A = ℕ × ℕ} (i, j) (a, b)
first_place_unique m n fault i j a b f g = ap₂ (λ x y. (x, y)) rows columns
  where
    rows : i ≡ a
    rows = elim (dec_lt i a) [
      | yes l ↦ absurd ((false_iff (fault i j)).0 (g.rows_before i j l f.column) f.faulty)
      | no nl ↦ elim (dec_lt a i) [ yes l ↦ absurd ((false_iff (fault a b)).0 (f.rows_before a b l g.column) g.faulty) | no nk ↦ omega arith ]
    ]

    columns : j ≡ b
    columns =
        first_unique n (fault i) j b (f.column, f.faulty, f.columns_before)
        (subst (λ x. First n (fault x) b) (sym rows) (g.column, g.faulty, g.columns_before))

-- … and a place is found exactly if it is the first.
pub first_place_some : (m n : ℕ) (fault : ℕ → ℕ → Bool) (i j : ℕ) → (first_place m n fault ≡ Some (i, j)) ↔ FirstPlace m n fault i j
first_place_some m n fault i j = elim (first_place_cases m n fault) [
  | inl h ↦ (λ e. absurd (none-some (i, j) (sym h.0 ∙ e)), λ f. absurd ((false_iff (fault i j)).0 (h.1 i j f.row f.column) f.faulty))
  | inr h ↦ (
    λ e. subst (λ q. FirstPlace m n fault q.0 q.1) (same_Some (h.0, h.1) (i, j) (sym h.2 ∙ e)) h.3,
    λ f. h.2 ∙ ap Some (first_place_unique m n fault h.0 h.1 i j h.3 f),
  )
]
