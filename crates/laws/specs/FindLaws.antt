-- The search for "that one combination": constants are found that pass the test, if there are any.
--   find_constants_found, find_constants_none  what is found passes, and where nothing is, nothing passes
--   find_constants_past      what is found is 0 from the number of rows on
--   unless_iff, unless_both  tests of what is not left out
--   IsCombination, depends_iff, depends_local  the test of a combination
use Rattle.std.proofs.Math.Path.{◌≡◌, refl, sym, subst}
use Rattle.std.proofs.Common.{ap, ◌∙◌, true≢false, le_of_suc-le-suc, not-suc-le-zero}
use Rattle.std.specs.Prelude.{◌↔◌, Bool, cond, not}
use Rattle.std.proofs.Math.Bool.{true, false, false≢true}
use Rattle.std.specs.Prelude.{Option, None, Some}
use Rattle.laws.specs.Options.{some_none}
use Rattle.std.proofs.lemmas.Option.{same_Some, none-some}
use Prim.Native.Nat.{ℕ, zero, suc, ◌≤◌, ◌<◌, suc-le-suc}
use Rattle.std.proofs.Math.Nat.{zero-lt-suc}
use Rattle.algebra.specs.Residue.{K, Residue, red, red_onto, residue_below}
use Rattle.algebra.specs.Matrix.{Row, Matrix, SameRow, cons, cons_eta, vmul, vmul_cong}
use Rattle.rules.specs.Conditions.{is_zero, some_below}
use Rattle.rules.specs.Maker.{first_some, find_constants, depends}
use Rattle.laws.specs.BoolLaws.{false_iff, not_iff, not_false_iff}
use Rattle.laws.specs.SearchLaws.{is_zero_iff, some_below_false_iff}

module _ {A : Type 0} where
  -- What is found is one of them, …
  first_some_found : (n : ℕ) (f : ℕ → Option A) (a : A) → first_some n f ≡ Some a → (i : ℕ) × (i < n) × (f i ≡ Some a)
  unfolding first_some
  first_some_found zero f a e = absurd (none-some a e)
  first_some_found (suc n) f a e = by (f zero) refl (first_some_found n (λ i. f (suc i)) a) e
    where
      by : (o : Option A) → f zero ≡ o → (first_some n (λ i. f (suc i)) ≡ Some a → (i : ℕ) × (i < n) × (f (suc i) ≡ Some a))
          → elim o as (λ x. Option A) [ Some a ↦ Some a | None ↦ first_some n (λ i. f (suc i)) ] ≡ Some a → (i : ℕ) × (i < suc n) × (f i ≡ Some a)
      by None h later e = let (i, b, g) = later e in (suc i, suc-le-suc b, g)
      by (Some b) h later e = (zero, zero-lt-suc n, h ∙ e)

  -- … and where nothing is, all are none.
  first_some_none : (n : ℕ) (f : ℕ → Option A) → first_some n f ≡ None → (i : ℕ) → i < n → f i ≡ None
  unfolding first_some
  first_some_none zero f e i h = absurd (not-suc-le-zero h)
  first_some_none (suc n) f e i h = by (f zero) refl (first_some_none n (λ i. f (suc i))) e i h
    where
      by : (o : Option A) → f zero ≡ o → (first_some n (λ i. f (suc i)) ≡ None → (i : ℕ) → i < n → f (suc i) ≡ None)
          → ◌≡◌ {A = Option A} (elim o as (λ x. Option A) [ Some a ↦ Some a | None ↦ first_some n (λ i. f (suc i)) ]) None → (i : ℕ) → i < suc n → f i ≡ None
      by None z later e zero h = z
      by None z later e (suc i) h = later e i (le_of_suc-le-suc h)
      by (Some b) z later e i h = absurd (some_none b e)

module _ (p : ℕ) where
  -- The constants found pass the test, …
  pub find_constants_found : (m : ℕ) (test : Row (K p) → Bool) (u : Row (K p)) → find_constants p m test ≡ Some u → test u ≡ true
  unfolding find_constants
  find_constants_found zero test u e = by (test (λ i. red p 0)) refl e
    where
      by : (t : Bool) → test (λ i. red p 0) ≡ t → elim t as (λ x. Option (Row (K p))) [ true ↦ Some (λ i. red p 0) | false ↦ None ] ≡ Some u → test u ≡ true
      by true h e = subst (λ v. test v ≡ true) (same_Some (λ i. red p 0) u e) h
      by false h e = absurd (none-some u e)
  find_constants_found (suc m) test u e =
      let (x, h, f) = first_some_found p _ u e in
      by x (find_constants p m (λ u. test (cons (red p x) u))) refl (find_constants_found m (λ u. test (cons (red p x) u))) f
    where
      by : (x : ℕ) (o : Option (Row (K p))) → find_constants p m (λ u. test (cons (red p x) u)) ≡ o
          → ((v : Row (K p)) → find_constants p m (λ u. test (cons (red p x) u)) ≡ Some v → test (cons (red p x) v) ≡ true)
          → elim o as (λ y. Option (Row (K p))) [ None ↦ None | Some u ↦ Some (cons (red p x) u) ] ≡ Some u → test u ≡ true
      by x None h found e = absurd (none-some u e)
      by x (Some v) h found e = subst (λ w. test w ≡ true) (same_Some (cons (red p x) v) u e) (found v h)

  same_cons : (m : ℕ) (x : Residue p) (v w : Row (K p)) → SameRow (K p) m v w → SameRow (K p) (suc m) (cons x v) (cons x w)
  unfolding cons
  same_cons m x v w same zero h = refl
  same_cons m x v w same (suc j) h = same j (le_of_suc-le-suc h)

  -- … and where none are found, none pass a test that looks at the first m entries alone.
  pub find_constants_none : 0 < p → (m : ℕ) (test : Row (K p) → Bool) → ((u v : Row (K p)) → SameRow (K p) m u v → test u ≡ true → test v ≡ true)
      → find_constants p m test ≡ None → (u : Row (K p)) → test u ≡ false
  unfolding find_constants
  find_constants_none positive zero test local e u =
      (false_iff (test u)).1 (λ t. by (test (λ i. red p 0)) (local u (λ i. red p 0) (λ j h. absurd (not-suc-le-zero h)) t) e)
    where
      by : (t : Bool) → t ≡ true → ¬ ◌≡◌ {A = Option (Row (K p))} (elim t [ true ↦ Some (λ i. red p 0) | false ↦ None ]) None
      by true h e = some_none (λ i. red p 0) e
      by false h e = false≢true h
  find_constants_none positive (suc m) test local e u =
      subst (λ w. test w ≡ false) (ap (λ x. cons x (λ i. u (suc i))) (red_onto p (u zero)) ∙ cons_eta u)
      (find_constants_none positive m (λ v. test (cons (red p (u zero).0) v)) (λ v w same. local _ _ (same_cons m (red p (u zero).0) v w same))
      (by (find_constants p m (λ v. test (cons (red p (u zero).0) v))) (first_some_none p _ e (u zero).0 (residue_below p positive (u zero))))
      (λ i. u (suc i)))
    where
      by : (o : Option (Row (K p))) → ◌≡◌ {A = Option (Row (K p))} (elim o [ None ↦ None | Some v ↦ Some (cons (red p (u zero).0) v) ]) None → o ≡ None
      by None e = refl
      by (Some v) e = absurd (some_none (cons (red p (u zero).0) v) e)

  -- They are 0 from the number of rows on.
  pub find_constants_past : (m : ℕ) (test : Row (K p) → Bool) (u : Row (K p)) → find_constants p m test ≡ Some u → (q : ℕ) → m ≤ q → u q ≡ red p 0
  unfolding find_constants cons
  find_constants_past zero test u e q h = by (test (λ i. red p 0)) e
    where
      by : (t : Bool) → elim t as (λ x. Option (Row (K p))) [ true ↦ Some (λ i. red p 0) | false ↦ None ] ≡ Some u → u q ≡ red p 0
      by true e = sym (ap (λ v. v q) (same_Some (λ i. red p 0) u e))
      by false e = absurd (none-some u e)
  find_constants_past (suc m) test u e zero h = absurd (not-suc-le-zero h)
  find_constants_past (suc m) test u e (suc q) h =
      let (x, b, f) = first_some_found p _ u e in
      by x (find_constants p m (λ u. test (cons (red p x) u))) refl (find_constants_past m (λ u. test (cons (red p x) u))) f
    where
      by : (x : ℕ) (o : Option (Row (K p))) → find_constants p m (λ u. test (cons (red p x) u)) ≡ o
          → ((v : Row (K p)) → find_constants p m (λ u. test (cons (red p x) u)) ≡ Some v → (q : ℕ) → m ≤ q → v q ≡ red p 0)
          → elim o as (λ y. Option (Row (K p))) [ None ↦ None | Some u ↦ Some (cons (red p x) u) ] ≡ Some u → u (suc q) ≡ red p 0
      by x None h' past e = absurd (none-some u e)
      by x (Some v) h' past e = sym (ap (λ w. w (suc q)) (same_Some (cons (red p x) v) u e)) ∙ past v h' q (le_of_suc-le-suc h)

-- Tests of what is not left out: where b fails, c passes; where it passes, c does; b and c fail.
pub unless_iff : (b c : Bool) → (cond b false (not c) ≡ false) ↔ (b ≡ false → c ≡ true)
unless_iff true c = (λ e h. absurd (true≢false h), λ h. refl)
unless_iff false c = (λ e h. (not_false_iff c).0 e, λ h. (not_false_iff c).1 (h refl))

where_iff : (b c : Bool) → (cond b (not c) false ≡ false) ↔ (b ≡ true → c ≡ true)
where_iff true c = (λ e h. (not_false_iff c).0 e, λ h. (not_false_iff c).1 (h refl))
where_iff false c = (λ e h. absurd (false≢true h), λ h. refl)

pub unless_both : (b c : Bool) → (cond b false (not c) ≡ true) ↔ ((b ≡ false) × (c ≡ false))
unless_both true c = (λ e. absurd (false≢true e), λ h. absurd (true≢false h.0))
unless_both false c = (λ e. (refl, (false_iff c).1 ((not_iff c).0 e)), λ h. (not_iff c).1 ((false_iff c).0 h.1))

both_fail : (x y : Bool) → (elim x as (λ z. Bool) [ true ↦ false | false ↦ not y ] ≡ true) ↔ ((x ≡ false) × (y ≡ false))
both_fail true y = (λ e. absurd (false≢true e), λ h. absurd (true≢false h.0))
both_fail false y = (λ e. (refl, (false_iff y).1 ((not_iff y).0 e)), λ h. (not_iff y).1 ((false_iff y).0 h.1))

module _ (p m n : ℕ) (active : ℕ → Bool) (A : Matrix (K p)) (pivot : ℕ → Bool) (i : ℕ) where
  -- The residual of row i is the combination by u of those of the pivots.
  abbrev pub IsCombination : Row (K p) → Type 0
  IsCombination u =
      ((q : ℕ) → q < m → pivot q ≡ false → u q ≡ (K p).𝟘)
      × ((j : ℕ) → j < n → active j ≡ true → (K p).◌⊕◌ (A i j) ((K p).⊖◌ (vmul (K p) m u A j)) ≡ (K p).𝟘)

  pub depends_iff : (u : Row (K p)) → (depends p m n active A pivot i u ≡ true) ↔ IsCombination u
  unfolding depends
  depends_iff u = (
    λ e.
        let (others, columns) = (both_fail (some_below m other) (some_below n column)).0 e in (
          λ q hq z. (is_zero_iff p (u q)).0 ((unless_iff (pivot q) (is_zero p (u q))).0 ((some_below_false_iff m other).0 others q hq) z),
          λ j hj a. (is_zero_iff p (cleared j)).0 ((where_iff (active j) (is_zero p (cleared j))).0 ((some_below_false_iff n column).0 columns j hj) a),
        ),
    λ (others, columns).
        (both_fail (some_below m other) (some_below n column)).1 (
          (some_below_false_iff m other).1 (λ q hq. (unless_iff (pivot q) (is_zero p (u q))).1 (λ z. (is_zero_iff p (u q)).1 (others q hq z))),
          (some_below_false_iff n column).1 (λ j hj. (where_iff (active j) (is_zero p (cleared j))).1 (λ a. (is_zero_iff p (cleared j)).1 (columns j hj a))),
        ),
  )
    where
      cleared : ℕ → Residue p
      cleared j = (K p).◌⊕◌ (A i j) ((K p).⊖◌ (vmul (K p) m u A j))

      other : ℕ → Bool
      other q = cond (pivot q) false (not (is_zero p (u q)))

      column : ℕ → Bool
      column j = cond (active j) (not (is_zero p (cleared j))) false

  -- It looks at the first m constants alone.
  pub depends_local : (u v : Row (K p)) → SameRow (K p) m u v → depends p m n active A pivot i u ≡ true → depends p m n active A pivot i v ≡ true
  depends_local u v same e =
      let (others, columns) = (depends_iff u).0 e in
      (depends_iff v).1 (
        λ q hq z. sym (same q hq) ∙ others q hq z,
        λ j hj a. ap (λ x. (K p).◌⊕◌ (A i j) ((K p).⊖◌ x)) (sym (vmul_cong (K p) m u v A A j same (λ q hq. refl))) ∙ columns j hj a,
      )
