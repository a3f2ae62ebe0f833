-- The order in which the maker takes the rows: the row taken next is lowest, and there is one as long as rows are left.
--   more_of_test, more_of_failed, test_of_more           the test of the order of integers
--   Lowest                   a row that was not taken, and than which no other such row is lower
--   next_row_some, next_row_none               the row taken next
--   left, left_less, left_none                 how many rows are left
use Rattle.std.specs.Prelude.{◌≡◌, refl, ◌⊎◌, ◌↔◌, Bool, true, false, cond, not, ℕ, zero, suc, ◌+◌, ◌<◌, ℤ, pos, negsuc, ◌+ℤ◌}
use Rattle.std.proofs.Common.{sym, ap, subst, ◌∙◌, true≢false, le_of_suc-le-suc, not-suc-le-zero, le_refl, lt-suc_self, arith, le→leb}
use Rattle.std.proofs.Math.Logic.{inl, inr}
use Rattle.std.specs.Prelude.{None, Some}
use Rattle.std.proofs.Math.Decide.{ℕ_discrete}
use Rattle.std.proofs.Math.IntN.{+ℤ_idr, +ℤ_assoc}
use Rattle.std.specs.Int.Signed.{le_z}
use Rattle.algebra.specs.Integer.{More, more_self, more_trans, more_none}
use Rattle.algebra.specs.Sum.{replace}
use Rattle.rules.specs.Conditions.{sum_below}
use Rattle.rules.specs.Maker.{lower_left, next_row}
use Rattle.laws.specs.BoolLaws.{true_iff, false_iff}
use Rattle.laws.specs.SearchLaws.{some_below_false_iff, first_below_some, first_below_none}
use Rattle.laws.specs.DegreeLaws.{max_above_left, max_above_right}
use Rattle.laws.specs.FindLaws.{unless_iff, unless_both}

-- The test of the order of integers.
pub more_of_test : (x y : ℤ) → le_z x y ≡ true → More x y
more_of_test x y e = let (k, h) = max_above_left x y in (k, sym (ap (λ t. cond t y x) e) ∙ h)

pub more_of_failed : (x y : ℤ) → le_z x y ≡ false → More y x
more_of_failed x y e = let (k, h) = max_above_right x y in (k, sym (ap (λ t. cond t y x) e) ∙ h)

test_self : (x : ℤ) → le_z x x ≡ true
test_self (pos n) = (true_iff _).1 (le→leb n n (le_refl n))
test_self (negsuc n) = (true_iff _).1 (le→leb n n (le_refl n))

pub test_of_more : (x y : ℤ) → More x y → le_z x y ≡ true
test_of_more x y (k, e) = by (le_z x y) refl
  where
    by : (t : Bool) → le_z x y ≡ t → le_z x y ≡ true
    by true h = h
    by false h =
        let (l, e') = more_of_failed x y h in
        let none_more : k + l ≡ 0 = more_none x (k + l) (e' ∙ ap (λ z. z +ℤ pos l) e ∙ +ℤ_assoc x (pos k) (pos l)) in
        let same : y ≡ x = e ∙ ap (λ k. x +ℤ pos k) (omega arith) ∙ +ℤ_idr x in
        ap (le_z x) same ∙ test_self x

module _ (degree : ℕ → ℤ) (taken : ℕ → Bool) where
  -- i is one of the rows below m that were not taken, and no other is lower.
  abbrev pub Lowest : ℕ → ℕ → Type 0
  Lowest m i = (i < m) × (taken i ≡ false) × ((k : ℕ) → k < m → taken k ≡ false → More (degree i) (degree k))

  -- All rows were taken, or there is a lowest one.
  lowest : (m : ℕ) → ((i : ℕ) → i < m → taken i ≡ true) ⊎ ((i : ℕ) × Lowest m i)
  lowest zero = inl (λ i h. absurd (not-suc-le-zero h))
  lowest (suc m) = by (lowest m) (taken m) refl
    where
      below : {Q : ℕ → Type 0} → ((k : ℕ) → k < m → Q k) → Q m → (k : ℕ) → k < suc m → Q k
      below {Q} h last k b = elim (ℕ_discrete k m) [ yes e ↦ subst Q (sym e) last | no ne ↦ h k (omega arith) ]

      by : ((i : ℕ) → i < m → taken i ≡ true) ⊎ ((i : ℕ) × Lowest m i) → (t : Bool) → taken m ≡ t
          → ((i : ℕ) → i < suc m → taken i ≡ true) ⊎ ((i : ℕ) × Lowest (suc m) i)
      by (inl all) true e = inl (below {Q = λ k. taken k ≡ true} all e)
      by (inl all) false e = inr (
        m,
        (
          lt-suc_self m,
          e,
          below {Q = λ k. taken k ≡ false → More (degree m) (degree k)} (λ k h z. absurd (true≢false (sym (all k h) ∙ z))) (λ z. more_self (degree m)),
        ),
      )
      by (inr (i, (h, z, least))) true e =
          inr (i, (omega arith, z, below {Q = λ k. taken k ≡ false → More (degree i) (degree k)} least (λ z. absurd (true≢false (sym e ∙ z)))))
      by (inr (i, (h, z, least))) false e = order (le_z (degree i) (degree m)) refl
        where
          order : (t : Bool) → le_z (degree i) (degree m) ≡ t → ((i : ℕ) → i < suc m → taken i ≡ true) ⊎ ((i : ℕ) × Lowest (suc m) i)
          order true l =
              inr (i, (omega arith, z, below {Q = λ k. taken k ≡ false → More (degree i) (degree k)} least (λ z. more_of_test (degree i) (degree m) l)))
          order false l = inr (
            m,
            (
              lt-suc_self m,
              e,
              below {Q = λ k. taken k ≡ false → More (degree m) (degree k)}
                  (λ k h z. more_trans (degree m) (more_of_failed (degree i) (degree m) l) (least k h z)) (λ z. more_self (degree m)),
            ),
          )

  module _ (m : ℕ) where
    -- The test of a row says whether it is lowest.
    lowest_iff : (i : ℕ) → i < m → (cond (taken i) false (not (lower_left m degree taken i)) ≡ true) ↔ Lowest m i
    unfolding lower_left
    lowest_iff i hi = (
      λ e.
          let (z, none_lower) = (unless_both (taken i) (lower_left m degree taken i)).0 e in (
            hi,
            z,
            λ k hk zk. more_of_test (degree i) (degree k) ((unless_iff (taken k) (le_z (degree i) (degree k))).0
                ((some_below_false_iff m _).0 none_lower k hk) zk),
          ),
      λ (h, z, least).
          (unless_both (taken i) (lower_left m degree taken i)).1 (
            z,
            (some_below_false_iff m _).1 (λ k hk. (unless_iff (taken k) (le_z (degree i) (degree k))).1
                (λ zk. test_of_more (degree i) (degree k) (least k hk zk))),
          ),
    )

    -- The row taken next is lowest …
    pub next_row_some : (i : ℕ) → next_row m degree taken ≡ Some i → Lowest m i
    unfolding next_row
    next_row_some i e = let (hi, t, before) = (first_below_some m _ i).0 e in (lowest_iff i hi).0 t

    -- … and there is one as long as rows are left.
    pub next_row_none : next_row m degree taken ≡ None → (i : ℕ) → i < m → taken i ≡ true
    unfolding next_row
    next_row_none e = elim (lowest m) [
      | inl all ↦ all
      | inr (i, low) ↦ absurd ((false_iff _).0 ((first_below_none m _).0 e i low.0) ((lowest_iff i low.0).1 low))
    ]

-- HOW MANY ARE LEFT

-- How many of the rows below m were not taken.
unfoldable pub left : ℕ → (ℕ → Bool) → ℕ
left m taken = sum_below m (λ i. cond (taken i) 0 1)

-- One row less …
pub left_less : (m : ℕ) (taken : ℕ → Bool) (i : ℕ) → i < m → taken i ≡ false → left m taken ≡ suc (left m (replace i true taken))
unfolding left sum_below replace
left_less zero taken i h e = absurd (not-suc-le-zero h)
left_less (suc m) taken zero h e = ap (λ t. cond t 0 1 + left m (λ i. taken (suc i))) e ∙ omega arith
left_less (suc m) taken (suc i) h e =
    ap (λ x. cond (taken zero) 0 1 + x) (left_less m (λ i. taken (suc i)) i (le_of_suc-le-suc h) e) ∙ omega arith

-- … until none is left.
pub left_none : (m : ℕ) (taken : ℕ → Bool) → left m taken ≡ 0 → (i : ℕ) → i < m → taken i ≡ true
unfolding left sum_below
left_none zero taken e i h = absurd (not-suc-le-zero h)
left_none (suc m) taken e zero h = by (taken zero) refl
  where
    by : (t : Bool) → taken zero ≡ t → taken zero ≡ true
    by true q = q
    by false q = absurd (omega (arith, sym (ap (λ t. cond t 0 1 + left m (λ i. taken (suc i))) q) ∙ e))
left_none (suc m) taken e (suc i) h = left_none m (λ i. taken (suc i)) (omega arith) i (le_of_suc-le-suc h)
