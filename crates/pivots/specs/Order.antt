-- The row to take next, as the scan of the rows finds it.
--   degree_at, is_taken, Small               what the arrays say
--   better, better_taken, better_first, better_lower       the test of one row
--   Best, best_start, best_more, best_kept, best_next        the lowest of the first rows that were not taken
use Rattle.std.specs.Prelude.{◌≡◌, ◌≢◌, ◌⊎◌, Bool, not, List, ℕ, ◌+◌, ◌^◌, ◌<◌, T, ℤ, pos, nat_abs, get_or}
use Rattle.std.proofs.Math.Path.{refl, sym, ap}
use Rattle.std.proofs.Common.{subst, ◌∙◌, true≢false, arith}
use Rattle.std.proofs.Math.Logic.{inl, inr}
use Rattle.std.proofs.Math.Bool.{true, false, cond}
use Rattle.std.proofs.lemmas.Bool.{false≢true}
use Rattle.std.specs.Prelude.{Option, None, Some}
use borrow.Author.Count.{below_more}
use Rattle.std.specs.Int.Signed.{le_z, lt_z, ≤ℤ_refl, le_z_yes, lt_z_yes, lt_z_no, clash_ℤ}
use Rattle.algebra.specs.Integer.{more_trans}
use Rattle.rules.specs.Maker.{lower_left, next_row}
use Rattle.laws.specs.BoolLaws.{true_iff, false_iff, not_false_iff}
use Rattle.laws.specs.SearchLaws.{some_below_iff, some_below_false_iff, first_below_some, first_below_none}
use Rattle.laws.specs.FindLaws.{unless_iff, unless_both}
use Rattle.laws.specs.RowOrder.{more_of_test, more_of_failed, test_of_more}

-- The degree of row i, and whether it was taken.
abbrev pub degree_at : List ℤ → ℕ → ℤ
degree_at degrees i = get_or degrees i (pos 0)

abbrev pub is_taken : List Bool → ℕ → Bool
is_taken taken i = get_or taken i false

-- No degree is too large for a sum.
abbrev pub Small : List ℤ → Type 0
Small degrees = (i : ℕ) → nat_abs (degree_at degrees i) < 2 ^ 30

-- Row i was not taken, and is lower than the best so far, if there is one.
abbrev pub lower_than : (ℕ → ℤ) → ℕ → Option ℕ → Bool
lower_than degree i None = true
lower_than degree i (Some best) = lt_z (degree i) (degree best)

abbrev pub better : (ℕ → ℤ) → (ℕ → Bool) → ℕ → Option ℕ → Bool
better degree taken i best = cond (taken i) false (lower_than degree i best)

-- How the code makes the test.
module _ (degree : ℕ → ℤ) (taken : List Bool) (i : ℕ) where
  pub better_taken : (best : Option ℕ) → get_or taken i false ≢ false → better degree (is_taken taken) i best ≡ false
  better_taken best h = ap (λ t. cond t false (lower_than degree i best)) (not_false (get_or taken i false) h)
    where
      not_false : (t : Bool) → t ≢ false → t ≡ true
      not_false true n = refl
      not_false false n = absurd (n refl)

  pub better_first : get_or taken i false ≡ false → better degree (is_taken taken) i None ≡ true
  better_first h = ap (λ t. cond t false true) h

  pub better_lower : (best : ℕ) → get_or taken i false ≡ false → better degree (is_taken taken) i (Some best) ≡ lt_z (degree i) (degree best)
  better_lower best h = ap (λ t. cond t false (lt_z (degree i) (degree best))) h

-- The tests of order.
le_trans_test : (x y z : ℤ) → le_z x y ≡ true → le_z y z ≡ true → le_z x z ≡ true
le_trans_test x y z a b = test_of_more x z (more_trans x (more_of_test x y a) (more_of_test y z b))

le_of_failed : (x y : ℤ) → le_z x y ≡ false → le_z y x ≡ true
le_of_failed x y e = test_of_more y x (more_of_failed x y e)

le_self : (x : ℤ) → le_z x x ≡ true
le_self x = (true_iff (le_z x x)).1 (≤ℤ_refl x).le

lt_failed : (x y : ℤ) → lt_z x y ≡ false → le_z y x ≡ true
lt_failed x y e = (true_iff (le_z y x)).1 (lt_z_no {a = x} {b = y} (subst (λ t. T (not t)) (sym e) tt)).le

lt_not_le : (x y : ℤ) → lt_z x y ≡ true → le_z y x ≢ true
lt_not_le x y e l = clash_ℤ (lt_z_yes {a = x} {b = y} ((true_iff _).0 e)) (le_z_yes ((true_iff _).0 l))

lt_le : (x y : ℤ) → lt_z x y ≡ true → le_z x y ≡ true
lt_le x y e = by (le_z x y) refl
  where
    by : (t : Bool) → le_z x y ≡ t → le_z x y ≡ true
    by true h = h
    by false h = absurd (lt_not_le x y e (le_of_failed x y h))

module _ (degree : ℕ → ℤ) (taken : ℕ → Bool) (m : ℕ) where
  -- Of the first i rows, best is the first of the lowest that were not taken.
  pub record Low (i best : ℕ) : Type 0 where
    pub inside : best < m
    pub waits : taken best ≡ false
    pub least : (k : ℕ) → k < i → taken k ≡ false → le_z (degree best) (degree k) ≡ true
    pub first : (k : ℕ) → k < best → taken k ≡ false → le_z (degree k) (degree best) ≡ false

  abbrev pub Best : ℕ → Option ℕ → Type 0
  Best i None = (k : ℕ) → k < i → taken k ≡ true
  Best i (Some best) = Low i best

  -- None of no rows, …
  pub best_start : Best 0 None
  best_start k h = absurd (omega arith)

  lower_than_all : (i : ℕ) → i < m → taken i ≡ false
      → ((k : ℕ) → k < i → taken k ≡ false → (le_z (degree i) (degree k) ≡ true) × (le_z (degree k) (degree i) ≡ false)) → Low (i + 1) i
  lower_than_all i hi z facts = record {
    inside = hi;
    waits = z;
    least = below_more (λ k. taken k ≡ false → le_z (degree i) (degree k) ≡ true) i (λ k h w. (facts k h w).0) (λ w. le_self (degree i));
    first = λ k h w. (facts k h w).1;
  }

  -- … row i where it is better, …
  pub best_more : (i : ℕ) (best : Option ℕ) → i < m → Best i best → better degree taken i best ≡ true → Best (i + 1) (Some i)
  best_more i best hi so_far e = by (taken i) refl best so_far e
    where
      by : (t : Bool) → taken i ≡ t → (best : Option ℕ) → Best i best → cond t false (lower_than degree i best) ≡ true → Low (i + 1) i
      by true z best so_far e = absurd (false≢true e)
      by false z None all e = lower_than_all i hi z (λ k h w. absurd (true≢false (sym (all k h) ∙ w)))
      by false z (Some best) so_far lower =
          lower_than_all i hi z (λ k h w. (
            le_trans_test (degree i) (degree best) (degree k) (lt_le (degree i) (degree best) lower) (so_far.least k h w),
            (false_iff _).1 (λ q. lt_not_le (degree i) (degree best) lower (le_trans_test (degree best) (degree k) (degree i) (so_far.least k h w) q)),
          ))

  -- … and the best so far where it is not.
  pub best_kept : (i : ℕ) (best : Option ℕ) → Best i best → better degree taken i best ≡ false → Best (i + 1) best
  best_kept i best so_far e = by (taken i) refl best so_far e
    where
      one_more : (best : ℕ) → taken i ≡ true ⊎ (le_z (degree best) (degree i) ≡ true) → Low i best → Low (i + 1) best
      one_more best why so_far = record {
        inside = so_far.inside;
        waits = so_far.waits;
        least = below_more (λ k. taken k ≡ false → le_z (degree best) (degree k) ≡ true) i so_far.least
            (λ w. elim why [ inl t ↦ absurd (true≢false (sym t ∙ w)) | inr l ↦ l ]);
        first = so_far.first;
      }

      by : (t : Bool) → taken i ≡ t → (best : Option ℕ) → Best i best → cond t false (lower_than degree i best) ≡ false → Best (i + 1) best
      by true z None all e = below_more (λ k. taken k ≡ true) i all z
      by true z (Some best) so_far e = one_more best (inl z) so_far
      by false z None all e = absurd (true≢false e)
      by false z (Some best) so_far e = one_more best (inr (lt_failed (degree i) (degree best) e)) so_far

  -- When all rows were passed it is the row to take next.
  pub best_next : (best : Option ℕ) → Best m best → best ≡ next_row m degree taken
  unfolding next_row lower_left
  best_next None all =
      sym ((first_below_none m (λ i. cond (taken i) false (not (lower_left m degree taken i)))).1
      (λ i hi. ap (λ t. cond t false (not (lower_left m degree taken i))) (all i hi)))
  best_next (Some best) low =
      sym ((first_below_some m (λ i. cond (taken i) false (not (lower_left m degree taken i))) best).1 (
        low.inside,
        (unless_both (taken best) (lower_left m degree taken best)).1 (low.waits, none_lower),
        λ k h. later k h (taken k) refl,
      ))
    where
      none_lower : lower_left m degree taken best ≡ false
      none_lower = (some_below_false_iff m _).1 (λ k hk. (unless_iff (taken k) (le_z (degree best) (degree k))).1 (low.least k hk))

      later : (k : ℕ) → k < best → (t : Bool) → taken k ≡ t → cond (taken k) false (not (lower_left m degree taken k)) ≡ false
      later k h true z = ap (λ t. cond t false (not (lower_left m degree taken k))) z
      later k h false z =
          ap (λ t. cond t false (not (lower_left m degree taken k))) z
          ∙ (not_false_iff (lower_left m degree taken k)).1 (lower k h z)
        where
          lower : (k : ℕ) → k < best → taken k ≡ false → lower_left m degree taken k ≡ true
          lower k h z = (some_below_iff m _).1 (best, low.inside, (unless_both (taken best) (le_z (degree k) (degree best))).1 (low.waits, low.first k h z))
