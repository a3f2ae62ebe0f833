-- L5: what the answers by drawn numbers say, in plain words first, in numbers, lists, sums, products and remainders; then the proofs.
--   never_turned_away       a claim without a fault is never turned away
--   few_points_may_pass           where the cut row is nonzero in some column, no more points than the largest order give "may pass"
--   few_rows_vanish                 of a claim with a fault, p^(m − 1) of the p^m rows u at most make the cut row zero
--   few_drawings_may_pass       so of the p^m · p ways to draw u and a point, fewer than p^m times that order and one more do
--   cut_row_nonzero_iff        the plain words and the rules
use Rattle.std.specs.Prelude.{◌≡◌, refl, ◌≢◌, ◌⊎◌, ◌↔◌, true, false, cond, List, [], ltb, eqb}
use Rattle.std.proofs.Math.Path.{sym, ap, ap₂}
use Rattle.std.proofs.Common.{subst, ◌∙◌, le_refl, le_of_lt, lt_of_not-le, le_trans, mod-eq_of_lt, add-mul, mul-pos, mul-le-mul_left, mul-le-mul_right, lt→ltb, ltb→lt}
use Rattle.std.proofs.Math.Logic.{inl, inr}
use Rattle.std.proofs.Math.Bool.{Bool, not}
use Rattle.std.proofs.lemmas.Bool.{false≢true}
use Rattle.std.specs.Prelude.{Option, None, Some}
use Prim.Native.Nat.{ℕ, suc, ◌+◌, ◌-◌, ◌*◌, ◌%◌, ◌^◌, ◌≤◌, ◌<◌, suc-le-suc}
use Rattle.std.proofs.Math.Nat.{le_of_suc-le-suc, pow-succ', one-le-pow}
use Rattle.std.proofs.Math.Decide.{dec_lt, dec_le}
use native.Mathlib.Omega.{arith}
use Rattle.std.proofs.Math.ListN.{get_or}
use Rattle.algebra.specs.Ring as Ring
use Rattle.algebra.specs.Prime.{Prime}
use Rattle.algebra.specs.Residue.{Residue, red_eq, red_mul, K_decides}
use Rattle.algebra.proofs.Residue.{K_cancels}
use Rattle.algebra.specs.Count.{count, count_most}
use Rattle.algebra.specs.Sum.{sum_cong, sum_zero, sum_add, neg_sum, sum_determines}
use Rattle.algebra.specs.Polynomial.{Below}
use Rattle.algebra.specs.Evaluation.{ev_vanishes}
use Rattle.algebra.specs.Roots.{red_distinct}
use Rattle.algebra.proofs.Roots.{count_roots_modulo}
use Rattle.rules.specs.Sizes.{most_order}
use Rattle.rules.specs.Claim.{Claim}
use Rattle.rules.specs.Matrices.{order}
use Rattle.rules.specs.Conditions.{some_below}
use Rattle.rules.specs.Drawn.{cut, cut_row, every_column_zero, Drawn, may_pass, turned_away, unread, too_large, first_too_large, judge_drawn_claim}
use Rattle.rules.specs.Drawn.{judge_drawn}
use Rattle.laws.specs.Valid.{Valid}
use Rattle.laws.specs.Ranges.{claim_valid}
use Rattle.laws.specs.BoolLaws.{true_iff, false_iff, not_iff, eqb_iff, cond_cases}
use Rattle.laws.specs.SearchLaws.{some_below_iff}
use Rattle.laws.specs.SumLaws.{red_sum}
use Rattle.meaning.specs.Plain.{row_times_column, row_P, column_F}
use Rattle.meaning.specs.Generating.{field_of}
use Rattle.meaning.specs.Verdicts.{product_number, LowFault, OrderFault, Nowhere}
use Rattle.meaning.proofs.Verdicts.{red_product}
use Rattle.meaning.specs.Drawings.{sum_lists, count_lists, sum_lists_bound, SameBut, count_free_place}
use Rattle.meaning.specs.DrawnMeaning.{wanted, drawn_product, drawn_wanted, cut_row_nonzero, HasFault, says_may_pass, points_that_may_pass, NeverTurnedAway, FewPoints, FewRows, FewDrawings, in_K, row, every_column_zero_iff, drawn_of_claim}

-- THE CUT ROW

-- One of three, by two tests: for k before d, at d and behind.
abbrev placed : {A : Type 0} → Bool → Bool → A → A → A → A
placed before at x y z = elim before [ true ↦ x | false ↦ elim at [ true ↦ y | false ↦ z ] ]

-- The tests where the place is known.
different : (k d : ℕ) → k ≢ d → eqb k d ≡ false
different k d ne = (false_iff (eqb k d)).1 (λ e. ne ((eqb_iff k d).0 e))

not_before : (k d : ℕ) → d ≤ k → ltb k d ≡ false
not_before k d h = (false_iff (ltb k d)).1 (λ e. let before : k < d = ltb→lt k d ((true_iff (ltb k d)).0 e) in omega arith)

placed_before : {A : Type 0} (k d : ℕ) (x y z : A) → k < d → placed (ltb k d) (eqb k d) x y z ≡ x
placed_before k d x y z h = ap (λ s. placed s (eqb k d) x y z) ((true_iff (ltb k d)).1 (lt→ltb k d h))

placed_at : {A : Type 0} (k d : ℕ) (x y z : A) → k ≡ d → placed (ltb k d) (eqb k d) x y z ≡ y
placed_at k d x y z e = ap₂ (λ s t. placed s t x y z) (not_before k d (omega arith)) ((eqb_iff k d).1 e)

placed_behind : {A : Type 0} (k d : ℕ) (x y z : A) → d < k → placed (ltb k d) (eqb k d) x y z ≡ z
placed_behind k d x y z h = ap₂ (λ s t. placed s t x y z) (not_before k d (omega arith)) (different k d (omega arith))

module _ (c : Claim) (valid : Valid c) where
  open field_of c use {𝟘, ◌⊕◌, ◌⊗◌, ⊖◌, add_zero, mul_add}

  infixl 60 ◌⊕◌
  infixl 70 ◌⊗◌
  infix 80 ⊖◌
  prime : Prime c.problem.p
  prime = valid.valid_problem.prime

  positive : 0 < c.problem.p
  positive = le_of_lt prime.two_le

  abbrev coefficient : ℕ → ℕ → ℕ → ℕ
  coefficient i j k = row_times_column c.problem.m (row_P c i) (column_F c j) k

  abbrev entry : ℕ → ℕ → ℕ → Residue c.problem.p
  entry = cut c.problem c.answer.P c.answer.C

  -- What is wanted is 0 below the order, …
  wanted_low : (i j k : ℕ) → k < order c.problem j → wanted c i j k ≡ 0
  wanted_low i j k h = ap (λ t. cond t (get_or (get_or c.answer.C i []) j 0) 0) (different k (order c.problem j) (omega arith))

  -- … C's number there, …
  wanted_at : (i j k : ℕ) → k ≡ order c.problem j → wanted c i j k ≡ get_or (get_or c.answer.C i []) j 0
  wanted_at i j k e = ap (λ t. cond t (get_or (get_or c.answer.C i []) j 0) 0) ((eqb_iff k (order c.problem j)).1 e)

  -- … and a number of K.
  wanted_below : (i j k : ℕ) → wanted c i j k < c.problem.p
  wanted_below i j k =
      cond_cases (eqb k (order c.problem j)) (get_or (get_or c.answer.C i []) j 0) 0 (λ w. w < c.problem.p)
      (λ t. valid.valid_answer.C_range i j) (λ t. positive)

  -- Up to the order an entry is the difference of the coefficient and what is wanted of it, …
  entry_within : (i j k : ℕ) → k ≤ order c.problem j → entry i j k ≡ (in_K c valid) (coefficient i j k) ⊕ ⊖ (in_K c valid) (wanted c i j k)
  unfolding cut
  entry_within i j k h = elim (dec_lt k (order c.problem j)) [
    | yes l ↦
        placed_before k (order c.problem j) _ _ _ l
        ∙ sym (red_product c positive i j k)
        ∙ sym (ap (λ w. (in_K c valid) (coefficient i j k) ⊕ ⊖ (in_K c valid) w) (wanted_low i j k l)
        ∙ ap (λ x. (in_K c valid) (coefficient i j k) ⊕ x) (Ring.neg_zero (field_of c))
        ∙ add_zero _)
    | no nl ↦
        let e : k ≡ order c.problem j = omega arith in
        placed_at k (order c.problem j) _ _ _ e
        ∙ ap₂ (λ x w. x ⊕ ⊖ (in_K c valid) w) (sym (red_product c positive i j k)) (sym (wanted_at i j k e))
  ]

  -- … and above it is 0.
  entry_above : (i j k : ℕ) → order c.problem j < k → entry i j k ≡ 𝟘
  unfolding cut
  entry_above i j k h = placed_behind k (order c.problem j) _ _ _ h

  -- So the combined row is the difference of the two sums, …
  row_within : (u : List ℕ) (j k : ℕ) → k ≤ order c.problem j → (row c valid) u j k ≡ (in_K c valid) (drawn_product c u j k) ⊕ ⊖ (in_K c valid) (drawn_wanted c u j k)
  unfolding cut_row
  row_within u j k h =
      sum_cong (field_of c) c.problem.m (λ i. (in_K c valid) (get_or u i 0) ⊗ entry i j k) (λ i. (in_K c valid) (by_coefficient i) ⊕ ⊖ (in_K c valid) (by_wanted i)) (λ i b. term i)
      ∙ sum_add (field_of c) c.problem.m (λ i. (in_K c valid) (by_coefficient i)) (λ i. ⊖ (in_K c valid) (by_wanted i))
      ∙ ap₂ (λ x y. x ⊕ y) (sym (red_sum c.problem.p c.problem.m by_coefficient))
      (sym (ap (λ x. ⊖ x) (red_sum c.problem.p c.problem.m by_wanted) ∙ neg_sum (field_of c) c.problem.m (λ i. (in_K c valid) (by_wanted i))))
    where
      by_coefficient : ℕ → ℕ
      by_coefficient i = get_or u i 0 * coefficient i j k

      by_wanted : ℕ → ℕ
      by_wanted i = get_or u i 0 * wanted c i j k

      term : (i : ℕ) → (in_K c valid) (get_or u i 0) ⊗ entry i j k ≡ (in_K c valid) (by_coefficient i) ⊕ ⊖ (in_K c valid) (by_wanted i)
      term i =
          ap (λ x. (in_K c valid) (get_or u i 0) ⊗ x) (entry_within i j k h)
          ∙ mul_add ((in_K c valid) (get_or u i 0)) ((in_K c valid) (coefficient i j k)) (⊖ (in_K c valid) (wanted c i j k))
          ∙ ap₂ (λ x y. x ⊕ y) (sym (red_mul c.problem.p (get_or u i 0) (coefficient i j k)))
          (Ring.mul_neg (field_of c) ((in_K c valid) (get_or u i 0)) ((in_K c valid) (wanted c i j k)) ∙ ap (λ x. ⊖ x) (sym (red_mul c.problem.p (get_or u i 0) (wanted c i j k))))

  -- … with no coefficient above the order.
  row_below : (u : List ℕ) (j : ℕ) → Below (field_of c) (suc (order c.problem j)) ((row c valid) u j)
  unfolding cut_row
  row_below u j k h =
      sum_zero (field_of c) c.problem.m (λ i. (in_K c valid) (get_or u i 0) ⊗ entry i j k)
      (λ i b. ap (λ x. (in_K c valid) (get_or u i 0) ⊗ x) (entry_above i j k h) ∙ Ring.mul_zero (field_of c) ((in_K c valid) (get_or u i 0)))

  -- THE TESTS AS STATEMENTS

  -- A difference of residues is 0 exactly if the remainders are the same.
  difference_iff : (a b : ℕ) → ((in_K c valid) a ⊕ ⊖ (in_K c valid) b ≡ 𝟘) ↔ (a % c.problem.p ≡ b % c.problem.p)
  difference_iff a b = (
    λ e. (red_eq c.problem.p positive a b).0 (Ring.eq_of_sub (field_of c) ((in_K c valid) a) ((in_K c valid) b) e),
    λ e. Ring.sub_of_eq (field_of c) ((in_K c valid) a) ((in_K c valid) b) ((red_eq c.problem.p positive a b).1 e),
  )

  -- An entry is 0 exactly if the coefficient is as wanted, …
  entry_zero_iff : (i j k : ℕ) → k ≤ order c.problem j → (entry i j k ≡ 𝟘) ↔ (product_number c i j k ≡ wanted c i j k)
  entry_zero_iff i j k h = (
    λ e. (difference_iff (coefficient i j k) (wanted c i j k)).0 (sym (entry_within i j k h) ∙ e) ∙ mod-eq_of_lt (wanted_below i j k),
    λ e. entry_within i j k h ∙ (difference_iff (coefficient i j k) (wanted c i j k)).1 (e ∙ sym (mod-eq_of_lt (wanted_below i j k))),
  )

  -- … so that a fault of 11 or 12 is an entry other than 0.
  fault_iff : (i j : ℕ) → (LowFault c i j ⊎ OrderFault c i j) ↔ ((k : ℕ) × (k ≤ order c.problem j) × (entry i j k ≢ 𝟘))
  fault_iff i j = (
    elim [
      | inl (k, h, ne) ↦ (k, le_of_lt h, λ z. ne ((entry_zero_iff i j k (le_of_lt h)).0 z ∙ wanted_low i j k h))
      | inr ne ↦ (d, le_refl d, λ z. ne ((entry_zero_iff i j d (le_refl d)).0 z ∙ wanted_at i j d refl))
    ],
    λ (k, h, ne). elim (dec_lt k d) [
      | yes l ↦ inl (k, l, λ e. ne ((entry_zero_iff i j k h).1 (e ∙ sym (wanted_low i j k l))))
      | no nl ↦
          let e : k ≡ d = omega arith in
          inr (λ z. ne ((entry_zero_iff i j k h).1 (ap (product_number c i j) e ∙ z ∙ sym (wanted_at i j k e))))
    ],
  )
    where
      d : ℕ
      d = order c.problem j

  -- The combined row is 0 at a power exactly if the two sums have the same remainder, …
  row_zero_iff : (u : List ℕ) (j k : ℕ) → k ≤ order c.problem j
      → ((row c valid) u j k ≡ 𝟘) ↔ (drawn_product c u j k % c.problem.p ≡ drawn_wanted c u j k % c.problem.p)
  row_zero_iff u j k h = (
    λ e. (difference_iff (drawn_product c u j k) (drawn_wanted c u j k)).0 (sym (row_within u j k h) ∙ e),
    λ e. row_within u j k h ∙ (difference_iff (drawn_product c u j k) (drawn_wanted c u j k)).1 e,
  )

  -- … so that "the cut row is nonzero in some column" if the rule's cut row is.
  pub cut_row_nonzero_iff : (u : List ℕ)
      → (cut_row_nonzero c u ≡ true) ↔ ((j : ℕ) × (k : ℕ) × (j < c.problem.n) × (k ≤ order c.problem j) × ((row c valid) u j k ≢ 𝟘))
  unfolding cut_row_nonzero
  cut_row_nonzero_iff u = (
    λ e.
        let (j, hj, f) = (some_below_iff c.problem.n (λ j. some_below (suc (order c.problem j)) (differs j))).0 e in
        let (k, hk, g) = (some_below_iff (suc (order c.problem j)) (differs j)).0 f in
        (j, k, hj, le_of_suc-le-suc hk, λ z. (not_iff _).0 g ((eqb_iff _ _).1 ((row_zero_iff u j k (le_of_suc-le-suc hk)).0 z))),
    λ (j, k, hj, hk, ne).
        (some_below_iff c.problem.n (λ j. some_below (suc (order c.problem j)) (differs j))).1 (
          j,
          hj,
          (some_below_iff (suc (order c.problem j)) (differs j)).1
              (k, suc-le-suc hk, (not_iff _).1 (λ e. ne ((row_zero_iff u j k hk).1 ((eqb_iff _ _).0 e)))),
        ),
  )
    where
      differs : ℕ → ℕ → Bool
      differs j k = not (eqb (drawn_product c u j k % c.problem.p) (drawn_wanted c u j k % c.problem.p))

  -- WHAT L5 WANTS, OF A CLAIM

  abbrev zero_at : List ℕ → ℕ → Bool
  zero_at = every_column_zero c.problem c.answer.P c.answer.C

  -- Without a fault every entry is 0, and so is the cut row, whatever u is, …
  row_without_fault : Nowhere c.problem.m c.problem.n (LowFault c) → Nowhere c.problem.m c.problem.n (OrderFault c)
      → (u : List ℕ) (j k : ℕ) → j < c.problem.n → (row c valid) u j k ≡ 𝟘
  unfolding cut_row
  row_without_fault no_low no_order u j k hj = elim (dec_le k (order c.problem j)) [
    | no above ↦ row_below u j k (lt_of_not-le above)
    | yes h ↦
        sum_zero (field_of c) c.problem.m (λ i. (in_K c valid) (get_or u i 0) ⊗ entry i j k)
        (λ i hi. ap (λ x. (in_K c valid) (get_or u i 0) ⊗ x) (zero_entry i hi h) ∙ Ring.mul_zero (field_of c) ((in_K c valid) (get_or u i 0)))
  ]
    where
      zero_entry : (i : ℕ) → i < c.problem.m → k ≤ order c.problem j → entry i j k ≡ 𝟘
      zero_entry i hi h = elim (K_decides c.problem.p (entry i j k)) [
        | yes z ↦ z
        | no ne ↦ elim ((fault_iff i j).1 (k, h, ne)) [ inl low ↦ absurd (no_low i j hi hj low) | inr at ↦ absurd (no_order i j hi hj at) ]
      ]

  -- … and every column gives 0 at every point.
  zero_without_fault : Nowhere c.problem.m c.problem.n (LowFault c) → Nowhere c.problem.m c.problem.n (OrderFault c)
      → (u : List ℕ) (point : ℕ) → zero_at u point ≡ true
  zero_without_fault no_low no_order u point =
      ((every_column_zero_iff c valid) u point).1
      (λ j hj. ev_vanishes (field_of c) (suc (order c.problem j)) ((in_K c valid) point) ((row c valid) u j) (λ k. row_without_fault no_low no_order u j k hj))

  -- Where the cut row is not 0 in column j, at most d_j points pass a test that is passed only where every column gives 0.
  few_zeros : (u : List ℕ) (j k : ℕ) → j < c.problem.n → (row c valid) u j k ≢ 𝟘
      → (test : ℕ → Bool) → ((point : ℕ) → test point ≡ true → zero_at u point ≡ true) → count c.problem.p test ≤ order c.problem j
  few_zeros u j k hj ne test only =
      count_roots_modulo c.problem.p prime (order c.problem j) ((row c valid) u j) (row_below u j) (λ e. ne (ap (λ f. f k) e)) test
      (λ point h t. (suc (order c.problem j), row_below u j, ((every_column_zero_iff c valid) u point).0 (only point t) j hj))

  -- Of two lists that are the same but for place i, where row i has an entry other than 0, not both make the cut row 0 there.
  one_number : (i j k : ℕ) → i < c.problem.m → entry i j k ≢ 𝟘 → (u v : List ℕ) → SameBut i u v
      → get_or u i 0 < c.problem.p → get_or v i 0 < c.problem.p → (row c valid) u j k ≡ 𝟘 → (row c valid) v j k ≡ 𝟘 → get_or u i 0 ≡ get_or v i 0
  unfolding cut_row
  one_number i j k hi ne u v same hu hv zu zv =
      red_distinct c.problem.p positive (get_or u i 0) (get_or v i 0) hu hv
      (sum_determines (field_of c) (K_cancels c.problem.p prime) c.problem.m i
      (λ a. entry a j k) (λ a. (in_K c valid) (get_or u a 0)) (λ a. (in_K c valid) (get_or v a 0)) hi ne (λ a na. ap (in_K c valid) (same a na)) (zu ∙ sym zv))

  -- So of a claim with a fault at most p^(m − 1) lists make it 0 everywhere.
  few_rows : HasFault c → count_lists c.problem.p c.problem.m (λ u. not (cut_row_nonzero c u)) ≤ c.problem.p ^ (c.problem.m - 1)
  few_rows (i, j, hi, hj, fault) =
      let (k, hk, ne) = (fault_iff i j).0 fault in
      let vanishes : (u : List ℕ) → not (cut_row_nonzero c u) ≡ true → (row c valid) u j k ≡ 𝟘 =
      λ u e. elim (K_decides c.problem.p ((row c valid) u j k)) [ yes z ↦ z | no nz ↦ absurd ((not_iff _).0 e ((cut_row_nonzero_iff u).1 (j, k, hj, hk, nz))) ] in
      subst (λ m. i < m → count_lists c.problem.p m (λ u. not (cut_row_nonzero c u)) ≤ c.problem.p ^ (c.problem.m - 1)) (omega arith)
      (λ h. count_free_place c.problem.p (c.problem.m - 1) i (λ u. not (cut_row_nonzero c u)) h
      (λ u v same hu hv tu tv. one_number i j k hi ne u v same hu hv (vanishes u tu) (vanishes v tv))) hi

abbrev by_tests : Option ℕ → Bool → Drawn
by_tests o b = elim o [ Some place ↦ too_large place | None ↦ cond b may_pass turned_away ]

-- "It says "may pass" exactly when every column gives 0.": not otherwise, …
may_pass_zero : (c : Claim) (u : List ℕ) (point : ℕ) → says_may_pass (judge_drawn_claim c u point) ≡ true
    → every_column_zero c.problem c.answer.P c.answer.C u point ≡ true
unfolding judge_drawn_claim
may_pass_zero c u point = by (first_too_large c.problem.p c.problem.m u point) (every_column_zero c.problem c.answer.P c.answer.C u point)
  where
    by : (o : Option ℕ) (b : Bool) → says_may_pass (by_tests o b) ≡ true → b ≡ true
    by (Some place) b e = absurd (false≢true e)
    by None true e = refl
    by None false e = absurd (false≢true e)

-- … and then it is not turned away.
zero_not_turned_away : (c : Claim) (u : List ℕ) (point : ℕ) → every_column_zero c.problem c.answer.P c.answer.C u point ≡ true
    → judge_drawn_claim c u point ≢ turned_away
unfolding judge_drawn_claim
zero_not_turned_away c u point =
    by (first_too_large c.problem.p c.problem.m u point) (every_column_zero c.problem c.answer.P c.answer.C u point)
  where
    is_turned_away : Drawn → Bool
    is_turned_away may_pass = false
    is_turned_away turned_away = true
    is_turned_away (unread r) = false
    is_turned_away (too_large place) = false

    by : (o : Option ℕ) (b : Bool) → b ≡ true → by_tests o b ≢ turned_away
    by (Some place) b z e = false≢true (ap is_turned_away e)
    by None true z e = false≢true (ap is_turned_away e)
    by None false z e = false≢true z

pub never_turned_away : NeverTurnedAway
never_turned_away s t c q e no_low no_order u point turned =
    zero_not_turned_away c u point (zero_without_fault c (claim_valid s t e) no_low no_order u point) (sym (drawn_of_claim s t c q e u point) ∙ turned)

pub few_points_may_pass : FewPoints
few_points_may_pass s t c q e u nonzero =
    let valid : Valid c = claim_valid s t e in
    let (j, k, hj, hk, ne) = (cut_row_nonzero_iff c valid u).0 nonzero in
    le_trans
    (few_zeros c valid u j k hj ne (λ point. says_may_pass (judge_drawn s t u point))
    (λ point says. may_pass_zero c u point (subst (λ a. says_may_pass a ≡ true) (drawn_of_claim s t c q e u point) says)))
    (valid.valid_problem.order_most j)

pub few_rows_vanish : FewRows
few_rows_vanish s t c q e fault = few_rows c (claim_valid s t e) fault

-- Where Z of the P rows have at most p points each and every other row at most e, the T points in all are fewer than (1 + e) · P, if Z is at most
-- the p-th part of P.
fewer : (p Q P e T Z : ℕ) → 0 < p → 0 < e → 0 < Q → p * Q ≡ P → Z ≤ Q → T + e * Z ≤ p * Z + P * e → T < (1 + e) * P
fewer p Q P e T Z hp he hq product rows total = elim (dec_le p e) [
  | yes le ↦ omega (arith, mul-le-mul_right Z le, mul-pos hp hq)
  | no gt ↦ more (p - e) (omega arith)
]
  where
    more : (r : ℕ) → p ≡ e + r → T < (1 + e) * P
    more r split =
        omega (arith, ap (λ x. x * Z) split ∙ add-mul e r Z, ap (λ x. x * Q) split ∙ add-mul e r Q, mul-le-mul_left r rows, mul-pos he hq)

pub few_drawings_may_pass : FewDrawings
unfolding most_order
few_drawings_may_pass s t c q e fault =
    fewer p (p ^ (m - 1)) (p ^ m) most_order (sum_lists p m (points_that_may_pass s t p)) (count_lists p m (λ u. not (cut_row_nonzero c u)))
    positive (omega arith) (one-le-pow (m - 1) p positive)
    (sym (pow-succ' p (m - 1)) ∙ ap (λ k. p ^ k) (omega (arith, (claim_valid s t e).valid_problem.rows_least)))
    (few_rows_vanish s t c q e fault)
    (sum_lists_bound p m (points_that_may_pass s t p) (λ u. cond (not (cut_row_nonzero c u)) 1 0) p most_order most_order
    (λ u. at_row u (cut_row_nonzero c u) refl))
  where
    p : ℕ
    p = c.problem.p

    m : ℕ
    m = c.problem.m

    positive : 0 < p
    positive = le_of_lt (claim_valid s t e).valid_problem.prime.two_le

    at_row : (u : List ℕ) (b : Bool) → cut_row_nonzero c u ≡ b
        → points_that_may_pass s t p u + most_order * cond (not b) 1 0 ≤ p * cond (not b) 1 0 + most_order
    at_row u true h = omega (arith, few_points_may_pass s t c q e u h)
    at_row u false h = omega (arith, count_most p (λ point. says_may_pass (judge_drawn s t u point)))
