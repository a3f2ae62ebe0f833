-- What the arrays hold after k steps, and how a step of the code keeps it.
--   After b k entries products degrees       P, the product of P and F from the power k on, and the row degrees
--   Residuals                the residuals at power k, 0 in the columns that are not active
--   Raised                   the degrees of the pivots are one more
--   residuals_chosen         what is chosen by them is what the maker chooses
--   after_next               the step is kept
use Rattle.std.specs.Prelude.{◌≡◌, refl, ◌≢◌, ◌⊎◌, Bool, false, List, [], ℕ, suc, ◌+◌, ◌-◌, ◌≤◌, ◌<◌, ltb, ℤ, pos, nat_abs, ◌+ℤ◌, length, get_or}
use Rattle.std.proofs.Math.Path.{sym, ap}
use Rattle.std.proofs.Common.{ap₂, subst, ◌∙◌, inl, inr, le_of_lt, lt_of_lt_of_le, arith, ltb-true, ltb-false}
use Rattle.std.proofs.Math.Bool.{true}
use Rattle.std.proofs.Math.Decide.{dec_lt}
use Rattle.std.proofs.Math.IntN.{+ℤ_idr}
use Rattle.std.proofs.Math.ListN.{get_or-eq_default}
use Rattle.algebra.specs.Residue.{K, red, red_zero}
use Rattle.algebra.specs.Integer.{nat_abs_add}
use Rattle.algebra.specs.Clearing.{Clears}
use Rattle.algebra.proofs.PolyMatrix.{entries as series_entries}
use Rattle.algebra.specs.Step.{once}
use Rattle.rules.specs.Sizes.{most_rows, most_order, most_shift, most_length}
use Rattle.rules.specs.Claim.{Problem}
use Rattle.rules.specs.Matrices.{order, at, matrix_P, product}
use Rattle.rules.specs.Maker.{Chosen, none_taken, take_rows, above, chosen, row_degree_now, basis_after}
use Rattle.laws.specs.Valid.{ValidProblem}
use Rattle.laws.specs.ChosenLaws.{chosen_choice}
use Rattle.laws.specs.ChoiceLocal.{take_rows_cong, depends_zeroed}
use Rattle.laws.specs.MakerLaws.{after_entry_length, after_valid, after_step, after_product, after_degree_step}
use Rattle.layout.specs.Holds.{Each}
use Rattle.pivots.specs.Order.{degree_at}
use Rattle.pivots.specs.Reduced.{all}
use Rattle.pivots.specs.Rows.{Full, number_at, square_of, number_of_residue}
use Rattle.pivots.specs.State.{Chose}
use Rattle.stepping.specs.Next.{coefficient_at, Next}
use Rattle.stepping.specs.Filled.{Kept, Filled, RowsBox}
use Rattle.iteration.specs.NextRows.{next_coefficient}

pub record After (b : Problem) (k : ℕ) (entries products : List ℕ) (degrees : List ℤ) : Type 0 where
  pub entries_kept : Kept b.p entries
  pub products_kept : Kept b.p products
  pub entries_hold : (i j t : ℕ) → i < most_rows → j < most_rows → t < most_length → coefficient_at entries i j t ≡ get_or (at (basis_after b k) i j) t 0
  pub products_hold : (i j t : ℕ) → i < b.m → j < b.n → k ≤ t → t < most_order
      → red b.p (coefficient_at products i j t) ≡ product b (basis_after b k) i j t
  pub degrees_full : length degrees ≡ most_rows
  pub degrees_hold : (i : ℕ) → i < b.m → degree_at degrees i ≡ row_degree_now b (basis_after b k) i
  pub degrees_most : (i : ℕ) → nat_abs (degree_at degrees i) ≤ most_shift + k

-- The residuals at power k of the columns with order above k.
pub record Residuals (m n k : ℕ) (orders products r : List ℕ) : Type 0 where
  pub full : Full r
  pub below : (p : ℕ) → 0 < p → Each p products → Each p r
  pub active : (i j : ℕ) → i < m → j < n → k < get_or orders j 0 → number_at r i j ≡ coefficient_at products i j k
  pub rest : (i j : ℕ) → i < most_rows → j < most_rows → (i < m → j < n → get_or orders j 0 ≤ k) → number_at r i j ≡ 0

-- The degrees of the first m rows are one more where the row moves, and the others stay.
pub record Raised (m : ℕ) (moves : List ℕ) (before after : List ℤ) : Type 0 where
  pub full : length after ≡ most_rows
  pub raised : (i : ℕ) → i < m → get_or moves i 0 ≢ 0 → degree_at after i ≡ degree_at before i +ℤ pos 1
  pub stays : (i : ℕ) → i < m → get_or moves i 0 ≡ 0 → degree_at after i ≡ degree_at before i
  pub rest : (i : ℕ) → m ≤ i → degree_at after i ≡ degree_at before i

module _ (b : Problem) (valid : ValidProblem b) where
  positive : 0 < b.p
  positive = le_of_lt valid.prime.two_le

  -- There is no entry past the rows and the columns, …
  past_rows : (k : ℕ) → k ≤ most_order → (i j : ℕ) → b.m ≤ i → at (basis_after b k) i j ≡ []
  past_rows k small i j h =
      ap (λ row. get_or row j []) (get_or-eq_default (basis_after b k) [] (subst (λ n. n ≤ i) (sym (after_valid b valid k small).P_length) h))

  pub after_outside : (k : ℕ) → k ≤ most_order → (i j : ℕ) → (b.m ≤ i) ⊎ (b.m ≤ j) → at (basis_after b k) i j ≡ []
  after_outside k small i j (inl h) = past_rows k small i j h
  after_outside k small i j (inr h) = elim (dec_lt i b.m) [
    | yes hi ↦ get_or-eq_default (get_or (basis_after b k) i []) [] (subst (λ n. n ≤ j) (sym ((after_valid b valid k small).P_row_length i hi)) h)
    | no ni ↦ past_rows k small i j (omega arith)
  ]

  -- … and no coefficient past the length.
  after_past : (k i j t : ℕ) → suc k ≤ t → get_or (at (basis_after b k) i j) t 0 ≡ 0
  after_past k i j t h = get_or-eq_default (at (basis_after b k) i j) 0 (omega (arith, after_entry_length b valid k i j))

  module _ (k : ℕ) (small : suc k ≤ most_order) (entries products : List ℕ) (degrees : List ℤ) (h : After b k entries products degrees) where
    abbrev P : List (List (List ℕ))
    P = basis_after b k

    abbrev c : Chosen b.p
    c = chosen b k P

    -- What is chosen by the residuals of the arrays is what the maker chooses.
    pub residuals_chosen : (orders r : List ℕ) → ((j : ℕ) → j < b.n → get_or orders j 0 ≡ order b j) → Residuals b.m b.n k orders products r
        → take_rows b.p b.m most_rows all (degree_at degrees) (square_of b.p r) b.m (none_taken b.p) ≡ c
    unfolding chosen
    residuals_chosen orders r same x =
        sym (take_rows_cong b.p b.m b.n most_rows (above b k) all (λ i j. product b P i j k) (square_of b.p r)
        (depends_zeroed b.p b.m b.n most_rows valid.columns_most (above b k) (λ i j. product b P i j k) (square_of b.p r) kept gone)
        (row_degree_now b P) (degree_at degrees) (λ i hi. sym (h.degrees_hold i hi)) b.m (none_taken b.p))
      where
        kept : (i j : ℕ) → i < b.m → j < b.n → above b k j ≡ true → square_of b.p r i j ≡ product b P i j k
        kept i j hi hj t =
            ap (red b.p) (x.active i j hi hj (subst (λ d. k < d) (sym (same j hj)) (ltb-true k (order b j) t)))
            ∙ h.products_hold i j k hi hj (omega arith) (omega arith)

        gone : (i j : ℕ) → i < b.m → j < most_rows → (j < b.n → above b k j ≡ false) → square_of b.p r i j ≡ (K b.p).𝟘
        gone i j hi hj off =
            ap (red b.p) (x.rest i j (lt_of_lt_of_le hi valid.rows_most) hj (λ hi' hn. subst (λ d. d ≤ k) (sym (same j hn)) (at_most (order b j) (off hn))))
            ∙ red_zero b.p
          where
            at_most : (d : ℕ) → ltb k d ≡ false → d ≤ k
            at_most d e = ltb-false k d e

    clears : Clears (K b.p) b.m c.pivot c.multipliers
    unfolding chosen
    clears = (chosen_choice b.p valid.prime b.m b.n (above b k) (row_degree_now b P) (λ i j. product b P i j k)).clears

    module _ (moves factors : List ℕ) (chose : Chose b.p c moves factors) where
      -- P after the step.
      module _ (entries' : List ℕ) (x : Filled b.p (Next b.p b.m entries moves factors) (RowsBox b.m b.m 0 (k + 2)) entries entries') where
        before : (q j t : ℕ) → q < b.m → j < b.m → t < most_length
            → red b.p (coefficient_at entries q j t) ≡ series_entries (K b.p) (matrix_P b P) q j t
        before q j t hq hj ht =
            ap (red b.p) (h.entries_hold q j t (lt_of_lt_of_le hq valid.rows_most) (lt_of_lt_of_le hj valid.rows_most) ht)

        -- A coefficient that the step makes …
        made : (i j t : ℕ) → i < b.m → j < b.m → t < k + 2 → t < most_length
            → coefficient_at entries' i j t ≡ get_or (at (basis_after b (suc k)) i j) t 0
        made i j t hi hj hk ht =
            let hi' : i < most_rows = lt_of_lt_of_le hi valid.rows_most in
            let hj' : j < most_rows = lt_of_lt_of_le hj valid.rows_most in
            number_of_residue b.p (coefficient_at entries' i j t) (get_or (at (basis_after b (suc k)) i j) t 0) positive (x.kept.below _)
            ((after_valid b valid (suc k) small).P_range i j t)
            (next_coefficient b.p b.m valid.rows_most c clears moves factors chose entries (series_entries (K b.p) (matrix_P b P)) i j t
            (coefficient_at entries' i j t) hi (λ e q hq. before q j t hq hj ht) (λ e pt. before i j (t - 1) hi hj (omega arith))
            (x.filled i j t hi' hj' ht
            (record { row_from = omega arith; row_to = hi; column_from = omega arith; column_to = hj; power_from = omega arith; power_to = hk }))
            ∙ ap (λ f. f t) (after_step b valid k i j hi hj))

        -- … and one that stays.
        unmade : (i j t : ℕ) → i < most_rows → j < most_rows → t < most_length → get_or (at (basis_after b k) i j) t 0 ≡ 0
            → get_or (at (basis_after b (suc k)) i j) t 0 ≡ 0 → ¬ RowsBox b.m b.m 0 (k + 2) i j t
            → coefficient_at entries' i j t ≡ get_or (at (basis_after b (suc k)) i j) t 0
        unmade i j t hi hj ht z z' out = x.stays i j t hi hj ht out ∙ h.entries_hold i j t hi hj ht ∙ z ∙ sym z'

        outside : (i j t : ℕ) → i < most_rows → j < most_rows → t < most_length → (b.m ≤ i) ⊎ (b.m ≤ j) → ¬ RowsBox b.m b.m 0 (k + 2) i j t
            → coefficient_at entries' i j t ≡ get_or (at (basis_after b (suc k)) i j) t 0
        outside i j t hi hj ht o = unmade i j t hi hj ht (ap (λ l. get_or l t 0) (after_outside k (omega arith) i j o)) (ap (λ l. get_or l t 0) (after_outside (suc k) small i j o))

        next_entries : (i j t : ℕ) → i < most_rows → j < most_rows → t < most_length
            → coefficient_at entries' i j t ≡ get_or (at (basis_after b (suc k)) i j) t 0
        next_entries i j t hi hj ht = elim (dec_lt i b.m) [
          | no ni ↦ outside i j t hi hj ht (inl (omega arith)) (λ z. ni z.row_to)
          | yes mi ↦ elim (dec_lt j b.m) [
            | no nj ↦ outside i j t hi hj ht (inr (omega arith)) (λ z. nj z.column_to)
            | yes mj ↦ elim (dec_lt t (k + 2)) [
              | yes mt ↦ made i j t mi mj mt ht
              | no nt ↦ unmade i j t hi hj ht (after_past k i j t (omega arith)) (after_past (suc k) i j t (omega arith)) (λ z. nt z.power_to)
            ]
          ]
        ]

      -- The product after the step.
      module _ (products' : List ℕ)
          (x : Filled b.p (Next b.p b.m products moves factors) (RowsBox b.m b.n (k + 1) most_order) products products') where
        next_products : (i j t : ℕ) → i < b.m → j < b.n → suc k ≤ t → t < most_order
            → red b.p (coefficient_at products' i j t) ≡ product b (basis_after b (suc k)) i j t
        unfolding most_order most_length
        next_products i j t hi hj hk ht =
            next_coefficient b.p b.m valid.rows_most c clears moves factors chose products (product b P) i j t (coefficient_at products' i j t) hi
            (λ e q hq. h.products_hold q j t hq hj (omega arith) ht) (λ e pt. h.products_hold i j (t - 1) hi hj (omega arith) (omega arith))
            (x.filled i j t (lt_of_lt_of_le hi valid.rows_most) (lt_of_lt_of_le hj valid.columns_most) (omega arith)
            (record { row_from = omega arith; row_to = hi; column_from = omega arith; column_to = hj; power_from = omega arith; power_to = ht }))
            ∙ sym (after_product b valid k i j t hi)

      -- The degrees after the step.
      module _ (degrees' : List ℤ) (x : Raised b.m moves degrees degrees') where
        next_degrees : (i : ℕ) → i < b.m → degree_at degrees' i ≡ row_degree_now b (basis_after b (suc k)) i
        next_degrees i hi = by (c.pivot i) refl ∙ sym (after_degree_step b valid k small i hi)
          where
            by : (t : Bool) → c.pivot i ≡ t → degree_at degrees' i ≡ row_degree_now b P i +ℤ pos (once (c.pivot i))
            by true e =
                x.raised i hi (λ z. absurd (omega (arith, sym z ∙ chose.moves_is i ∙ ap once e)))
                ∙ ap₂ ◌+ℤ◌ (h.degrees_hold i hi) (ap (λ t. pos (once t)) (sym e))
            by false e =
                x.stays i hi (chose.moves_is i ∙ ap once e)
                ∙ h.degrees_hold i hi
                ∙ sym (ap (λ t. row_degree_now b P i +ℤ pos (once t)) e ∙ +ℤ_idr (row_degree_now b P i))

        next_most : (i : ℕ) → nat_abs (degree_at degrees' i) ≤ most_shift + suc k
        next_most i = elim (dec_lt i b.m) [
          | no ni ↦ subst (λ z. nat_abs z ≤ most_shift + suc k) (sym (x.rest i (omega arith))) (omega (arith, h.degrees_most i))
          | yes hi ↦ by (c.pivot i) refl hi
        ]
          where
            by : (t : Bool) → c.pivot i ≡ t → i < b.m → nat_abs (degree_at degrees' i) ≤ most_shift + suc k
            by true e hi =
                subst (λ z. nat_abs z ≤ most_shift + suc k) (sym (x.raised i hi (λ z. absurd (omega (arith, sym z ∙ chose.moves_is i ∙ ap once e)))))
                (omega (arith, h.degrees_most i, nat_abs_add (degree_at degrees i) (pos 1)))
            by false e hi =
                subst (λ z. nat_abs z ≤ most_shift + suc k) (sym (x.stays i hi (chose.moves_is i ∙ ap once e))) (omega (arith, h.degrees_most i))

      -- All together.
      pub after_next : (entries' products' : List ℕ) (degrees' : List ℤ)
          → Filled b.p (Next b.p b.m entries moves factors) (RowsBox b.m b.m 0 (k + 2)) entries entries'
          → Filled b.p (Next b.p b.m products moves factors) (RowsBox b.m b.n (k + 1) most_order) products products'
          → Raised b.m moves degrees degrees' → After b (suc k) entries' products' degrees'
      after_next entries' products' degrees' x y z = record {
        entries_kept = x.kept;
        products_kept = y.kept;
        entries_hold = next_entries entries' x;
        products_hold = next_products products' y;
        degrees_full = z.full;
        degrees_hold = next_degrees degrees' z;
        degrees_most = next_most degrees' z;
      }
