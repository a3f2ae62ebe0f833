-- The arrays while the rows of a step are taken, and the choice that they reflect.
--   Room, Reflects           what the arrays keep, and what choice they reflect
--   Takes                    a row is taken
--   Pivoted                  the rows that wait are cleared by a pivot
--   Chose                    the arrays of the whole choice
--   reflects_start, reflects_combined, reflects_pivot      before any row is taken, and after one was
use Rattle.std.specs.Prelude.{◌≡◌, ◌≢◌, Bool, true, false, List, ℕ, ◌≤◌, ◌<◌, length, get_or, set}
use Rattle.std.proofs.Math.Path.{refl, sym, ap}
use Rattle.std.proofs.Common.{ap₂, subst, ◌∙◌, le_of_lt, lt_of_lt_of_le, mod-eq_of_lt, arith, length-set, get_or-set_same, get_or-set_other}
use Rattle.std.specs.Prelude.{Option, None, Some}
use Rattle.std.proofs.Math.Decide.{ℕ_discrete, dec_lt}
use Rattle.algebra.specs.Ring as Ring
use Rattle.algebra.specs.Prime.{Prime}
use Rattle.algebra.specs.Residue.{K, red, red_zero, red_one, red_zero_iff}
use Rattle.algebra.proofs.Residue.{K_cancels}
use Rattle.algebra.specs.Sum.{replace, replace_at, replace_other}
use Rattle.algebra.specs.Matrix.{Row, Matrix, unit, unit_diagonal, unit_off}
use Rattle.algebra.specs.Clearing.{less}
use Rattle.algebra.specs.Step.{once}
use Rattle.rules.specs.Sizes.{most_rows}
use Rattle.rules.specs.Inverse.{InverseOf}
use Rattle.rules.specs.Maker.{Chosen, none_taken, find_constants, depends, take_row}
use Rattle.laws.specs.BoolLaws.{false_iff}
use Rattle.laws.specs.FindLaws.{IsCombination, find_constants_found, find_constants_none, find_constants_past, depends_iff, depends_local}
use Rattle.layout.specs.Holds.{Each}
use Rattle.field.specs.Laws.{red_of_inverse}
use Rattle.pivots.specs.Rows.{Full, number_at, square_of, Identity, Copied, Cleared}
use Rattle.pivots.specs.Reduced.{all, Reduced, reduced_start, reduced_cleared, reduced_pivot, combination_found, combination_is}

-- The arrays have the sizes of their types, and numbers below p.
pub record Room (p : ℕ) (moves residuals work factors : List ℕ) : Type 0 where
  pub moves_full : length moves ≡ most_rows
  pub residuals_full : Full residuals
  pub work_full : Full work
  pub factors_full : Full factors
  pub residuals_below : Each p residuals
  pub work_below : Each p work
  pub factors_below : Each p factors

-- A number that inverts the residual of row i in column c, and the rows that wait cleared by row i with it.
pub record Pivoted (p : ℕ) (residuals work : List ℕ) (taken : List Bool) (i c m : ℕ) (residuals' work' : List ℕ) : Type 0 where
  pub v : ℕ
  pub inverse : InverseOf p (number_at residuals i c) v
  pub cleared : Cleared p residuals work taken i c v m residuals' work'

module _ (p m : ℕ) (A : Matrix (K p)) where
  -- The choice c: which rows were taken, which of them are pivots, and the identity less the constants that are subtracted.
  pub record Reflects (c : Chosen p) (taken : List Bool) (moves residuals work factors : List ℕ) : Type 0 where
    pub room : Room p moves residuals work factors
    pub taken_full : length taken ≡ most_rows
    pub taken_is : (i : ℕ) → i < m → get_or taken i false ≡ c.taken i
    pub moves_is : (i : ℕ) → get_or moves i 0 ≡ once (c.pivot i)
    pub pivots_inside : (q : ℕ) → m ≤ q → c.pivot q ≡ false
    pub factors_is : (i q : ℕ) → i < most_rows → q < most_rows → square_of p factors i q ≡ less (K p) c.multipliers i q
    pub column : ℕ → ℕ
    pub reduced : Reduced p m most_rows A c.taken c.pivot column (square_of p residuals) (square_of p work)

-- Row i is taken, and stands in `taken` already.
abbrev pub Takes : (p m i : ℕ) → (taken : List Bool) → (moves residuals work factors moves' residuals' work' factors' : List ℕ) → Type 0
Takes p m i taken moves residuals work factors moves' residuals' work' factors' =
    (A : Matrix (K p)) (c : Chosen p) (before : List Bool) → taken ≡ set before i true → c.taken i ≡ false
    → Reflects p m A c before moves residuals work factors → Reflects p m A (take_row p m most_rows all A i c) taken moves' residuals' work' factors'

-- What the arrays say of the whole choice.
pub record Chose (p : ℕ) (c : Chosen p) (moves factors : List ℕ) : Type 0 where
  pub moves_full : length moves ≡ most_rows
  pub factors_full : Full factors
  pub factors_below : Each p factors
  pub moves_is : (i : ℕ) → get_or moves i 0 ≡ once (c.pivot i)
  pub factors_is : (i q : ℕ) → i < most_rows → q < most_rows → square_of p factors i q ≡ less (K p) c.multipliers i q

module _ (p : ℕ) (prime : Prime p) (m : ℕ) (rows : m ≤ most_rows) (A : Matrix (K p)) where
  open K p use {𝟘, 𝟙, ◌⊕◌, ◌⊗◌, ⊖◌, add_zero}

  infixl 60 ◌⊕◌
  infixl 70 ◌⊗◌
  infix 80 ⊖◌
  positive : 0 < p
  positive = le_of_lt prime.two_le

  -- The identity modulo p.
  identity_is : (l : List ℕ) → Identity most_rows l → (i j : ℕ) → i < most_rows → j < most_rows → square_of p l i j ≡ unit (K p) i j
  identity_is l h i j hi hj = elim (ℕ_discrete i j) [
    | yes e ↦
        ap (λ j. square_of p l i j) (sym e)
        ∙ ap (red p) (h.diagonal i hi)
        ∙ red_one p
        ∙ sym (unit_diagonal (K p) i)
        ∙ ap (unit (K p) i) e
    | no ne ↦ ap (red p) (h.off i j hi hj ne) ∙ red_zero p ∙ sym (unit_off (K p) i j ne)
  ]

  -- Before any row is taken.
  pub reflects_start : (taken : List Bool) (moves residuals work factors : List ℕ) → length taken ≡ most_rows → length moves ≡ most_rows
      → ((i : ℕ) → get_or taken i false ≡ false) → ((i : ℕ) → get_or moves i 0 ≡ 0)
      → Full residuals → Each p residuals → ((i j : ℕ) → i < m → j < most_rows → square_of p residuals i j ≡ A i j)
      → Identity most_rows work → Identity most_rows factors → Reflects p m A (none_taken p) taken moves residuals work factors
  unfolding less
  reflects_start taken moves residuals work factors ht hm zt zm full below same hw hf = record {
    room = record {
      moves_full = hm;
      residuals_full = full;
      work_full = hw.full;
      factors_full = hf.full;
      residuals_below = below;
      work_below = λ k. omega (arith, hw.small k, prime.two_le);
      factors_below = λ k. omega (arith, hf.small k, prime.two_le);
    };
    taken_full = ht;
    taken_is = λ i hi. zt i;
    moves_is = zm;
    pivots_inside = λ q h. refl;
    factors_is = λ i q hi hq.
        identity_is factors hf i q hi hq
        ∙ sym (ap (λ x. unit (K p) i q ⊕ ⊖ x) (red_zero p) ∙ ap (λ x. unit (K p) i q ⊕ x) (Ring.neg_zero (K p)) ∙ add_zero (unit (K p) i q));
    column = λ i. 0;
    reduced = reduced_start p m most_rows A (λ i. 0) (square_of p residuals) (square_of p work) same
        (λ k q hk hq. identity_is work hw k q (lt_of_lt_of_le hk rows) hq) rows;
  }

  -- A store at i of what stands for true, where a function is replaced by true.
  marked : {A : Type 0} (of : Bool → A) (d : A) (l : List A) (f : ℕ → Bool) (i a : ℕ) → i < length l → get_or l a d ≡ of (f a)
      → get_or (set l i (of true)) a d ≡ of (replace i true f a)
  marked of d l f i a inside e = elim (ℕ_discrete a i) [
    | yes z ↦
        ap (λ a. get_or (set l i (of true)) a d) z
        ∙ get_or-set_same l i (of true) d inside
        ∙ sym (ap of (ap (replace i true f) z ∙ replace_at i true f))
    | no ne ↦ get_or-set_other l i a (of true) d ne ∙ e ∙ sym (ap of (replace_other i true f a ne))
  ]

  module _ (c : Chosen p) (taken : List Bool) (moves residuals work factors : List ℕ) (h : Reflects p m A c taken moves residuals work factors)
      (i : ℕ) (hi : i < m) (waits : c.taken i ≡ false) where
    inside : i < most_rows
    inside = lt_of_lt_of_le hi rows

    abbrev test : Row (K p) → Bool
    test = depends p m most_rows all A c.pivot i

    -- The constants that are found are those that T says, in every column.
    found_is : (u : Row (K p)) → find_constants p m test ≡ Some u → (q : ℕ) → q < most_rows → square_of p work i q ≡ less (K p) (λ k. u) i q
    unfolding less
    found_is u e q hq = elim (dec_lt q m) [
      | yes hm ↦
          (combination_is p m most_rows A c.taken c.pivot h.column (square_of p residuals) (square_of p work) h.reduced rows i hi waits u
          ((depends_iff p m most_rows all A c.pivot i u).0 (find_constants_found p m test u e))).0 q hm
      | no nm ↦
          (h.reduced.waiting i hi waits).alone q hq (h.pivots_inside q (omega arith)) (λ z. absurd (omega arith))
          ∙ sym (ap₂ (λ x y. x ⊕ ⊖ y) (unit_off (K p) i q (λ z. absurd (omega arith))) (find_constants_past p m test u e q (omega arith) ∙ red_zero p)
          ∙ ap (λ x. 𝟘 ⊕ x) (Ring.neg_zero (K p))
          ∙ add_zero 𝟘)
    ]

    -- Row i was cleared to zero: its combination is copied.
    pub reflects_combined : (factors' : List ℕ) → ((j : ℕ) → j < most_rows → number_at residuals i j ≡ 0) → Copied factors work i most_rows factors'
        → Reflects p m A (take_row p m most_rows all A i c) (set taken i true) moves residuals work factors'
    unfolding take_row less
    reflects_combined factors' zeros copied = by (find_constants p m test) refl
      where
        found : IsCombination p m most_rows all A c.pivot i (λ q. unit (K p) i q ⊕ ⊖ square_of p work i q)
        found =
            combination_found p m most_rows A c.taken c.pivot h.column (square_of p residuals) (square_of p work) h.reduced rows i hi waits
            (λ j hj. ap (red p) (zeros j hj) ∙ red_zero p)

        now_factors : (u : Row (K p)) → find_constants p m test ≡ Some u → (a q : ℕ) → a < most_rows → q < most_rows
            → square_of p factors' a q ≡ unit (K p) a q ⊕ ⊖ replace i u c.multipliers a q
        now_factors u e a q ha hq = elim (ℕ_discrete a i) [
          | yes z ↦
              ap (λ a. square_of p factors' a q) z
              ∙ ap (red p) (copied.copied q hq)
              ∙ found_is u e q hq
              ∙ sym (ap (λ a. unit (K p) a q ⊕ ⊖ replace i u c.multipliers a q) z ∙ ap (λ w. unit (K p) i q ⊕ ⊖ w q) (replace_at i u c.multipliers))
          | no ne ↦
              ap (red p) (copied.stays a q hq (λ z. absurd (ne z)))
              ∙ h.factors_is a q ha hq
              ∙ sym (ap (λ w. unit (K p) a q ⊕ ⊖ w q) (replace_other i u c.multipliers a ne))
        ]

        by : (o : Option (Row (K p))) → find_constants p m test ≡ o → Reflects p m A (elim o [
          | Some u ↦ record { taken = replace i true c.taken; pivot = c.pivot; multipliers = replace i u c.multipliers }
          | None ↦ record { taken = replace i true c.taken; pivot = replace i true c.pivot; multipliers = c.multipliers }
        ]) (set taken i true) moves residuals work factors'
        by None e = absurd ((false_iff _).0
            (find_constants_none p positive m test (depends_local p m most_rows all A c.pivot i) e (λ q. unit (K p) i q ⊕ ⊖ square_of p work i q))
            ((depends_iff p m most_rows all A c.pivot i (λ q. unit (K p) i q ⊕ ⊖ square_of p work i q)).1 found))
        by (Some u) e = record {
          room = record {
            moves_full = h.room.moves_full;
            residuals_full = h.room.residuals_full;
            work_full = h.room.work_full;
            factors_full = copied.full;
            residuals_below = h.room.residuals_below;
            work_below = h.room.work_below;
            factors_below = copied.below p h.room.factors_below h.room.work_below;
          };
          taken_full = length-set taken i true ∙ h.taken_full;
          taken_is = λ a ha. marked (λ t. t) false taken c.taken i a (subst (λ n. i < n) (sym h.taken_full) inside) (h.taken_is a ha);
          moves_is = h.moves_is;
          pivots_inside = h.pivots_inside;
          factors_is = now_factors u e;
          column = h.column;
          reduced = reduced_cleared p m most_rows A c.taken c.pivot h.column (square_of p residuals) (square_of p work) h.reduced rows i hi waits;
        }

    -- Row i is a pivot, by its residual in column k: the rows that wait are cleared.
    pub reflects_pivot : (k : ℕ) (residuals' work' : List ℕ) → k < most_rows → number_at residuals i k ≢ 0
        → Pivoted p residuals work (set taken i true) i k m residuals' work'
        → Reflects p m A (take_row p m most_rows all A i c) (set taken i true) (set moves i 1) residuals' work' factors
    unfolding take_row
    reflects_pivot k residuals' work' hk nonzero x = by (find_constants p m test) refl
      where
        residual_nonzero : square_of p residuals i k ≢ 𝟘
        residual_nonzero z =
            nonzero (sym (mod-eq_of_lt (h.room.residuals_below _)) ∙ (red_zero_iff p positive (number_at residuals i k)).0 z)

        now_taken : (a : ℕ) → a < m → get_or (set taken i true) a false ≡ replace i true c.taken a
        now_taken a ha = marked (λ t. t) false taken c.taken i a (subst (λ n. i < n) (sym h.taken_full) inside) (h.taken_is a ha)

        now_reduced : Reduced p m most_rows A (replace i true c.taken) (replace i true c.pivot) (replace i k h.column)
            (square_of p residuals') (square_of p work')
        now_reduced =
            reduced_pivot p m most_rows A c.taken c.pivot h.column (square_of p residuals) (square_of p work) h.reduced rows i hi waits k hk
            (red p x.v) (red_of_inverse p prime (number_at residuals i k) x.v x.inverse) residual_nonzero (K_cancels p prime)
            (square_of p residuals') (square_of p work')
            (λ a j ha hj w. x.cleared.residuals_less a j ha hj (now_taken a ha ∙ w))
            (λ a q ha hq w. x.cleared.work_less a q ha hq (now_taken a ha ∙ w))

        by : (o : Option (Row (K p))) → find_constants p m test ≡ o → Reflects p m A (elim o [
          | Some u ↦ record { taken = replace i true c.taken; pivot = c.pivot; multipliers = replace i u c.multipliers }
          | None ↦ record { taken = replace i true c.taken; pivot = replace i true c.pivot; multipliers = c.multipliers }
        ]) (set taken i true) (set moves i 1) residuals' work' factors
        by (Some u) e = absurd (residual_nonzero
            ((combination_is p m most_rows A c.taken c.pivot h.column (square_of p residuals) (square_of p work) h.reduced rows i hi waits u
            ((depends_iff p m most_rows all A c.pivot i u).0 (find_constants_found p m test u e))).1 k hk))
        by None e = record {
          room = record {
            moves_full = length-set moves i 1 ∙ h.room.moves_full;
            residuals_full = x.cleared.residuals_full;
            work_full = x.cleared.work_full;
            factors_full = h.room.factors_full;
            residuals_below = x.cleared.residuals_below;
            work_below = x.cleared.work_below;
            factors_below = h.room.factors_below;
          };
          taken_full = length-set taken i true ∙ h.taken_full;
          taken_is = now_taken;
          moves_is = λ a. marked once 0 moves c.pivot i a (subst (λ n. i < n) (sym h.room.moves_full) inside) (h.moves_is a);
          pivots_inside = λ q hq. replace_other i true c.pivot q (λ z. absurd (omega arith)) ∙ h.pivots_inside q hq;
          factors_is = h.factors_is;
          column = replace i k h.column;
          reduced = now_reduced;
        }
