-- What the functions of a step leave.
--   residual_number, residuals_of      one residual, and all of them
--   raising_start, raising_more, raising_passed         the degrees, row by row
--   Steps                    a step of the code is a step of the maker
use Rattle.std.specs.Prelude.{◌≡◌, refl, ◌≢◌, Bool, List, ℕ, suc, ◌+◌, ◌/◌, ◌%◌, ◌≤◌, ◌<◌, leb, ℤ, pos, nat_abs, ◌+ℤ◌, length, get_or, set}
use Rattle.std.proofs.Common.{sym, ap₂, subst, ◌∙◌, arith, below_more, le-leb, length-set, get_or-set_same, get_or-set_other}
use Rattle.std.proofs.Math.Path.{ap}
use Rattle.std.proofs.Math.Logic.{by_cases}
use Rattle.std.proofs.Math.Bool.{true, false, cond}
use Rattle.std.proofs.Math.Decide.{ℕ_discrete, dec_lt}
use Rattle.std.proofs.lemmas.Bool.{lt-leb}
use Rattle.rules.specs.Sizes.{most_rows, most_order, most_shift}
use Rattle.laws.specs.Valid.{ValidProblem}
use Rattle.layout.specs.Flat.{square, square_place}
use Rattle.layout.specs.Holds.{Each}
use Rattle.claim.specs.declared.Head.{Head}
use Rattle.claim.specs.Claims.{problem_of}
use Rattle.pivots.specs.Order.{Small, degree_at}
use Rattle.pivots.specs.Rows.{Full, number_at, each_set, place_inside, row_of_place, column_of_place}
use Rattle.stepping.specs.Next.{coefficient_at}
use Rattle.iteration.specs.After.{After, Residuals, Raised}

-- The residual of row i at power k in column j, 0 where the row or the column is not there or the column's order is not above k.
unfoldable pub residual_number : (m n : ℕ) → (orders products : List ℕ) → (i j k : ℕ) → ℕ
residual_number m n orders products i j k =
    cond (leb m i) 0 (cond (leb n j) 0 (cond (leb (get_or orders j 0) k) 0 (coefficient_at products i j k)))

module _ (m n : ℕ) (orders products : List ℕ) (i j k : ℕ) where
  pub residual_row_past : m ≤ i → residual_number m n orders products i j k ≡ 0
  unfolding residual_number
  residual_row_past h = ap (λ t. cond t 0 (cond (leb n j) 0 (cond (leb (get_or orders j 0) k) 0 (coefficient_at products i j k)))) (le-leb m i h)

  pub residual_column_past : i < m → n ≤ j → residual_number m n orders products i j k ≡ 0
  unfolding residual_number
  residual_column_past hi h =
      ap (λ t. cond t 0 (cond (leb n j) 0 (cond (leb (get_or orders j 0) k) 0 (coefficient_at products i j k)))) (lt-leb m i hi)
      ∙ ap (λ t. cond t 0 (cond (leb (get_or orders j 0) k) 0 (coefficient_at products i j k))) (le-leb n j h)

  inside : i < m → j < n → residual_number m n orders products i j k ≡ cond (leb (get_or orders j 0) k) 0 (coefficient_at products i j k)
  unfolding residual_number
  inside hi hj =
      ap (λ t. cond t 0 (cond (leb n j) 0 (cond (leb (get_or orders j 0) k) 0 (coefficient_at products i j k)))) (lt-leb m i hi)
      ∙ ap (λ t. cond t 0 (cond (leb (get_or orders j 0) k) 0 (coefficient_at products i j k))) (lt-leb n j hj)

  pub residual_finished : i < m → j < n → get_or orders j 0 ≤ k → residual_number m n orders products i j k ≡ 0
  residual_finished hi hj h = inside hi hj ∙ ap (λ t. cond t 0 (coefficient_at products i j k)) (le-leb (get_or orders j 0) k h)

  pub residual_active : i < m → j < n → k < get_or orders j 0 → residual_number m n orders products i j k ≡ coefficient_at products i j k
  residual_active hi hj h = inside hi hj ∙ ap (λ t. cond t 0 (coefficient_at products i j k)) (lt-leb (get_or orders j 0) k h)

  pub residual_below : (p : ℕ) → 0 < p → Each p products → residual_number m n orders products i j k < p
  unfolding residual_number
  residual_below p positive each =
      smaller (leb m i) (cond (leb n j) 0 (cond (leb (get_or orders j 0) k) 0 (coefficient_at products i j k)))
      (smaller (leb n j) (cond (leb (get_or orders j 0) k) 0 (coefficient_at products i j k))
      (smaller (leb (get_or orders j 0) k) (coefficient_at products i j k) (each _)))
    where
      smaller : (t : Bool) (x : ℕ) → x < p → cond t 0 x < p
      smaller true x h = positive
      smaller false x h = h

module _ (m n k : ℕ) (orders products : List ℕ) where
  -- The first c numbers of the square are residuals.
  pub record Looked (c : ℕ) (r : List ℕ) : Type 0 where
    pub full : Full r
    pub below : (p : ℕ) → 0 < p → Each p products → Each p r
    pub looked : (a : ℕ) → a < c → get_or r a 0 ≡ residual_number m n orders products (a / most_rows) (a % most_rows) k

  pub looked_start : (r : List ℕ) → Full r → ((a : ℕ) → get_or r a 0 ≡ 0) → Looked 0 r
  looked_start r full zeros = record {
    full = full;
    below = λ p positive each a. omega (arith, zeros a);
    looked = λ a h. absurd (omega arith);
  }

  pub looked_more : (c : ℕ) (r : List ℕ) (x : ℕ) → c < square → x ≡ residual_number m n orders products (c / most_rows) (c % most_rows) k
      → Looked c r → Looked (c + 1) (set r c x)
  looked_more c r x hc e so_far = record {
    full = length-set r c x ∙ so_far.full;
    below = λ p positive each. each_set p r c x inside (so_far.below p positive each)
        (subst (λ y. y < p) (sym e) (residual_below m n orders products (c / most_rows) (c % most_rows) k p positive each));
    looked = below_more (λ a. get_or (set r c x) a 0 ≡ residual_number m n orders products (a / most_rows) (a % most_rows) k) c
        (λ a h. get_or-set_other r c a x 0 (λ z. absurd (omega arith)) ∙ so_far.looked a h) (get_or-set_same r c x 0 inside ∙ e);
  }
    where
      inside : c < length r
      inside = subst (λ n. c < n) (sym so_far.full) hc

  pub residuals_of : (r : List ℕ) → m ≤ most_rows → n ≤ most_rows → Looked square r → Residuals m n k orders products r
  residuals_of r hm hn h = record {
    full = h.full;
    below = h.below;
    active = λ i j hi hj ho. at i j (omega arith) (omega arith) ∙ residual_active m n orders products i j k hi hj ho;
    rest = λ i j hi hj off. at i j hi hj ∙ by_cases (dec_lt i m)
        (λ mi. by_cases (dec_lt j n)
        (λ mj. residual_finished m n orders products i j k mi mj (off mi mj))
        (λ nj. residual_column_past m n orders products i j k mi (omega arith)))
        (λ ni. residual_row_past m n orders products i j k (omega arith));
  }
    where
      at : (i j : ℕ) → i < most_rows → j < most_rows → number_at r i j ≡ residual_number m n orders products i j k
      at i j hi hj =
          h.looked (square_place i j) (place_inside i j hi hj)
          ∙ ap₂ (λ x y. residual_number m n orders products x y k) (row_of_place i j hj) (column_of_place i j hj)

-- THE DEGREES

module _ (moves : List ℕ) (before : List ℤ) where
  -- Those of the first i rows are raised.
  pub record Raising (i : ℕ) (after : List ℤ) : Type 0 where
    pub full : length after ≡ most_rows
    pub raised : (a : ℕ) → a < i → get_or moves a 0 ≢ 0 → degree_at after a ≡ degree_at before a +ℤ pos 1
    pub stays : (a : ℕ) → a < i → get_or moves a 0 ≡ 0 → degree_at after a ≡ degree_at before a
    pub rest : (a : ℕ) → i ≤ a → degree_at after a ≡ degree_at before a

  pub raising_start : length before ≡ most_rows → Raising 0 before
  raising_start full = record { full = full; raised = λ a h. absurd (omega arith); stays = λ a h. absurd (omega arith); rest = λ a h. refl }

  module _ (i : ℕ) (after : List ℤ) (so_far : Raising i after) where
    pub raising_more : (x : ℤ) → i < most_rows → get_or moves i 0 ≢ 0 → x ≡ degree_at after i +ℤ pos 1 → Raising (i + 1) (set after i x)
    raising_more x hi ne e = record {
      full = length-set after i x ∙ so_far.full;
      raised = λ a h n. by_cases (ℕ_discrete a i)
          (λ z. ap (λ a. degree_at (set after i x) a) z ∙ get_or-set_same after i x (pos 0) inside ∙ e ∙ ap (λ y. y +ℤ pos 1) (so_far.rest i (omega arith))
          ∙ ap (λ a. degree_at before a +ℤ pos 1) (sym z))
          (λ z. get_or-set_other after i a x (pos 0) z ∙ so_far.raised a (omega arith) n);
      stays = λ a h s. by_cases (ℕ_discrete a i)
          (λ z. absurd (ne (ap (λ a. get_or moves a 0) (sym z) ∙ s)))
          (λ z. get_or-set_other after i a x (pos 0) z ∙ so_far.stays a (omega arith) s);
      rest = λ a h. get_or-set_other after i a x (pos 0) (λ z. absurd (omega arith)) ∙ so_far.rest a (omega arith);
    }
      where
        inside : i < length after
        inside = subst (λ n. i < n) (sym so_far.full) hi

    pub raising_passed : get_or moves i 0 ≡ 0 → Raising (i + 1) after
    raising_passed s = record {
      full = so_far.full;
      raised = λ a h n. by_cases (ℕ_discrete a i) (λ z. absurd (n (ap (λ a. get_or moves a 0) z ∙ s))) (λ z. so_far.raised a (omega arith) n);
      stays = λ a h t. by_cases (ℕ_discrete a i) (λ z. so_far.rest a (omega arith)) (λ z. so_far.stays a (omega arith) t);
      rest = λ a h. so_far.rest a (omega arith);
    }

  pub raised_all : (m : ℕ) (after : List ℤ) → Raising m after → Raised m moves before after
  raised_all m after h = record { full = h.full; raised = h.raised; stays = h.stays; rest = h.rest }

-- Degrees of at most the largest shift and order fit.
pub small_degrees : (k : ℕ) (degrees : List ℤ) → k ≤ most_order → ((i : ℕ) → nat_abs (degree_at degrees i) ≤ most_shift + k) → Small degrees
unfolding most_order most_shift
small_degrees k degrees h most i = omega (arith, most i)

-- A step of the code is a step of the maker, whatever F is.
abbrev pub Steps : Head → ℕ → (entries products : List ℕ) → List ℤ → (entries' products' : List ℕ) → List ℤ → Type 0
Steps head k entries products degrees entries' products' degrees' =
    (f : List ℕ) → ValidProblem (problem_of head f) → After (problem_of head f) k entries products degrees
    → After (problem_of head f) (suc k) entries' products' degrees'
