-- The problem cut to the steps done, in arrays.
--   cut_orders, cut_number, cut_columns, cut_head, cut_arrays    its orders, the coefficients of F, the numbers beside F, and all
--   Cutting, cutting_all     lists that are changed number by number
--   largest_is               the largest order
--   cut_sound                what the code asks of them: cut_head_sound, cut_columns_sound
--   cut_means                the problem that they stand for: cut_is
--   done_is                  the steps done
use Rattle.std.specs.Prelude.{◌≡◌, refl, Bool, ltb, length, take}
use Rattle.std.proofs.Common.{sym, ◌∙◌, le_of_suc-le-suc, zero-lt-suc, arith, lt-ltb, le-ltb}
use Rattle.std.proofs.Math.Path.{ap, ap₂}
use Rattle.std.proofs.Math.Logic.{by_cases}
use Rattle.std.proofs.Math.Bool.{true, false, cond}
use mathlib.Core.List.{List, [], ◌∷◌}
use Prim.Native.Nat.{ℕ, zero, suc, min, max, ◌%◌, ◌≤◌, ◌<◌, zero-le, suc-le-suc}
use Rattle.std.proofs.Math.Nat.{le_of_lt, lt_of_lt_of_le}
use Rattle.std.proofs.Math.Decide.{dec_lt}
use Rattle.std.proofs.Math.ListN.{get_or}
use Rattle.std.specs.List.{fold, reduce}
use Rattle.std.proofs.lemmas.List.{map-id}
use Rattle.std.specs.Option.{unwrap_or}
use Rattle.std.specs.Ordering.{nat_cmp, max_by_ordering}
use Rattle.std.proofs.lemmas.List.Folds.{max_of_map}
use Rattle.rules.specs.Sizes.{most_rows, most_order}
use Rattle.rules.specs.Matrices.{order, at}
use Rattle.rules.specs.Conditions.{max_below}
use Rattle.rules.specs.Table.{table, get_or_table, table_all, table_cong, table_ext}
use Rattle.rules.specs.Maker.{steps_done, cut_problem}
use Rattle.layout.specs.Flat.{column_coefficients, column_place, column_cell, column_cell_at, column_cell_past}
use Rattle.layout.specs.Holds.{Each}
use Rattle.claim.specs.declared.Head.{Head}
use Rattle.claim.specs.declared.Problem.{Problem as ProblemArrays}
use Rattle.claim.specs.Claims.{orders_of, columns_of, problem_of, problem_in}
use Rattle.claim.specs.Sound.{SoundHead, SoundColumns, SoundProblem}
use Rattle.claim.specs.Holds.{holds_orders}

unfoldable pub cut_orders : List ℕ → ℕ → List ℕ
cut_orders orders done = table most_rows (λ j. min (get_or orders j 0) done)

abbrev pub cut_number : List ℕ → ℕ → ℕ → ℕ
cut_number f done a = cond (ltb (a % most_order) done) (get_or f a 0) 0

unfoldable pub cut_columns : List ℕ → ℕ → List ℕ
cut_columns f done = table column_coefficients (cut_number f done)

abbrev pub cut_head : Head → ℕ → Head
cut_head head done = record { p = head.p; m = head.m; n = head.n; orders = cut_orders head.orders done; shifts = head.shifts }

abbrev pub cut_arrays : ProblemArrays → ℕ → ProblemArrays
cut_arrays b done = record { head = cut_head b.head done; f = cut_columns b.f done }

-- LISTS THAT ARE CHANGED NUMBER BY NUMBER

-- Of a list of n numbers the first k were changed by g.
pub record Cutting (n : ℕ) (g : ℕ → ℕ) (before : List ℕ) (k : ℕ) (after : List ℕ) : Type 0 where
  pub full : length after ≡ n
  pub changed : (a : ℕ) → a < k → get_or after a 0 ≡ g a
  pub same : (a : ℕ) → k ≤ a → get_or after a 0 ≡ get_or before a 0

module _ (n : ℕ) (g : ℕ → ℕ) (before : List ℕ) where
  pub cutting_all : (k : ℕ) (after : List ℕ) → n ≤ k → Cutting n g before k after → after ≡ table n g
  cutting_all k after all h = table_ext n g 0 after h.full (λ a ha. h.changed a (omega arith))

-- THE LARGEST ORDER

largest_from : (a n : ℕ) (xs : List ℕ) → n ≤ length xs → fold (λ b x. max b x) a (take n xs) ≡ max a (max_below n (λ j. get_or xs j 0))
unfolding max_below
largest_from a zero xs h = omega arith
largest_from a (suc n) [] h = absurd (omega arith)
largest_from a (suc n) (x ∷ xs) h = largest_from (max a x) n xs (le_of_suc-le-suc h) ∙ omega arith

-- The library's way to the largest of the first n numbers.
pub largest_is : (n : ℕ) (xs : List ℕ) → n ≤ length xs
    → unwrap_or (reduce (λ p z. max_by_ordering (nat_cmp p z) p z) (take n xs)) 0 ≡ max_below n (λ j. get_or xs j 0)
largest_is n xs h =
    ap (λ l. unwrap_or (reduce (λ p z. max_by_ordering (nat_cmp p z) p z) l) 0) (sym (map-id (take n xs)))
    ∙ max_of_map (λ x. x) (take n xs)
    ∙ largest_from 0 n xs h
    ∙ omega arith

max_below_cong : (n : ℕ) (f g : ℕ → ℕ) → ((i : ℕ) → i < n → f i ≡ g i) → max_below n f ≡ max_below n g
unfolding max_below
max_below_cong zero f g h = refl
max_below_cong (suc n) f g h = ap₂ max (h zero (zero-lt-suc n)) (max_below_cong n (λ i. f (suc i)) (λ i. g (suc i)) (λ i b. h (suc i) (suc-le-suc b)))

-- THE CUT PROBLEM

take_table : {A : Type 0} (k n : ℕ) (g : ℕ → A) → k ≤ n → take k (table n g) ≡ table k g
unfolding table
take_table zero n g h = refl
take_table (suc k) zero g h = absurd (omega arith)
take_table (suc k) (suc n) g h = ap (λ l. g zero ∷ l) (take_table k n (λ i. g (suc i)) (le_of_suc-le-suc h))

column_inside : (i j t : ℕ) → i < most_rows → j < most_rows → t < most_order → column_place i j t < column_coefficients
unfolding column_place most_rows most_order
column_inside i j t hi hj ht = omega arith

column_power : (i j t : ℕ) → t < most_order → column_place i j t % most_order ≡ t
unfolding column_place most_rows most_order
column_power i j t ht = omega arith

-- A coefficient of the cut F.
cut_cell : (f : List ℕ) (done i j t : ℕ) → i < most_rows → j < most_rows
    → column_cell (cut_columns f done) i j t ≡ cond (ltb t done) (column_cell f i j t) 0
unfolding cut_columns
cut_cell f done i j t hi hj = by_cases (dec_lt t most_order)
    (λ h.
    column_cell_at (cut_columns f done) i j t h
    ∙ get_or_table column_coefficients (λ a. cond (ltb (a % most_order) done) (get_or f a 0) 0) 0 (column_place i j t) (column_inside i j t hi hj h)
    ∙ ap₂ (λ x y. cond (ltb x done) y 0) (column_power i j t h) (sym (column_cell_at f i j t h)))
    (λ nh.
    column_cell_past (cut_columns f done) i j t (omega arith)
    ∙ sym (either (ltb t done))
    ∙ sym (ap (λ y. cond (ltb t done) y 0) (column_cell_past f i j t (omega arith))))
  where
    either : (b : Bool) → ◌≡◌ {A = ℕ} (cond b 0 0) 0
    either true = refl
    either false = refl

module _ (head : Head) (f : List ℕ) (done : ℕ) (sound_head : SoundHead head) (sound_columns : SoundColumns head f) where
  -- An order of the cut problem.
  cut_order_at : (j : ℕ) → j < most_rows → get_or (cut_orders head.orders done) j 0 ≡ min (get_or head.orders j 0) done
  unfolding cut_orders
  cut_order_at j hj = get_or_table most_rows (λ j. min (get_or head.orders j 0) done) 0 j hj

  pub cut_head_sound : SoundHead (cut_head head done)
  unfolding cut_orders
  cut_head_sound = record {
    prime = sound_head.prime;
    prime_most = sound_head.prime_most;
    rows_least = sound_head.rows_least;
    rows_most = sound_head.rows_most;
    columns_most = sound_head.columns_most;
    orders_most = λ j. table_all most_rows (λ j. min (get_or head.orders j 0) done) 0 (λ d. d ≤ most_order) zero-le (λ j. omega (arith, sound_head.orders_most j)) j;
    shifts_most = sound_head.shifts_most;
  }

  cut_below : Each head.p (cut_columns f done)
  unfolding cut_columns
  cut_below a =
      table_all column_coefficients (λ a. cond (ltb (a % most_order) done) (get_or f a 0) 0) 0 (λ x. x < head.p) (le_of_lt sound_head.prime.two_le)
      (λ a. either (ltb (a % most_order) done) (get_or f a 0) (sound_columns.F_below a)) a
    where
      either : (t : Bool) (x : ℕ) → x < head.p → cond t x 0 < head.p
      either true x h = h
      either false x h = le_of_lt sound_head.prime.two_le

  pub cut_columns_sound : SoundColumns (cut_head head done) (cut_columns f done)
  cut_columns_sound = record { F_below = cut_below; F_ends = λ i j k hi hj h. ends i j k (inside_rows hi) (inside_columns hj) hi hj h }
    where
      inside_rows : {i : ℕ} → i < head.m → i < most_rows
      inside_rows h = lt_of_lt_of_le h sound_head.rows_most

      inside_columns : {j : ℕ} → j < head.n → j < most_rows
      inside_columns h = lt_of_lt_of_le h sound_head.columns_most

      ends : (i j k : ℕ) → i < most_rows → j < most_rows → i < head.m → j < head.n → get_or (cut_orders head.orders done) j 0 ≤ k
          → column_cell (cut_columns f done) i j k ≡ 0
      ends i j k hi hj mi mj h = cut_cell f done i j k hi hj ∙ by_cases (dec_lt k done)
          (λ l. ap (λ t. cond t (column_cell f i j k) 0) (lt-ltb k done l) ∙ sound_columns.F_ends i j k mi mj (omega (arith, cut_order_at j hj)))
          (λ nl. ap (λ t. cond t (column_cell f i j k) 0) (le-ltb k done (omega arith)))

  -- The problem that the cut arrays stand for.
  pub cut_is : problem_of (cut_head head done) (cut_columns f done) ≡ cut_problem (problem_of head f) done
  unfolding cut_problem orders_of columns_of
  cut_is = ap₂ (λ (o : List ℕ) (c : List (List (List ℕ))). record { p = head.p; m = head.m; n = head.n; orders = o; shifts = (problem_of head f).shifts; F = c }) orders_are columns_are
    where
      inside_columns : {j : ℕ} → j < head.n → j < most_rows
      inside_columns h = lt_of_lt_of_le h sound_head.columns_most

      order_is : (j : ℕ) → j < head.n → get_or (cut_orders head.orders done) j 0 ≡ min (order (problem_of head f) j) done
      order_is j hj = cut_order_at j (inside_columns hj) ∙ ap (λ d. min d done) (holds_orders head f j hj)

      orders_are : table head.n (λ j. get_or (cut_orders head.orders done) j 0) ≡ table head.n (λ j. min (order (problem_of head f) j) done)
      orders_are = table_cong head.n _ _ order_is

      entry_is : (i j : ℕ) → i < head.m → j < head.n
          → table (get_or (cut_orders head.orders done) j 0) (column_cell (cut_columns f done) i j)
          ≡ take (min (order (problem_of head f) j) done) (at (problem_of head f).F j i)
      entry_is i j hi hj =
          ap (λ d. table d (column_cell (cut_columns f done) i j)) (order_is j hj)
          ∙ table_cong (min (order (problem_of head f) j) done) _ _ (λ t ht.
          cut_cell f done i j t (lt_of_lt_of_le hi sound_head.rows_most) (inside_columns hj) ∙ ap (λ x. cond x (column_cell f i j t) 0) (lt-ltb t done (omega arith)))
          ∙ sym (take_table (min (order (problem_of head f) j) done) (order (problem_of head f) j) (column_cell f i j) (omega arith))
          ∙ sym (ap (take (min (order (problem_of head f) j) done)) (column_at i j hi hj))
        where
          column_at : (i j : ℕ) → i < head.m → j < head.n → at (problem_of head f).F j i ≡ table (order (problem_of head f) j) (column_cell f i j)
          column_at i j hi hj =
              ap (λ l. get_or l i []) (get_or_table head.n (λ j. table head.m (λ i. table (get_or head.orders j 0) (column_cell f i j))) [] j hj)
              ∙ get_or_table head.m (λ i. table (get_or head.orders j 0) (column_cell f i j)) [] i hi
              ∙ ap (λ d. table d (column_cell f i j)) (holds_orders head f j hj)

      columns_are : table head.n (λ j. table head.m (λ i. table (get_or (cut_orders head.orders done) j 0) (column_cell (cut_columns f done) i j)))
          ≡ table head.n (λ j. table head.m (λ i. take (min (order (problem_of head f) j) done) (at (problem_of head f).F j i)))
      columns_are = table_cong head.n _ _ (λ j hj. table_cong head.m _ _ (λ i hi. entry_is i j hi hj))

  -- The steps done.
  pub done_is : (steps : ℕ) → min steps (max_below head.n (λ j. get_or head.orders j 0)) ≡ steps_done (problem_of head f) steps
  unfolding steps_done
  done_is steps = ap (min steps) (max_below_cong head.n (λ j. get_or head.orders j 0) (order (problem_of head f)) (holds_orders head f))

-- What the code asks of the cut problem, and what it stands for.
module _ (b : ProblemArrays) (done : ℕ) (sound : SoundProblem b) where
  pub cut_sound : SoundProblem (cut_arrays b done)
  cut_sound = record {
    sound_head = cut_head_sound b.head b.f done sound.sound_head sound.sound_columns;
    sound_columns = cut_columns_sound b.head b.f done sound.sound_head sound.sound_columns;
  }

  pub cut_means : problem_in (cut_arrays b done) ≡ cut_problem (problem_in b) done
  cut_means = cut_is b.head b.f done sound.sound_head sound.sound_columns
