-- What was read, in arrays, stands for itself, and is sound.
--   problem_stands, sound_head_of, sound_columns_of        a problem
--   Exact b head f, exact_of                               and every number of its arrays, also where it has nothing
--   basis_stands, sound_basis_of                           P
--   constants_stands, constants_below                      C
use Rattle.std.specs.Prelude.{◌≡◌, refl, Bool, cond, ℕ, ◌≤◌, ◌<◌, ltb, pos, nat_abs, length, get_or}
use Rattle.std.proofs.Math.Path.{sym}
use Rattle.std.proofs.Common.{ap, subst, ◌∙◌, arith, lt-ltb, le-ltb}
use mathlib.Core.List.{List, []}
use Rattle.std.proofs.Math.Decide.{dec_lt}
use Rattle.std.proofs.Math.ListN.{get_or-eq_default}
use Rattle.rules.specs.Sizes.{most_rows, most_order, most_shift, most_length}
use Rattle.rules.specs.Claim.{Problem}
use Rattle.rules.specs.Matrices.{order, shift, at}
use Rattle.rules.specs.Table.{table_ext}
use Rattle.laws.specs.Valid.{ValidProblem, ValidBasis}
use Rattle.layout.specs.Flat.{square_place, length_at, shift_at, cell, column_cell}
use Rattle.layout.specs.Holds.{Each, Padded}
use Rattle.claim.specs.declared.Head.{Head}
use Rattle.claim.specs.Claims.{orders_of, shifts_of, columns_of, problem_of, basis_of, constants_of}
use Rattle.claim.specs.Sound.{SoundHead, SoundColumns}
use Rattle.storing.specs.Poured.{All, all_of}
use Rattle.storing.specs.Arrays.{list_at, shifts_at, columns_at, entries_at, lengths_at, evidence_at, every_column, every_entry, every_length, every_constant}
use Rattle.problem_file.specs.Values.{head_value, columns_value}
use Rattle.answer_file.specs.Values.{lengths_value, entries_value, constants_value}

-- A number that is looked up below a bound, and is 0 from there on.
bounded : (n k v w : ℕ) → (k < n → v ≡ w) → (n ≤ k → w ≡ 0) → cond (ltb k n) v 0 ≡ w
bounded n k v w below above = go (dec_lt k n)
  where
    go : Dec (k < n) → cond (ltb k n) v 0 ≡ w
    go (yes h) = ap (λ (b : Bool). cond b v 0) (lt-ltb k n h) ∙ below h
    go (no h) = ap (λ (b : Bool). cond b v 0) (le-ltb k n (omega arith)) ∙ sym (above (omega arith))

-- What holds of each number of a table's rows.
all_cells : (Q : ℕ → Type 0) (M : List (List (List ℕ))) → ((i j k : ℕ) → Q (get_or (at M i j) k 0)) → All (All (All Q)) M
all_cells Q M h = all_of (All (All Q)) [] M (λ i hi. all_of (All Q) [] (get_or M i []) (λ j hj. all_of Q 0 (at M i j) (λ k hk. h i j k)))

-- THE PROBLEM

-- Every number of the arrays is what the problem has there, and 0 where it has nothing.
pub record Exact (b : Problem) (head : Head) (f : List ℕ) : Type 0 where
  pub same_p : b.p ≡ head.p
  pub same_m : b.m ≡ head.m
  pub same_n : b.n ≡ head.n
  pub orders : (j : ℕ) → get_or head.orders j 0 ≡ order b j
  pub shifts : (i : ℕ) → shift_at head.shifts i ≡ shift b i
  pub cells : (i j k : ℕ) → i < most_rows → column_cell f i j k ≡ get_or (at b.F j i) k 0

module _ (b : Problem) (valid : ValidProblem b) where
  -- No entry of F has more coefficients than the largest order.
  column_short : (i j : ℕ) → length (at b.F j i) ≤ most_order
  column_short i j = go (dec_lt j b.n) (dec_lt i b.m)
    where
      go : Dec (j < b.n) → Dec (i < b.m) → length (at b.F j i) ≤ most_order
      go (yes hj) (yes hi) = omega (arith, valid.F_entry_length i j hi hj, valid.order_most j)
      go (yes hj) (no hi) = omega (arith, ap length (get_or-eq_default (get_or b.F j []) [] {n = i} (omega (arith, valid.F_column_length j hj))))
      go (no hj) hi =
          omega (arith, ap (λ l. length (get_or l i [])) (get_or-eq_default b.F [] {n = j} (omega (arith, valid.F_length))))

  shaped : All (λ column. (length column ≤ most_rows) × All (λ l. length l ≤ most_order) column) b.F
  shaped =
      all_of _ [] b.F
      (λ j hj. (
        omega (arith, valid.F_column_length j (omega (arith, valid.F_length)), valid.rows_most),
        all_of _ [] (get_or b.F j []) (λ i hi. column_short i j),
      ))

  -- Each number stands at its place.
  orders_stand : (j : ℕ) → get_or (head_value b).orders j 0 ≡ order b j
  orders_stand = list_at most_rows b.orders (omega (arith, valid.orders_length, valid.columns_most))

  shifts_stand : (i : ℕ) → shift_at (head_value b).shifts i ≡ shift b i
  shifts_stand = shifts_at most_rows b.shifts (omega (arith, valid.shifts_length, valid.rows_most))

  columns_stand : (i j k : ℕ) → i < most_rows → column_cell (columns_value b) i j k ≡ get_or (at b.F j i) k 0
  unfolding column_cell
  columns_stand i j k hi =
      bounded most_order k _ _ (λ hk. columns_at b.F (omega (arith, valid.F_length, valid.columns_most)) shaped i j k hi hk)
      (λ hk. get_or-eq_default (at b.F j i) 0 (omega (arith, column_short i j)))

  -- So the arrays stand for the problem, …
  same_orders : b.orders ≡ orders_of b.n (head_value b).orders
  unfolding orders_of
  same_orders = table_ext b.n _ 0 b.orders valid.orders_length (λ j hj. sym (orders_stand j))

  same_shifts : b.shifts ≡ shifts_of b.m (head_value b).shifts
  unfolding shifts_of
  same_shifts = table_ext b.m _ (pos 0) b.shifts valid.shifts_length (λ i hi. sym (shifts_stand i))

  same_columns : b.F ≡ columns_of (head_value b) (columns_value b)
  unfolding columns_of
  same_columns =
      table_ext b.n _ [] b.F valid.F_length
      (λ j hj. table_ext b.m _ [] (get_or b.F j []) (valid.F_column_length j hj)
      (λ i hi. table_ext (get_or (head_value b).orders j 0) (column_cell (columns_value b) i j) 0 (at b.F j i)
      (valid.F_entry_length i j hi hj ∙ sym (orders_stand j)) (λ k hk. sym (columns_stand i j k (omega (arith, valid.rows_most))))))

  pub problem_stands : b ≡ problem_of (head_value b) (columns_value b)
  problem_stands = λ i. record { p = b.p; m = b.m; n = b.n; orders = same_orders i; shifts = same_shifts i; F = same_columns i }

  -- … and are sound.
  pub sound_head_of : SoundHead (head_value b)
  sound_head_of =
      record {
        prime = valid.prime;
        prime_most = valid.prime_size;
        rows_least = valid.rows_least;
        rows_most = valid.rows_most;
        columns_most = valid.columns_most;
        orders_most = λ j. subst (λ (d : ℕ). d ≤ most_order) (sym (orders_stand j)) (valid.order_most j);
        shifts_most = λ j. subst (λ z. nat_abs z ≤ most_shift) (sym (shifts_stand j)) (valid.shift_most j);
      }

  pub sound_columns_of : SoundColumns (head_value b) (columns_value b)
  sound_columns_of =
      record {
        F_below = every_column (λ v. v < b.p) (omega (arith, valid.F_range 0 0 0)) b.F (all_cells (λ v. v < b.p) b.F (λ j i k. valid.F_range i j k));
        F_ends = λ i j k hi hj h.
            columns_stand i j k (omega (arith, valid.rows_most))
            ∙ get_or-eq_default (at b.F j i) 0 (omega (arith, valid.F_entry_length i j hi hj, orders_stand j));
      }

  pub exact_of : Exact b (head_value b) (columns_value b)
  exact_of = record { same_p = refl; same_m = refl; same_n = refl; orders = orders_stand; shifts = shifts_stand; cells = columns_stand }

-- P

module _ (b : Problem) (P : List (List (List ℕ))) (rows : b.m ≤ most_rows) (valid : ValidBasis b P) where
  row_short : (i : ℕ) → i < length P → length (get_or P i []) ≤ most_rows
  row_short i hi = omega (arith, valid.P_row_length i (omega (arith, valid.P_length)))

  lengths_stand : (i j : ℕ) → j < most_rows → length_at (lengths_value P) i j ≡ length (at P i j)
  lengths_stand = lengths_at P (omega (arith, valid.P_length)) (all_of _ [] P row_short)

  entries_stand : (i j k : ℕ) → j < most_rows → cell (entries_value P) i j k ≡ get_or (at P i j) k 0
  unfolding cell
  entries_stand i j k hj =
      bounded most_length k _ _
      (λ hk. entries_at P (omega (arith, valid.P_length))
      (all_of _ [] P (λ i hi. (row_short i hi, all_of _ [] (get_or P i []) (λ j hj. valid.P_entry_length i j)))) i j k hj hk)
      (λ hk. get_or-eq_default (at P i j) 0 (omega (arith, valid.P_entry_length i j)))

  pub basis_stands : P ≡ basis_of b.m (lengths_value P) (entries_value P)
  unfolding basis_of
  basis_stands =
      table_ext b.m _ [] P valid.P_length
      (λ i hi. table_ext b.m _ [] (get_or P i []) (valid.P_row_length i hi)
      (λ j hj. table_ext (length_at (lengths_value P) i j) (cell (entries_value P) i j) 0 (at P i j) (sym (lengths_stand i j (omega arith)))
      (λ k hk. sym (entries_stand i j k (omega arith)))))

  pub entries_below : Each b.p (entries_value P)
  entries_below = every_entry (λ v. v < b.p) (omega (arith, valid.P_range 0 0 0)) P (all_cells (λ v. v < b.p) P valid.P_range)

  pub entries_padded : Padded most_rows (entries_value P) (lengths_value P)
  entries_padded =
      record {
        length_most = every_length (λ n. n ≤ most_length) (omega arith) P
            (all_of _ [] P (λ i hi. all_of _ [] (get_or P i []) (λ j hj. valid.P_entry_length i j)));
        past_length = λ i j k hi hj h.
            entries_stand i j k hj ∙ get_or-eq_default (at P i j) 0 (subst (λ (n : ℕ). n ≤ k) (lengths_stand i j hj) h);
      }

-- C

module _ (p m n : ℕ) (C : List (List ℕ)) (rows : m ≤ most_rows) (columns : n ≤ most_rows) (C_length : length C ≡ m)
    (C_row_length : (i : ℕ) → i < m → length (get_or C i []) ≡ n) (C_range : (i j : ℕ) → get_or (get_or C i []) j 0 < p) where
  constants_stand : (i j : ℕ) → j < most_rows → get_or (constants_value C) (square_place i j) 0 ≡ get_or (get_or C i []) j 0
  constants_stand =
      evidence_at C (omega (arith, C_length)) (all_of _ [] C (λ i hi. omega (arith, C_row_length i (omega (arith, C_length)))))

  pub constants_stands : C ≡ constants_of m n (constants_value C)
  unfolding constants_of
  constants_stands =
      table_ext m _ [] C C_length
      (λ i hi. table_ext n _ 0 (get_or C i []) (C_row_length i hi) (λ j hj. sym (constants_stand i j (omega arith))))

  pub constants_below : Each p (constants_value C)
  constants_below =
      every_constant (λ v. v < p) (omega (arith, C_range 0 0)) C (all_of _ [] C (λ i hi. all_of _ 0 (get_or C i []) (λ j hj. C_range i j)))
