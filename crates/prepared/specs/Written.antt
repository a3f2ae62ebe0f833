-- Canonical arrays are given: by the file that is written of what they stand for.
--   canonical_valid          what they stand for is valid
--   canonical_gives, canonical_given       the file that is written of it gives them
use Rattle.std.specs.Prelude.{◌≡◌, ℕ, ◌≤◌, ◌<◌, pos, nat_abs, length}
use Rattle.std.proofs.Math.Path.{sym, ap}
use Rattle.std.proofs.Common.{subst, ◌∙◌, arith, lt-ltb, le-ltb}
use Rattle.std.proofs.Math.Logic.{by_cases}
use mathlib.Core.List.{List, []}
use Rattle.std.proofs.Math.Decide.{dec_lt}
use Rattle.std.proofs.Math.ListN.{get_or, get_or-eq_default}
use Rattle.rules.specs.Sizes.{most_rows, most_order, most_shift}
use Rattle.rules.specs.Claim.{Problem}
use Rattle.rules.specs.Matrices.{order, shift, at}
use Rattle.rules.specs.Table.{table, length_table, get_or_table, table_cong}
use Rattle.rules.specs.Writer.{write_problem}
use Rattle.rules.specs.Prepared.{Gives, Given}
use Rattle.laws.specs.Valid.{ValidProblem}
use Rattle.laws.specs.RoundTrip.{read_written_problem}
use Rattle.laws.specs.PreparedLaws.{write_problem_bytes}
use Rattle.layout.specs.Flat.{shift_at, column_place, column_cell, column_cell_at}
use Rattle.claim.specs.declared.Head.{Head}
use Rattle.claim.specs.Claims.{orders_of, shifts_of, columns_of, problem_of}
use Rattle.prepared.specs.Form.{form_of}
use Rattle.prepared.specs.Canonical.{Order, Shift, Canonical}
use Rattle.prepared.specs.Places.{Cells, cells_of_columns}

module _ (head : Head) (f : List ℕ) (c : Canonical head f) where
  pub cells : Cells head.p head.m head.n head.orders f
  cells = cells_of_columns head.p head.m head.n head.orders f c.sized.rows_most c.sized.columns_most c.columns_in

  -- A column or a row that there is, and one that there is not.
  pub order_used : (j : ℕ) → j < head.n → (1 ≤ get_or head.orders j 0) × (get_or head.orders j 0 ≤ most_order)
  order_used j h = subst (λ t. Order t (get_or head.orders j 0)) (lt-ltb j head.n h) (c.orders_in j (omega (arith, c.sized.columns_most)))

  pub order_unused : (j : ℕ) → j < most_rows → head.n ≤ j → get_or head.orders j 0 ≡ 0
  order_unused j hj h = subst (λ t. Order t (get_or head.orders j 0)) (le-ltb j head.n h) (c.orders_in j hj)

  pub shift_used : (i : ℕ) → i < head.m → nat_abs (shift_at head.shifts i) ≤ most_shift
  shift_used i h = subst (λ t. Shift t (shift_at head.shifts i)) (lt-ltb i head.m h) (c.shifts_in i (omega (arith, c.sized.rows_most)))

  pub shift_unused : (i : ℕ) → i < most_rows → head.m ≤ i → shift_at head.shifts i ≡ pos 0
  shift_unused i hi h = subst (λ t. Shift t (shift_at head.shifts i)) (le-ltb i head.m h) (c.shifts_in i hi)

  -- What the problem has at each number, also where it has nothing.
  abbrev stood : Problem
  stood = problem_of head f

  order_stands : (j : ℕ) → j < most_rows → order stood j ≡ get_or head.orders j 0
  unfolding orders_of
  order_stands j hj = by_cases (dec_lt j head.n) (λ h. get_or_table head.n (λ j. get_or head.orders j 0) 0 j h)
      (λ h. get_or-eq_default (orders_of head.n head.orders) 0 (omega (arith, length_table head.n (λ j. get_or head.orders j 0)))
      ∙ sym (order_unused j hj (omega arith)))

  shift_stands : (i : ℕ) → i < most_rows → shift stood i ≡ shift_at head.shifts i
  unfolding shifts_of
  shift_stands i hi = by_cases (dec_lt i head.m) (λ h. get_or_table head.m (shift_at head.shifts) (pos 0) i h)
      (λ h. get_or-eq_default (shifts_of head.m head.shifts) (pos 0) (omega (arith, length_table head.m (shift_at head.shifts)))
      ∙ sym (shift_unused i hi (omega arith)))

  abbrev entry : ℕ → ℕ → List ℕ
  entry j i = table (get_or head.orders j 0) (column_cell f i j)

  column_stands : (j : ℕ) → j < head.n → get_or (columns_of head f) j [] ≡ table head.m (entry j)
  unfolding columns_of
  column_stands j hj = get_or_table head.n (λ j. table head.m (entry j)) [] j hj

  entry_stands : (i j : ℕ) → i < head.m → j < head.n → at (columns_of head f) j i ≡ entry j i
  entry_stands i j hi hj = ap (λ (l : List (List ℕ)). get_or l i []) (column_stands j hj) ∙ get_or_table head.m (entry j) [] i hi

  no_row : (i j : ℕ) → head.m ≤ i → j < head.n → at (columns_of head f) j i ≡ []
  no_row i j hi hj =
      ap (λ (l : List (List ℕ)). get_or l i []) (column_stands j hj)
      ∙ get_or-eq_default (table head.m (entry j)) [] (omega (arith, length_table head.m (entry j)))

  no_column : (i j : ℕ) → head.n ≤ j → at (columns_of head f) j i ≡ []
  unfolding columns_of
  no_column i j hj =
      ap (λ (l : List (List ℕ)). get_or l i [])
      (get_or-eq_default (columns_of head f) [] (omega (arith, length_table head.n (λ j. table head.m (entry j)))))

  -- Each coefficient stands at its place, and there is a 0 where there is none.
  cell_stands : (i j k : ℕ) → i < most_rows → j < most_rows → k < most_order → get_or (at (columns_of head f) j i) k 0 ≡ get_or f (column_place i j k) 0
  cell_stands i j k hi hj hk = by_cases (dec_lt j head.n)
      (λ h. by_cases (dec_lt i head.m) (λ h'. in_entry h h')
      (λ h'. ap (λ (l : List ℕ). get_or l k 0) (no_row i j (omega arith) h) ∙ sym (cells.past_rows i j k (omega arith) hi h hk)))
      (λ h. ap (λ (l : List ℕ). get_or l k 0) (no_column i j (omega arith)) ∙ sym (cells.past_columns i j k hi (omega arith) hj hk))
    where
      in_entry : j < head.n → i < head.m → get_or (at (columns_of head f) j i) k 0 ≡ get_or f (column_place i j k) 0
      in_entry h h' = ap (λ (l : List ℕ). get_or l k 0) (entry_stands i j h' h) ∙ by_cases (dec_lt k (get_or head.orders j 0))
          (λ h''. get_or_table (get_or head.orders j 0) (column_cell f i j) 0 k h'' ∙ column_cell_at f i j k hk)
          (λ h''. get_or-eq_default (entry j i) 0 (omega (arith, length_table (get_or head.orders j 0) (column_cell f i j)))
          ∙ sym (cells.past_order i j k h' h (omega arith) hk))

  -- A number of F that is looked up, wherever it is, is below p.
  looked_up : (i j k : ℕ) → get_or (at (columns_of head f) j i) k 0 < head.p
  looked_up i j k = by_cases (dec_lt j head.n)
      (λ h. by_cases (dec_lt i head.m) (λ h'. in_entry h h') (λ h'. none (no_row i j (omega arith) h)))
      (λ h. none (no_column i j (omega arith)))
    where
      none : at (columns_of head f) j i ≡ [] → get_or (at (columns_of head f) j i) k 0 < head.p
      none e = omega (arith, ap (λ (l : List ℕ). get_or l k 0) e, c.prime.two_le)

      in_entry : j < head.n → i < head.m → get_or (at (columns_of head f) j i) k 0 < head.p
      in_entry h h' = by_cases (dec_lt k (get_or head.orders j 0))
          (λ h''.
          omega (
            arith,
            cell_stands i j k (omega (arith, c.sized.rows_most)) (omega (arith, c.sized.columns_most)) (omega (arith, (order_used j h).1)),
            cells.below i j k h' h h'',
          ))
          (λ h''. omega (
            arith,
            ap (λ (l : List ℕ). get_or l k 0) (entry_stands i j h' h)
                ∙ get_or-eq_default (entry j i) 0 (omega (arith, length_table (get_or head.orders j 0) (column_cell f i j))),
            c.prime.two_le,
          ))

  orders_length : length (orders_of head.n head.orders) ≡ head.n
  unfolding orders_of
  orders_length = length_table head.n (λ j. get_or head.orders j 0)

  shifts_length : length (shifts_of head.m head.shifts) ≡ head.m
  unfolding shifts_of
  shifts_length = length_table head.m (shift_at head.shifts)

  columns_length : length (columns_of head f) ≡ head.n
  unfolding columns_of
  columns_length = length_table head.n (λ j. table head.m (entry j))

  order_most : (j : ℕ) → order stood j ≤ most_order
  order_most j = by_cases (dec_lt j head.n)
      (λ h. omega (arith, order_stands j (omega (arith, c.sized.columns_most)), (order_used j h).1))
      (λ h. omega (arith, get_or-eq_default stood.orders 0 {n = j} (omega (arith, orders_length))))

  shift_most : (i : ℕ) → nat_abs (shift stood i) ≤ most_shift
  shift_most i = by_cases (dec_lt i head.m)
      (λ h. subst (λ z. nat_abs z ≤ most_shift) (sym (shift_stands i (omega (arith, c.sized.rows_most)))) (shift_used i h))
      (λ h. subst (λ z. nat_abs z ≤ most_shift) (sym (get_or-eq_default stood.shifts (pos 0) (omega (arith, shifts_length)))) (omega arith))

  pub canonical_valid : ValidProblem (problem_of head f)
  canonical_valid = record {
    prime = c.prime;
    prime_size = c.sized.prime_most;
    rows_least = c.sized.rows_least;
    rows_most = c.sized.rows_most;
    columns_least = c.sized.columns_least;
    columns_most = c.sized.columns_most;
    orders_length = orders_length;
    order_least = λ j hj. omega (arith, order_stands j (omega (arith, c.sized.columns_most)), (order_used j hj).0);
    order_most = order_most;
    shifts_length = shifts_length;
    shift_most = shift_most;
    F_length = columns_length;
    F_column_length = λ j hj. ap length (column_stands j hj) ∙ length_table head.m (entry j);
    F_entry_length = λ i j hi hj.
        ap length (entry_stands i j hi hj)
        ∙ length_table (get_or head.orders j 0) (column_cell f i j)
        ∙ sym (order_stands j (omega (arith, c.sized.columns_most)));
    F_range = looked_up;
  }

  -- The file that is written of what the arrays stand for gives them.
  pub canonical_gives : Gives (write_problem (problem_of head f)) (form_of head f)
  canonical_gives = record {
    bytes = write_problem_bytes (problem_of head f);
    problem = problem_of head f;
    after = (read_written_problem (problem_of head f) canonical_valid).0;
    reads = (read_written_problem (problem_of head f) canonical_valid).1;
    form = λ t. record {
      p = head.p;
      m = head.m;
      n = head.n;
      orders = table_cong most_rows (order stood) (λ j. get_or head.orders j 0) order_stands t;
      shifts = table_cong most_rows (shift stood) (shift_at head.shifts) shift_stands t;
      F = table_cong most_rows (λ j. table most_rows (λ i. table most_order (λ k. get_or (at (columns_of head f) j i) k 0)))
          (λ j. table most_rows (λ i. table most_order (λ k. get_or f (column_place i j k) 0)))
          (λ j hj. table_cong most_rows _ _ (λ i hi. table_cong most_order _ _ (λ k hk. cell_stands i j k hi hj hk))) t;
    };
  }

pub canonical_given : (head : Head) (f : List ℕ) → Canonical head f → Given (form_of head f)
canonical_given head f c = (write_problem (problem_of head f), canonical_gives head f c)
