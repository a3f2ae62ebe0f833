-- The arrays of a form that a file gives are canonical, and stand for the problem that was read.
--   gives_canonical, given_canonical       canonical
--   read_as                  what they stand for was read
use Rattle.std.specs.Prelude.{◌≡◌, refl, ℕ, ◌≤◌, ◌<◌, pos, nat_abs, get_or}
use Rattle.std.proofs.Math.Path.{sym}
use Rattle.std.proofs.Common.{ap, subst, ◌∙◌, arith, lt-ltb, le-ltb}
use Rattle.std.proofs.Math.Logic.{by_cases}
use mathlib.Core.List.{List, []}
use Rattle.std.proofs.Math.Decide.{dec_lt}
use Rattle.std.proofs.Math.ListN.{get_or-eq_default}
use Rattle.algebra.specs.Prime.{Prime}
use Rattle.rules.specs.Sizes.{most_rows, most_order, most_shift}
use Rattle.rules.specs.Claim.{Problem}
use Rattle.rules.specs.Matrices.{order, shift, at}
use Rattle.rules.specs.Reader.{got}
use Rattle.rules.specs.Files.{read_problem}
use Rattle.rules.specs.Table.{table_ext}
use Rattle.rules.specs.Prepared.{Prepared, Gives, Given}
use Rattle.laws.specs.Valid.{ValidProblem}
use Rattle.laws.specs.Ranges.{problem_valid}
use Rattle.laws.specs.PreparedLaws.{form_order, form_shift, form_coefficient}
use Rattle.layout.specs.Flat.{shift_at, column_place, column_cell, column_cell_at}
use Rattle.claim.specs.declared.Head.{Head}
use Rattle.claim.specs.Claims.{orders_of, shifts_of, columns_of, problem_of}
use Rattle.prepared.specs.Form.{form_of}
use Rattle.prepared.specs.Canonical.{Order, Orders, Shift, Shifts, Canonical}
use Rattle.prepared.specs.Places.{Cells, columns_of_cells}

module _ (head : Head) (f : List ℕ) (s : List ℕ) (g : Gives s (form_of head f)) where
  abbrev b : Problem
  b = g.problem

  valid : ValidProblem b
  valid = problem_valid s g.reads

  same_p : b.p ≡ head.p
  same_p = ap (λ (x : Prepared). x.p) g.form

  same_m : b.m ≡ head.m
  same_m = ap (λ (x : Prepared). x.m) g.form

  same_n : b.n ≡ head.n
  same_n = ap (λ (x : Prepared). x.n) g.form

  same_order : (j : ℕ) → j < most_rows → order b j ≡ get_or head.orders j 0
  same_order = form_order b (form_of head f) g.form (λ j. get_or head.orders j 0) refl

  same_shift : (i : ℕ) → i < most_rows → shift b i ≡ shift_at head.shifts i
  same_shift = form_shift b (form_of head f) g.form (shift_at head.shifts) refl

  same_cell : (i j k : ℕ) → i < most_rows → j < most_rows → k < most_order → get_or (at b.F j i) k 0 ≡ get_or f (column_place i j k) 0
  same_cell = form_coefficient b (form_of head f) g.form (λ i j k. get_or f (column_place i j k) 0) refl

  most_n : head.n ≤ most_rows
  most_n = omega (arith, same_n, valid.columns_most)

  most_m : head.m ≤ most_rows
  most_m = omega (arith, same_m, valid.rows_most)

  orders_given : Orders head.n head.orders
  orders_given j hj = by_cases (dec_lt j head.n)
      (λ h. subst (λ t. Order t (get_or head.orders j 0)) (sym (lt-ltb j head.n h))
      (omega (arith, same_order j hj, same_n, valid.order_least j (omega (arith, same_n))), omega (arith, same_order j hj, valid.order_most j)))
      (λ h. subst (λ t. Order t (get_or head.orders j 0)) (sym (le-ltb j head.n (omega arith)))
      (sym (same_order j hj) ∙ get_or-eq_default b.orders 0 (omega (arith, same_n, valid.orders_length))))

  shifts_given : Shifts head.m head.shifts
  shifts_given i hi = by_cases (dec_lt i head.m)
      (λ h. subst (λ t. Shift t (shift_at head.shifts i)) (sym (lt-ltb i head.m h))
      (subst (λ z. nat_abs z ≤ most_shift) (same_shift i hi) (valid.shift_most i)))
      (λ h. subst (λ t. Shift t (shift_at head.shifts i)) (sym (le-ltb i head.m (omega arith)))
      (sym (same_shift i hi) ∙ get_or-eq_default b.shifts (pos 0) (omega (arith, same_m, valid.shifts_length))))

  cells_given : Cells head.p head.m head.n head.orders f
  cells_given = record {
    below = λ i j k hi hj hk.
        let most : get_or head.orders j 0 ≤ most_order = omega (arith, same_order j (omega (arith, most_n)), valid.order_most j) in
        omega (arith, same_cell i j k (omega (arith, most_m)) (omega (arith, most_n)) (omega arith), valid.F_range i j k, same_p);
    past_order = λ i j k hi hj lo hk.
        sym (same_cell i j k (omega (arith, most_m)) (omega (arith, most_n)) hk)
        ∙ get_or-eq_default (at b.F j i) 0
        (omega (arith, valid.F_entry_length i j (omega (arith, same_m)) (omega (arith, same_n)), same_order j (omega (arith, most_n))));
    past_rows = λ i j k lo hi hj hk.
        sym (same_cell i j k hi (omega (arith, most_n)) hk)
        ∙ ap (λ (l : List ℕ). get_or l k 0)
        (get_or-eq_default (get_or b.F j []) [] (omega (arith, same_m, valid.F_column_length j (omega (arith, same_n)))));
    past_columns = λ i j k hi lo hj hk.
        sym (same_cell i j k hi hj hk)
        ∙ ap (λ (l : List (List ℕ)). get_or (get_or l i []) k 0) (get_or-eq_default b.F [] (omega (arith, same_n, valid.F_length)));
  }

  order_short : (j : ℕ) → j < head.n → get_or head.orders j 0 ≤ most_order
  order_short j hj = omega (arith, same_order j (omega (arith, most_n)), valid.order_most j)

  pub gives_canonical : Canonical head f
  gives_canonical = record {
    sized = record {
      prime_most = omega (arith, same_p, valid.prime_size);
      rows_least = omega (arith, same_m, valid.rows_least);
      rows_most = most_m;
      columns_least = omega (arith, same_n, valid.columns_least);
      columns_most = most_n;
    };
    orders_in = orders_given;
    shifts_in = shifts_given;
    columns_in = columns_of_cells head.p head.m head.n head.orders f most_m most_n order_short cells_given;
    prime = subst (λ p. Prime p) same_p valid.prime;
  }

  same_orders : b.orders ≡ orders_of head.n head.orders
  unfolding orders_of
  same_orders = table_ext head.n _ 0 b.orders (valid.orders_length ∙ same_n) (λ j hj. same_order j (omega (arith, most_n)))

  same_shifts : b.shifts ≡ shifts_of head.m head.shifts
  unfolding shifts_of
  same_shifts = table_ext head.m _ (pos 0) b.shifts (valid.shifts_length ∙ same_m) (λ i hi. same_shift i (omega (arith, most_m)))

  same_columns : b.F ≡ columns_of head f
  unfolding columns_of
  same_columns =
      table_ext head.n _ [] b.F (valid.F_length ∙ same_n)
      (λ j hj. table_ext head.m _ [] (get_or b.F j []) (valid.F_column_length j (omega (arith, same_n)) ∙ same_m)
      (λ i hi. table_ext (get_or head.orders j 0) (column_cell f i j) 0 (at b.F j i)
      (valid.F_entry_length i j (omega (arith, same_m)) (omega (arith, same_n)) ∙ same_order j (omega (arith, most_n)))
      (λ k hk.
      let small : k < most_order = omega (arith, order_short j hj) in
      same_cell i j k (omega (arith, most_m)) (omega (arith, most_n)) small ∙ sym (column_cell_at f i j k small))))

  -- The problem that was read is what the arrays stand for.
  pub read_as : read_problem s ≡ got (problem_of head f) g.after
  read_as =
      g.reads
      ∙ ap (λ (x : Problem). got x g.after)
      (λ i. record { p = same_p i; m = same_m i; n = same_n i; orders = same_orders i; shifts = same_shifts i; F = same_columns i })

pub given_canonical : (head : Head) (f : List ℕ) → Given (form_of head f) → Canonical head f
given_canonical head f (s, g) = gives_canonical head f s g
