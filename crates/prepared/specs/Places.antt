-- The coefficients of F by their places: what holds of the runs that the code tests holds of each coefficient, and the other way round.
--   row_of, column_of, power_of, place_of        the row, the column and the power of a place
--   Cells p m n orders f     each coefficient that there is is below p, and all else is 0
--   cells_of_columns, columns_of_cells           that is what the runs say
use Rattle.std.specs.Prelude.{◌≡◌, List, ℕ, ◌+◌, ◌-◌, ◌/◌, ◌%◌, ◌≤◌, ◌<◌}
use Rattle.std.proofs.Math.Path.{subst}
use native.Mathlib.Omega.{arith}
use Rattle.std.proofs.Math.ListN.{get_or}
use Rattle.rules.specs.Sizes.{most_rows, most_order}
use Rattle.layout.specs.Flat.{column_place, column_coefficients}
use Rattle.prepared.specs.Canonical.{Below, Columns}

abbrev row_of : ℕ → ℕ
row_of x = x / 16 % 4

abbrev column_of : ℕ → ℕ
column_of x = x / 64

abbrev power_of : ℕ → ℕ
power_of x = x % 16

-- Each place of the array is that of one coefficient.
pub record Stands (x : ℕ) : Type 0 where
  pub row : ℕ
  pub column : ℕ
  pub power : ℕ
  pub row_most : row < most_rows
  pub column_most : column < most_rows
  pub power_most : power < most_order
  pub place : column_place row column power ≡ x

pub stands : (x : ℕ) → x < column_coefficients → Stands x
unfolding column_place most_rows most_order
stands x h = record {
  row = row_of x;
  column = column_of x;
  power = power_of x;
  row_most = omega arith;
  column_most = omega arith;
  power_most = omega arith;
  place = omega arith;
}

-- Each coefficient that there is is below p, and all else is 0.
pub record Cells (p m n : ℕ) (orders f : List ℕ) : Type 0 where
  pub below : (i j k : ℕ) → i < m → j < n → k < get_or orders j 0 → get_or f (column_place i j k) 0 < p
  pub past_order : (i j k : ℕ) → i < m → j < n → get_or orders j 0 ≤ k → k < most_order → get_or f (column_place i j k) 0 ≡ 0
  pub past_rows : (i j k : ℕ) → m ≤ i → i < most_rows → j < n → k < most_order → get_or f (column_place i j k) 0 ≡ 0
  pub past_columns : (i j k : ℕ) → i < most_rows → n ≤ j → j < most_rows → k < most_order → get_or f (column_place i j k) 0 ≡ 0

module _ (p m n : ℕ) (orders f : List ℕ) where
  pub cells_of_columns : m ≤ most_rows → n ≤ most_rows → Columns p m n orders f → Cells p m n orders f
  unfolding column_place most_rows most_order
  cells_of_columns rows_most columns_most c = record {
    below = λ i j k hi hj hk. ((c.columns j hj).rows i hi).below (column_place i j k) (omega arith) (omega arith);
    past_order = λ i j k hi hj lo hi'. let z = ((c.columns j hj).rows i hi).ends (column_place i j k) (omega arith) (omega arith) in omega arith;
    past_rows = λ i j k lo hi hj hk. let z = (c.columns j hj).no_more (column_place i j k) (omega arith) (omega arith) in omega arith;
    past_columns = λ i j k hi lo hj hk. let z = c.no_more (column_place i j k) (omega arith) (omega arith) in omega arith;
  }

  -- What is so of each row, column and power is so at each place of a run.
  at_place : (from to limit : ℕ) → to ≤ column_coefficients
      → ((i j k : ℕ) → i < most_rows → j < most_rows → k < most_order → from ≤ column_place i j k → column_place i j k < to
      → get_or f (column_place i j k) 0 < limit)
      → Below f from to limit
  at_place from to limit le h x lo hi =
      let s : Stands x = stands x (omega arith) in
      subst (λ (y : ℕ). get_or f y 0 < limit) s.place
      (h s.row s.column s.power s.row_most s.column_most s.power_most (omega (arith, s.place)) (omega (arith, s.place)))

  pub columns_of_cells : m ≤ most_rows → n ≤ most_rows → ((j : ℕ) → j < n → get_or orders j 0 ≤ most_order) → Cells p m n orders f
      → Columns p m n orders f
  unfolding column_place most_rows most_order
  columns_of_cells rows_most columns_most short c = record {
    columns = λ j hj. record {
      rows = λ i hi. record {
        below = λ x lo hx.
            let there : column_place i j (x - column_place i j 0) ≡ x = omega arith in
            subst (λ (y : ℕ). get_or f y 0 < p) there (c.below i j (x - column_place i j 0) hi hj (omega arith));
        ends = λ x lo hx.
            let there : column_place i j (x - column_place i j 0) ≡ x = omega arith in
            let z = c.past_order i j (x - column_place i j 0) hi hj (omega arith) (omega (arith, short j hj)) in
            subst (λ (y : ℕ). get_or f y 0 < 1) there (omega arith);
      };
      no_more = at_place (column_place m j 0) (column_place 0 (j + 1) 0) 1 (omega arith) (λ i j' k hi hj' hk lo hx.
          let same : j' ≡ j = omega arith in
          let z = c.past_rows i j' k (omega arith) hi (omega arith) hk in omega arith);
    };
    no_more = at_place (column_place 0 n 0) column_coefficients 1 (omega arith) (λ i j k hi hj hk lo hx.
        let z = c.past_columns i j k hi (omega arith) hj hk in omega arith);
  }
