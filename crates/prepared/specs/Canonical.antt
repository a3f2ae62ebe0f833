-- What the code tests of the arrays of a problem, part by part: document 01's ranges, and 0 wherever nothing stands.
--   Below f from to limit    the numbers of f from one place to another are below a limit
--   Sized p m n              p, m and n are within their sizes
--   Orders n orders, Shifts m shifts       the orders and the shifts are within theirs, and 0 where there is no column or row
--   Numbers head             the numbers beside F are so
--   Row p d f base           the d coefficients of an entry are below p, and what follows them is 0
--   Rows, Column, Columns    the same of a column's rows, of a column, and of F
--   Canonical head f         all of it
use Rattle.std.specs.Prelude.{◌≡◌, Bool, true, false, List, ℕ, ◌+◌, ◌≤◌, ◌<◌, ltb, ℤ, pos, nat_abs, get_or}
use Rattle.algebra.specs.Prime.{Prime}
use Rattle.rules.specs.Sizes.{largest_prime, most_rows, most_order, most_shift}
use Rattle.layout.specs.Flat.{shift_at, column_place, column_coefficients}
use Rattle.claim.specs.declared.Head.{Head}

abbrev pub Below : List ℕ → (from to limit : ℕ) → Type 0
Below f from to limit = (x : ℕ) → from ≤ x → x < to → get_or f x 0 < limit

pub record Sized (p m n : ℕ) : Type 0 where
  pub prime_most : p ≤ largest_prime
  pub rows_least : 1 ≤ m
  pub rows_most : m ≤ most_rows
  pub columns_least : 1 ≤ n
  pub columns_most : n ≤ most_rows

-- An order of a column that there is, or is not; …
abbrev pub Order : Bool → ℕ → Type 0
Order true d = (1 ≤ d) × (d ≤ most_order)
Order false d = d ≡ 0

abbrev pub Orders : ℕ → List ℕ → Type 0
Orders n orders = (j : ℕ) → j < most_rows → Order (ltb j n) (get_or orders j 0)

-- … and a shift of a row.
abbrev pub Shift : Bool → ℤ → Type 0
Shift true z = nat_abs z ≤ most_shift
Shift false z = z ≡ pos 0

abbrev pub Shifts : ℕ → List ℤ → Type 0
Shifts m shifts = (i : ℕ) → i < most_rows → Shift (ltb i m) (shift_at shifts i)

-- All of the numbers beside F, but that p is a prime.
pub record Numbers (head : Head) : Type 0 where
  pub sized : Sized head.p head.m head.n
  pub orders_in : Orders head.n head.orders
  pub shifts_in : Shifts head.m head.shifts

-- The entry whose coefficients start at `base` has d of them.
pub record Row (p d : ℕ) (f : List ℕ) (base : ℕ) : Type 0 where
  pub below : Below f base (base + d) p
  pub ends : Below f (base + d) (base + most_order) 1

abbrev pub Rows : (p m d : ℕ) → List ℕ → ℕ → Type 0
Rows p m d f j = (i : ℕ) → i < m → Row p d f (column_place i j 0)

-- Column j has m rows.
pub record Column (p m d : ℕ) (f : List ℕ) (j : ℕ) : Type 0 where
  pub rows : Rows p m d f j
  pub no_more : Below f (column_place m j 0) (column_place 0 (j + 1) 0) 1

-- F has n columns.
pub record Columns (p m n : ℕ) (orders f : List ℕ) : Type 0 where
  pub columns : (j : ℕ) → j < n → Column p m (get_or orders j 0) f j
  pub no_more : Below f (column_place 0 n 0) column_coefficients 1

pub record Canonical (head : Head) (f : List ℕ) : Type 0 where
  pub sized : Sized head.p head.m head.n
  pub orders_in : Orders head.n head.orders
  pub shifts_in : Shifts head.m head.shifts
  pub columns_in : Columns head.p head.m head.n head.orders f
  pub prime : Prime head.p
