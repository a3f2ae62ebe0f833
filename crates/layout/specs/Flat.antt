-- How the matrices of a claim lie in flat arrays of numbers, and what such an array stands for. Everything past what was read is 0.
--   square, width, entry_coefficients, column_coefficients      how many numbers the arrays have room for
--   filled                         an array of one value
--   square_place, entry_place, column_place      where the number of an entry, a coefficient of P, of F stands
--   length_at, shift_at            the length of an entry of P, the shift of a column
--   cell entries i j k             the coefficient at power k of the entry of P in row i and column j that the array holds
--   column_cell f i j k            the same for F
--   cells p entries, column_cells p f      the matrices of polynomials modulo p
--   cell_at, cell_past, column_cell_at, column_cell_past     where a coefficient stands, and from where on there is none
--   cell_below               the coefficients are below p where the numbers of the array are
use Rattle.std.specs.Prelude.{◌≡◌, Bool, true, false, cond, List, ℕ, ◌+◌, ◌*◌, ◌≤◌, ◌<◌, ltb, ℤ, pos, get_or, replicate}
use Rattle.std.proofs.Common.{ap, lt-ltb, le-ltb}
use Rattle.algebra.specs.Residue.{K, red}
use Rattle.algebra.proofs.Series.{Series}
use Rattle.algebra.specs.Matrix.{Matrix}
use Rattle.rules.specs.Sizes.{most_rows, most_order, most_length}

-- The entries of a largest matrix, …
abbrev pub square : ℕ
square = most_rows * most_rows

-- … the numbers of a row of [P(0) C], …
abbrev pub width : ℕ
width = 2 * most_rows

-- … the coefficients of P, …
abbrev pub entry_coefficients : ℕ
entry_coefficients = square * most_length

-- … and those of F.
abbrev pub column_coefficients : ℕ
column_coefficients = square * most_order

-- n times the same.
unfoldable pub filled : {A : Type 0} → ℕ → A → List A
filled n a = replicate n a

-- The place of row i and column j in a flat array with one number for each entry.
unfoldable pub square_place : ℕ → ℕ → ℕ
square_place i j = i * most_rows + j

-- The place of the coefficient at power k of the entry in row i and column j of P, and of F.
unfoldable pub entry_place : ℕ → ℕ → ℕ → ℕ
unfolding square_place
entry_place i j k = square_place i j * most_length + k

unfoldable pub column_place : ℕ → ℕ → ℕ → ℕ
column_place i j k = (j * most_rows + i) * most_order + k

-- The length of the entry of P in row i and column j, and the shift of column j.
abbrev pub length_at : List ℕ → ℕ → ℕ → ℕ
length_at lengths i j = get_or lengths (square_place i j) 0

abbrev pub shift_at : List ℤ → ℕ → ℤ
shift_at shifts j = get_or shifts j (pos 0)

unfoldable pub cell : List ℕ → ℕ → ℕ → ℕ → ℕ
cell entries i j k = cond (ltb k most_length) (get_or entries (entry_place i j k) 0) 0

unfoldable pub column_cell : List ℕ → ℕ → ℕ → ℕ → ℕ
column_cell f i j k = cond (ltb k most_order) (get_or f (column_place i j k) 0) 0

abbrev pub cells : (p : ℕ) → List ℕ → Matrix (Series (K p))
cells p entries i j k = red p (cell entries i j k)

abbrev pub column_cells : (p : ℕ) → List ℕ → Matrix (Series (K p))
column_cells p f i j k = red p (column_cell f i j k)

-- A coefficient of P stands at its place, and there is none from the largest length on.
pub cell_at : (entries : List ℕ) (i j k : ℕ) → k < most_length → cell entries i j k ≡ get_or entries (entry_place i j k) 0
unfolding cell
cell_at entries i j k h = ap (λ b. cond b (get_or entries (entry_place i j k) 0) 0) (lt-ltb k most_length h)

pub cell_past : (entries : List ℕ) (i j k : ℕ) → most_length ≤ k → cell entries i j k ≡ 0
unfolding cell
cell_past entries i j k h = ap (λ b. cond b (get_or entries (entry_place i j k) 0) 0) (le-ltb k most_length h)

-- The same of F.
pub column_cell_at : (f : List ℕ) (i j k : ℕ) → k < most_order → column_cell f i j k ≡ get_or f (column_place i j k) 0
unfolding column_cell
column_cell_at f i j k h = ap (λ b. cond b (get_or f (column_place i j k) 0) 0) (lt-ltb k most_order h)

pub column_cell_past : (f : List ℕ) (i j k : ℕ) → most_order ≤ k → column_cell f i j k ≡ 0
unfolding column_cell
column_cell_past f i j k h = ap (λ b. cond b (get_or f (column_place i j k) 0) 0) (le-ltb k most_order h)

-- The coefficients are below p where all numbers of the array are.
cond_below : (p : ℕ) (b : Bool) (x : ℕ) → 0 < p → x < p → cond b x 0 < p
cond_below p true x zero_below below = below
cond_below p false x zero_below below = zero_below

pub cell_below : (p : ℕ) (entries : List ℕ) (i j : ℕ) → 0 < p → ((k : ℕ) → get_or entries k 0 < p) → (k : ℕ) → cell entries i j k < p
unfolding cell
cell_below p entries i j zero_below below k = cond_below p (ltb k most_length) (get_or entries (entry_place i j k) 0) zero_below (below (entry_place i j k))
