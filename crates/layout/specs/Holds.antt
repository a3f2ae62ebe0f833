-- What the flat arrays hold of a problem and of an answer.
--   EntryCells, EntryLengths       the coefficients of P and their number in each entry
--   ColumnCells, Orders, Shifts    the coefficients of F, the orders and the shifts
--   Constants                      the numbers of C
--   Each, Short, Padded, Ordered   what their numbers keep: below p, the lengths and the orders as small as document 01 says, zeros past
--                                  an entry's length
use Rattle.std.specs.Prelude.{◌≡◌, List, [], ℕ, ◌≤◌, ◌<◌, ℤ, length, get_or}
use Rattle.std.proofs.Common.{lt_of_lt_of_le}
use Rattle.rules.specs.Claim.{Problem}
use Rattle.rules.specs.Sizes.{most_order, most_length}
use Rattle.rules.specs.Matrices.{order, shift, at}
use Rattle.layout.specs.Flat.{square_place, length_at, shift_at, cell, column_cell}

-- Every number of l is below b.
abbrev pub Each : ℕ → List ℕ → Type 0
Each b l = (i : ℕ) → get_or l i 0 < b

-- No entry of P has more coefficients than document 01 allows.
abbrev pub Short : List ℕ → Type 0
Short lengths = (k : ℕ) → get_or lengths k 0 ≤ most_length

-- … and in the first m rows and columns nothing stands past an entry's length.
pub record Padded (m : ℕ) (entries lengths : List ℕ) : Type 0 where
  pub length_most : Short lengths
  pub past_length : (i j k : ℕ) → i < m → j < m → length_at lengths i j ≤ k → cell entries i j k ≡ 0

-- What is so of more rows and columns is so of fewer.
pub padded_fewer : {m n : ℕ} {entries lengths : List ℕ} → m ≤ n → Padded n entries lengths → Padded m entries lengths
padded_fewer h padded = record {
  length_most = padded.length_most;
  past_length = λ i j k hi hj. padded.past_length i j k (lt_of_lt_of_le hi h) (lt_of_lt_of_le hj h);
}

-- No order is larger than document 01 allows.
abbrev pub Ordered : List ℕ → Type 0
Ordered orders = (j : ℕ) → get_or orders j 0 ≤ most_order

module _ (b : Problem) where
  abbrev pub EntryCells : List (List (List ℕ)) → List ℕ → Type 0
  EntryCells P entries = (i j k : ℕ) → i < b.m → j < b.m → cell entries i j k ≡ get_or (at P i j) k 0

  abbrev pub EntryLengths : List (List (List ℕ)) → List ℕ → Type 0
  EntryLengths P lengths = (i j : ℕ) → i < b.m → j < b.m → length_at lengths i j ≡ length (at P i j)

  abbrev pub ColumnCells : List ℕ → Type 0
  ColumnCells f = (i j k : ℕ) → i < b.m → j < b.n → column_cell f i j k ≡ get_or (at b.F j i) k 0

  abbrev pub Orders : List ℕ → Type 0
  Orders orders = (j : ℕ) → j < b.n → get_or orders j 0 ≡ order b j

  abbrev pub Shifts : List ℤ → Type 0
  Shifts shifts = (j : ℕ) → j < b.m → shift_at shifts j ≡ shift b j

  abbrev pub Constants : List (List ℕ) → List ℕ → Type 0
  Constants C c = (i j : ℕ) → i < b.m → j < b.n → get_or c (square_place i j) 0 ≡ get_or (get_or C i []) j 0
