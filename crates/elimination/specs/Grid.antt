-- A small matrix as the code has it, a list of rows, each a list of numbers, and what the steps of elimination leave of it.
--   at a i j                 the entry in row i and column j, 0 past the end
--   grid p a                 the matrix of residues modulo p
--   Below p a                every entry is below p
--   Pivot a c r m k          k is the first row from r on, and below m, with an entry other than 0 in column c
--   Found a c r m k          k is that row, or none where there is no such row
--   Exchanged a i k b        b is a with the rows i and k exchanged
--   RowLess p x f y c n z    z is the row x less f times the row y, in the columns from c to n
--   Cleared p a v r c m n b  b is a with a multiple of row r taken from each row below it
--   Stepped p a r c m n b    b is what a step of elimination leaves of a
--   Left p a m n r c b       b is what elimination has left of a, at row r and column c
use Rattle.std.specs.Prelude.{◌≡◌, ◌≢◌, ◌↔◌, List, [], ℕ, ◌+◌, ◌≤◌, ◌<◌, Option, Some, None, get_or}
use Rattle.algebra.specs.Residue.{K, red}
use Rattle.algebra.specs.Sum.{swap}
use Rattle.algebra.specs.Matrix.{Matrix}
use Rattle.algebra.specs.Dependence.{Dependent}
use Rattle.layout.specs.Holds.{Each}
use Rattle.elimination.specs.Steps.{Rest}

-- The entry in row i and column j, 0 past the end.
abbrev pub at : List (List ℕ) → ℕ → ℕ → ℕ
at a i j = get_or (get_or a i []) j 0

-- The matrix of residues modulo p that the rows of numbers stand for.
abbrev pub grid : (p : ℕ) → List (List ℕ) → Matrix (K p)
grid p a i j = red p (at a i j)

-- Every entry of a matrix is below p.
abbrev pub Below : ℕ → List (List ℕ) → Type 0
Below p a = (i : ℕ) → Each p (get_or a i [])

-- Row k is the first from r on, of the rows below m, whose entry in column c is not 0 …
pub record Pivot (a : List (List ℕ)) (c r m k : ℕ) : Type 0 where
  pub low : r ≤ k
  pub high : k < m
  pub passed : (i : ℕ) → i < k → r ≤ i → at a i c ≡ 0
  pub found : at a k c ≢ 0

-- … or there is none, and the entry of each is 0.
abbrev pub Found : List (List ℕ) → ℕ → ℕ → ℕ → Option ℕ → Type 0
Found a c r m (Some k) = Pivot a c r m k
Found a c r m None = (i : ℕ) → i < m → r ≤ i → at a i c ≡ 0

-- The rows i and k have changed places, every other row stays.
abbrev pub Exchanged : List (List ℕ) → ℕ → ℕ → List (List ℕ) → Type 0
Exchanged a i k b = (j : ℕ) → get_or b j [] ≡ get_or a (swap i k j) []

module _ (p : ℕ) where
  open K p use {◌⊕◌, ◌⊗◌, ⊖◌}

  infixl 60 ◌⊕◌
  infixl 70 ◌⊗◌
  infix 80 ⊖◌
  -- From the row x, f times the row y is taken, in the columns from c to n. Those from n on stay.
  pub record RowLess (x : List ℕ) (f : ℕ) (y : List ℕ) (c n : ℕ) (z : List ℕ) : Type 0 where
    pub row_below : Each p z
    pub less : (j : ℕ) → j < n → c ≤ j → red p (get_or z j 0) ≡ red p (get_or x j 0) ⊕ ⊖ (red p f ⊗ red p (get_or y j 0))
    pub stay : (j : ℕ) → n ≤ j → get_or z j 0 ≡ get_or x j 0

  -- From each row between row r and row m, row r is taken as often as v times the row's entry in column c says, in the columns
  -- from c to n. Row r and those from m on stay.
  pub record Cleared (a : List (List ℕ)) (v r c m n : ℕ) (b : List (List ℕ)) : Type 0 where
    pub below : Below p b
    pub kept : get_or b r [] ≡ get_or a r []
    pub rows : (i : ℕ) → i < m → r < i → (j : ℕ) → j < n → c ≤ j → grid p b i j ≡ grid p a i j ⊕ ⊖ (grid p a i c ⊗ red p v ⊗ grid p a r j)
    pub stay : (i : ℕ) → m ≤ i → get_or b i [] ≡ get_or a i []

  -- The rows from r + 1 on of b are dependent, in the columns from c + 1 on, exactly if the rows from r on of a are, in those from c on.
  pub record Stepped (a : List (List ℕ)) (r c m n : ℕ) (b : List (List ℕ)) : Type 0 where
    pub below : Below p b
    pub same : Rest (K p) m n r c (grid p a) ↔ Rest (K p) m n (r + 1) (c + 1) (grid p b)

  -- The rows of a are dependent exactly if those of b from r on are, in the columns from c on.
  pub record Left (a : List (List ℕ)) (m n r c : ℕ) (b : List (List ℕ)) : Type 0 where
    pub row_in : r ≤ m
    pub column_in : c ≤ n
    pub below : Below p b
    pub same : Dependent (K p) m n (grid p a) ↔ Rest (K p) m n r c (grid p b)
