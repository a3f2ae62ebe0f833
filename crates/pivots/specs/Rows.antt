-- Small squares of numbers, row by row in flat lists, and what the steps on them leave.
--   Full l                   a list with a number for each entry
--   square_of p l            the matrix of residues modulo p
--   number_of_residue, square_ext      a number below p is settled by its residue, and a list by its entries
--   Identity n l             the first n rows of the identity
--   ZeroRow, FirstColumn     row i is 0, or column c is the first in which it is not
--   Copied, RowLess, BothLess, Cleared       a row that was copied; a multiple of a row taken from one row, in two squares, from each that waits
use Rattle.std.specs.Prelude.{◌≡◌, refl, ◌≢◌, Bool, false, List, ℕ, ◌/◌, ◌%◌, ◌≤◌, ◌<◌, length, get_or, set}
use Rattle.std.proofs.Common.{sym, ap, subst, ◌∙◌, mod-eq_of_lt, arith, get_or-set_same, get_or-set_other, ext_get_or}
use Rattle.std.proofs.Math.Logic.{by_cases}
use Rattle.std.proofs.Math.Decide.{ℕ_discrete}
use Rattle.algebra.specs.Residue.{K, red, red_eq}
use Rattle.algebra.specs.Matrix.{Matrix}
use Rattle.rules.specs.Sizes.{most_rows}
use Rattle.rules.specs.Table.{table, table_all}
use Rattle.layout.specs.Flat.{square, square_place}
use Rattle.layout.specs.Holds.{Each}

-- The number of row i and column j.
abbrev pub number_at : List ℕ → ℕ → ℕ → ℕ
number_at l i j = get_or l (square_place i j) 0

-- The matrix of residues modulo p that a list of numbers stands for.
abbrev pub square_of : (p : ℕ) → List ℕ → Matrix (K p)
square_of p l i j = red p (number_at l i j)

-- Two places are different where their rows or their columns are.
pub places_differ : (i j a b : ℕ) → j < most_rows → b < most_rows → ((i ≡ a) → j ≢ b) → square_place i j ≢ square_place a b
unfolding square_place most_rows
places_differ i j a b hj hb ne e = by_cases (ℕ_discrete i a) (λ same. ne same (omega arith)) (λ other. other (omega arith))

-- A place is within the list.
pub place_inside : (i j : ℕ) → i < most_rows → j < most_rows → square_place i j < square
unfolding square_place most_rows
place_inside i j hi hj = omega arith

-- A list with a number for each entry.
abbrev pub Full : List ℕ → Type 0
Full l = length l ≡ square

-- A store is read back, and the other numbers stay.
pub number_set : (l : List ℕ) (i j x : ℕ) → Full l → i < most_rows → j < most_rows → number_at (set l (square_place i j) x) i j ≡ x
number_set l i j x e hi hj = get_or-set_same l (square_place i j) x 0 (subst (λ n. square_place i j < n) (sym e) (place_inside i j hi hj))

pub number_stays : (l : List ℕ) (i j x a b : ℕ) → j < most_rows → b < most_rows → ((a ≡ i) → b ≢ j)
    → number_at (set l (square_place i j) x) a b ≡ number_at l a b
number_stays l i j x a b hj hb ne = get_or-set_other l (square_place i j) (square_place a b) x 0 (places_differ a b i j hb hj ne)

-- What holds of every number, and of the one that is stored, holds of every number after the store.
pub each_set : (p : ℕ) (l : List ℕ) (k x : ℕ) → k < length l → Each p l → x < p → Each p (set l k x)
each_set p l k x inside below small a = by_cases (ℕ_discrete a k)
    (λ e. subst (λ y. y < p) (sym (ap (λ z. get_or (set l k x) z 0) e ∙ get_or-set_same l k x 0 inside)) small)
    (λ ne. subst (λ y. y < p) (sym (get_or-set_other l k a x 0 ne)) (below a))

-- Two numbers below p with the same residue are equal.
pub number_of_residue : (p x y : ℕ) → 0 < p → x < p → y < p → red p x ≡ red p y → x ≡ y
number_of_residue p x y positive hx hy e = sym (mod-eq_of_lt hx) ∙ (red_eq p positive x y).0 e ∙ mod-eq_of_lt hy

-- Where a place of a square is, and that a list of the full length is settled by its entries.
place_of : (k : ℕ) → square_place (k / most_rows) (k % most_rows) ≡ k
unfolding square_place most_rows
place_of k = omega arith

row_inside : (k : ℕ) → k < square → k / most_rows < most_rows
unfolding most_rows
row_inside k h = omega arith

column_inside : (k : ℕ) → k % most_rows < most_rows
unfolding most_rows
column_inside k = omega arith

-- The row and the column of a place.
pub row_of_place : (i j : ℕ) → j < most_rows → square_place i j / most_rows ≡ i
unfolding square_place most_rows
row_of_place i j h = omega arith

pub column_of_place : (i j : ℕ) → j < most_rows → square_place i j % most_rows ≡ j
unfolding square_place most_rows
column_of_place i j h = omega arith

pub square_ext : (l l' : List ℕ) → Full l → Full l' → ((i j : ℕ) → i < most_rows → j < most_rows → number_at l i j ≡ number_at l' i j) → l ≡ l'
square_ext l l' full full' same =
    ext_get_or 0 l l' (full ∙ sym full') (λ k hk. subst (λ a. get_or l a 0 ≡ get_or l' a 0) (place_of k)
    (same (k / most_rows) (k % most_rows) (row_inside k (subst (λ n. k < n) full hk)) (column_inside k)))

-- A list of one value, and of zeros.
pub same_at : {A : Type 0} (value : A) (n k : ℕ) → get_or (table n (λ i. value)) k value ≡ value
same_at value n k = table_all n (λ i. value) value (λ x. x ≡ value) refl (λ i. refl) k

pub zeros_at : (n k : ℕ) → get_or {A = ℕ} (table n (λ i. 0)) k 0 ≡ 0
zeros_at = same_at 0

-- Of the identity n rows are there, and the rest is 0.
pub record Identity (n : ℕ) (l : List ℕ) : Type 0 where
  pub full : Full l
  pub small : Each 2 l
  pub diagonal : (i : ℕ) → i < n → number_at l i i ≡ 1
  pub off : (i j : ℕ) → i < most_rows → j < most_rows → i ≢ j → number_at l i j ≡ 0

-- Row i is 0, …
abbrev pub ZeroRow : List ℕ → ℕ → Type 0
ZeroRow l i = (j : ℕ) → j < most_rows → number_at l i j ≡ 0

-- … or it is 0 before column c, and not 0 there.
pub record FirstColumn (l : List ℕ) (i c : ℕ) : Type 0 where
  pub inside : c < most_rows
  pub zeros : (j : ℕ) → j < c → number_at l i j ≡ 0
  pub nonzero : number_at l i c ≢ 0

-- The first n numbers of row i were copied, and the others stay.
pub record Copied (before rows : List ℕ) (i n : ℕ) (after : List ℕ) : Type 0 where
  pub full : Full after
  pub below : (p : ℕ) → Each p before → Each p rows → Each p after
  pub copied : (j : ℕ) → j < n → number_at after i j ≡ number_at rows i j
  pub stays : (a b : ℕ) → b < most_rows → (a ≡ i → n ≤ b) → number_at after a b ≡ number_at before a b

module _ (p : ℕ) where
  open K p use {◌⊕◌, ◌⊗◌, ⊖◌}

  infixl 60 ◌⊕◌
  infixl 70 ◌⊗◌
  infix 80 ⊖◌
  -- In the first n columns f times row r was taken from row i, and the other numbers stay.
  pub record RowLess (before : List ℕ) (i f r n : ℕ) (after : List ℕ) : Type 0 where
    pub full : Full after
    pub below : Each p after
    pub less : (j : ℕ) → j < n → square_of p after i j ≡ square_of p before i j ⊕ ⊖ (red p f ⊗ square_of p before r j)
    pub stays : (a b : ℕ) → b < most_rows → (a ≡ i → n ≤ b) → number_at after a b ≡ number_at before a b

  -- From row k of both squares row r was taken, as often as the residual of row k in column c times v.
  pub record BothLess (residuals work : List ℕ) (k r c v : ℕ) (residuals' work' : List ℕ) : Type 0 where
    pub residuals_full : Full residuals'
    pub work_full : Full work'
    pub residuals_below : Each p residuals'
    pub work_below : Each p work'
    pub residuals_less : (j : ℕ) → j < most_rows
        → square_of p residuals' k j ≡ square_of p residuals k j ⊕ ⊖ (square_of p residuals k c ⊗ red p v ⊗ square_of p residuals r j)
    pub work_less : (j : ℕ) → j < most_rows
        → square_of p work' k j ≡ square_of p work k j ⊕ ⊖ (square_of p residuals k c ⊗ red p v ⊗ square_of p work r j)
    pub residuals_stay : (a b : ℕ) → b < most_rows → a ≢ k → number_at residuals' a b ≡ number_at residuals a b
    pub work_stay : (a b : ℕ) → b < most_rows → a ≢ k → number_at work' a b ≡ number_at work a b

  -- So of each of the first m rows that wait; the others stay.
  pub record Cleared (residuals work : List ℕ) (taken : List Bool) (r c v m : ℕ) (residuals' work' : List ℕ) : Type 0 where
    pub residuals_full : Full residuals'
    pub work_full : Full work'
    pub residuals_below : Each p residuals'
    pub work_below : Each p work'
    pub residuals_less : (k j : ℕ) → k < m → j < most_rows → get_or taken k false ≡ false
        → square_of p residuals' k j ≡ square_of p residuals k j ⊕ ⊖ (square_of p residuals k c ⊗ red p v ⊗ square_of p residuals r j)
    pub work_less : (k j : ℕ) → k < m → j < most_rows → get_or taken k false ≡ false
        → square_of p work' k j ≡ square_of p work k j ⊕ ⊖ (square_of p residuals k c ⊗ red p v ⊗ square_of p work r j)
    pub residuals_stay : (a b : ℕ) → b < most_rows → (a < m → get_or taken a false ≢ false) → number_at residuals' a b ≡ number_at residuals a b
    pub work_stay : (a b : ℕ) → b < most_rows → (a < m → get_or taken a false ≢ false) → number_at work' a b ≡ number_at work a b
