-- Arrays of one size that hold the numbers of a smaller matrix, with zeros past it, and how a loop fills them from the front.
--   row_of n g               the row of g 0, …, g (n − 1), and zeros
--   array_of m n g           the m rows of g with n columns, and zeros
--   Filled d z n k g l       the list l of n values has g i at each i below k, and z from there on; read with the default d
use Rattle.std.specs.Prelude.{◌≡◌, refl, Bool, true, false, cond, ◌≢◌, List, [], ℕ, ◌+◌, ◌≤◌, ◌<◌, ltb, length, get_or, set}
use Rattle.std.proofs.Common.{sym, ap, subst, ◌∙◌, lt_of_lt_of_le, arith, lt-ltb, le-ltb, ltb-true, ltb-false, length-set, get_or-set_same, get_or-set_other}
use Rattle.std.proofs.Math.Path.{fun_ext}
use Rattle.std.proofs.Math.Decide.{ℕ_discrete}
use Rattle.rules.specs.Table.{table, length_table, get_or_table, table_all, table_ext}
use Rattle.rules.specs.Sizes.{most_rows}
use Rattle.layout.specs.Flat.{width}

-- The values below k, and z from there on.
abbrev pub up_to : {A : Type 0} → A → ℕ → (ℕ → A) → ℕ → A
up_to z k g i = cond (ltb i k) (g i) z

-- A row of the array: n numbers, and zeros.
unfoldable pub row_of : ℕ → (ℕ → ℕ) → List ℕ
row_of n g = table width (up_to 0 n g)

-- The rows of a matrix with n columns, and the row of zeros.
abbrev pub rows_of : ℕ → (ℕ → ℕ → ℕ) → ℕ → List ℕ
rows_of n g i = row_of n (g i)

unfoldable pub zero_row : List ℕ
zero_row = table width (λ j. 0)

-- The array: m rows of n numbers, and zeros.
unfoldable pub array_of : ℕ → ℕ → (ℕ → ℕ → ℕ) → List (List ℕ)
array_of m n g = table most_rows (up_to zero_row m (rows_of n g))

-- The values below k and from k on.
pub up_to_below : {A : Type 0} (z : A) (k : ℕ) (g : ℕ → A) (i : ℕ) → i < k → up_to z k g i ≡ g i
up_to_below z k g i h = ap (λ b. cond b (g i) z) (lt-ltb i k h)

pub up_to_above : {A : Type 0} (z : A) (k : ℕ) (g : ℕ → A) (i : ℕ) → k ≤ i → up_to z k g i ≡ z
up_to_above z k g i h = ap (λ b. cond b (g i) z) (le-ltb i k h)

-- A row of zeros, however many of them count.
pub row_of_zeros : (n : ℕ) (g : ℕ → ℕ) → ((j : ℕ) → g j ≡ 0) → row_of n g ≡ zero_row
unfolding row_of zero_row
row_of_zeros n g zeros = ap (table width) (fun_ext (λ j. elim (ltb j n) as (λ b. cond b (g j) 0 ≡ 0) [ true ↦ zeros j | false ↦ refl ]))

-- One value more changes only that one.
ltb_other : (i k : ℕ) → i ≢ k → ltb i (k + 1) ≡ ltb i k
ltb_other i k ne = by (ltb i k) refl
  where
    by : (b : Bool) → ltb i k ≡ b → ltb i (k + 1) ≡ ltb i k
    by true e = let h : i < k = ltb-true i k e in lt-ltb i (k + 1) (omega arith) ∙ sym e
    by false e = let h : k ≤ i = ltb-false i k e in le-ltb i (k + 1) (omega arith) ∙ sym e

-- A list of n values, of which the first k are filled in.
pub record Filled {A : Type 0} (d z : A) (n k : ℕ) (g : ℕ → A) (l : List A) : Type 0 where
  pub size : length l ≡ n
  pub holds : (i : ℕ) → i < n → get_or l i d ≡ up_to z k g i

module _ {A : Type 0} (d z : A) (n : ℕ) (g : ℕ → A) where
  -- At first every value is z …
  pub filled_none : (l : List A) → l ≡ table n (λ i. z) → Filled d z n 0 g l
  filled_none l e =
      record {
        size = ap length e ∙ length_table n (λ i. z);
        holds = λ i h. ap (λ l. get_or l i d) e ∙ get_or_table n (λ i. z) d i h ∙ sym (up_to_above z 0 g i (omega arith));
      }

  -- … a store at k fills in one more …
  pub filled_more : (k : ℕ) (l : List A) (x : A) → Filled d z n k g l → k < n → x ≡ g k → Filled d z n (k + 1) g (set l k x)
  filled_more k l x f b e =
      record { size = length-set l k x ∙ f.size; holds = λ i h. at i h (ℕ_discrete i k) }
    where
      at : (i : ℕ) → i < n → Dec (i ≡ k) → get_or (set l k x) i d ≡ up_to z (k + 1) g i
      at i h (yes same) =
          ap (λ i. get_or (set l k x) i d) same
          ∙ get_or-set_same l k x d (subst (λ n. k < n) (sym f.size) b)
          ∙ e
          ∙ sym (up_to_below z (k + 1) g k (omega arith))
          ∙ ap (λ i. up_to z (k + 1) g i) (sym same)
      at i h (no ne) = get_or-set_other l k i x d ne ∙ f.holds i h ∙ ap (λ b. cond b (g i) z) (sym (ltb_other i k ne))

  -- … and what it comes to is the table.
  pub filled_table : (k : ℕ) (l : List A) → Filled d z n k g l → l ≡ table n (up_to z k g)
  filled_table k l f = table_ext n (up_to z k g) d l f.size f.holds

-- A row of which k numbers are filled in, and the rows of which k are.
abbrev pub RowFilled : ℕ → (ℕ → ℕ) → List ℕ → Type 0
RowFilled = Filled 0 0 width

abbrev pub RowsFilled : ℕ → ℕ → (ℕ → ℕ → ℕ) → List (List ℕ) → Type 0
RowsFilled k n g = Filled [] zero_row most_rows k (rows_of n g)

-- With all filled in they are the row and the array.
pub filled_row : {k n : ℕ} {row : List ℕ} (g : ℕ → ℕ) → RowFilled k g row → k ≡ n → row ≡ row_of n g
unfolding row_of
filled_row {k} {n} {row} g f e = filled_table 0 0 width g k row f ∙ ap (λ k. row_of k g) e

pub filled_array : {k m : ℕ} {rows : List (List ℕ)} (n : ℕ) (g : ℕ → ℕ → ℕ) → RowsFilled k n g rows → k ≡ m → rows ≡ array_of m n g
unfolding array_of
filled_array {k} {m} {rows} n g f e = filled_table [] zero_row most_rows (rows_of n g) k rows f ∙ ap (λ k. array_of k n g) e

-- Which numbers the array holds: those of g in the first m rows and n columns …
pub array_of_at : (m n : ℕ) (g : ℕ → ℕ → ℕ) (i j : ℕ) → i < m → j < n → m ≤ most_rows → n ≤ width
    → get_or (get_or (array_of m n g) i []) j 0 ≡ g i j
unfolding array_of row_of
array_of_at m n g i j hi hj hm hn =
    ap (λ l. get_or l j 0)
    (get_or_table most_rows (up_to zero_row m (rows_of n g)) [] i (lt_of_lt_of_le hi hm) ∙ up_to_below zero_row m (rows_of n g) i hi)
    ∙ get_or_table width (up_to 0 n (g i)) 0 j (lt_of_lt_of_le hj hn)
    ∙ up_to_below 0 n (g i) j hj

-- What every value has, and the default, is had by whatever is read.
up_to_all : {A : Type 0} (P : A → Type 0) (z : A) (k : ℕ) (g : ℕ → A) → P z → ((i : ℕ) → P (g i)) → (i : ℕ) → P (up_to z k g i)
up_to_all P z k g pz pg i = elim (ltb i k) as (λ b. P (cond b (g i) z)) [ true ↦ pg i | false ↦ pz ]

-- … all below p, where those of g are.
pub array_of_below : (p m n : ℕ) (g : ℕ → ℕ → ℕ) → 0 < p → ((i j : ℕ) → g i j < p) → (i j : ℕ) → get_or (get_or (array_of m n g) i []) j 0 < p
unfolding array_of row_of zero_row
array_of_below p m n g zero_below below =
    table_all most_rows (up_to zero_row m (rows_of n g)) [] (λ l. (j : ℕ) → get_or l j 0 < p) (λ j. zero_below)
    (up_to_all (λ l. (j : ℕ) → get_or l j 0 < p) zero_row m (rows_of n g)
    (table_all width (λ j. 0) 0 (λ x. x < p) zero_below (λ j. zero_below))
    (λ i. table_all width (up_to 0 n (g i)) 0 (λ x. x < p) zero_below (up_to_all (λ x. x < p) 0 n (g i) zero_below (below i))))
