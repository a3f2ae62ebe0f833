-- Condition 4 over the flat arrays: the matrix [P(0) C].
--   rank_number a c m        its numbers
--   rank_array               modulo p it is the constant coefficients of P beside C
use Rattle.std.specs.Prelude.{◌≡◌, refl, List, [], ℕ, zero, suc, ◌+◌, ◌-◌, ◌≤◌, ◌<◌, get_or}
use Rattle.std.proofs.Common.{sym, ap, ◌∙◌, add-sub_of_le, arith}
use Rattle.algebra.specs.Residue.{red}
use Rattle.algebra.specs.Matrix.{beside, beside_left, beside_right}
use Rattle.rules.specs.Sizes.{most_rows}
use Rattle.layout.specs.Flat.{square_place, cell, cells, cell_below}
use Rattle.layout.specs.Holds.{Each}
use Rattle.matrix.specs.Fill.{array_of, array_of_at, array_of_below}

-- "the rows of [P(0) C]. Its rows have m + n numbers."
unfoldable pub rank_number : List ℕ → List ℕ → ℕ → ℕ → ℕ → ℕ
rank_number entries c m = beside m (λ i j. cell entries i j 0) (λ i j. get_or c (square_place i j) 0)

-- The columns of P(0), and those of C.
pub rank_number_left : (entries c : List ℕ) (m i j : ℕ) → j < m → rank_number entries c m i j ≡ cell entries i j 0
unfolding rank_number
rank_number_left entries c m i j h = beside_left m (λ i j. cell entries i j 0) (λ i j. get_or c (square_place i j) 0) i j h

pub rank_number_right : (entries c : List ℕ) (m i j : ℕ) → m ≤ j → rank_number entries c m i j ≡ get_or c (square_place i (j - m)) 0
unfolding rank_number
rank_number_right entries c m i j h =
    ap (rank_number entries c m i) (sym (add-sub_of_le h)) ∙ beside_right m (λ i j. cell entries i j 0) (λ i j. get_or c (square_place i j) 0) i (j - m)

-- A function of every entry of two matrices beside each other.
beside_map : {A B : Type 0} (F : A → B) (m : ℕ) (P Q : ℕ → ℕ → A) (i j : ℕ) → F (beside m P Q i j) ≡ beside m (λ i j. F (P i j)) (λ i j. F (Q i j)) i j
unfolding beside
beside_map F zero P Q i j = refl
beside_map F (suc m) P Q i zero = refl
beside_map F (suc m) P Q i (suc j) = beside_map F m (λ i j. P i (suc j)) Q i j

beside_all : (P : ℕ → Type 0) (m : ℕ) (A B : ℕ → ℕ → ℕ) → ((i j : ℕ) → P (A i j)) → ((i j : ℕ) → P (B i j)) → (i j : ℕ) → P (beside m A B i j)
unfolding beside
beside_all P zero A B pa pb i j = pb i j
beside_all P (suc m) A B pa pb i zero = pa i zero
beside_all P (suc m) A B pa pb i (suc j) = beside_all P m (λ i j. A i (suc j)) B (λ i j. pa i (suc j)) pb i j

-- Modulo p the array is the constant coefficients of P beside C.
pub rank_array : (p : ℕ) (entries c : List ℕ) (m n i j : ℕ) → i < m → j < m + n → m ≤ most_rows → n ≤ most_rows
    → red p (get_or (get_or (array_of m (m + n) (rank_number entries c m)) i []) j 0)
    ≡ beside m (λ i j. cells p entries i j 0) (λ i j. red p (get_or c (square_place i j) 0)) i j
unfolding rank_number
rank_array p entries c m n i j hi hj hm hn =
    ap (red p) (array_of_at m (m + n) (rank_number entries c m) i j hi hj hm (omega arith))
    ∙ beside_map (red p) m (λ i j. cell entries i j 0) (λ i j. get_or c (square_place i j) 0) i j

-- Its numbers are below p where those of P and C are.
pub rank_array_below : (p : ℕ) (entries c : List ℕ) (m n : ℕ) → 0 < p → Each p entries → Each p c
    → (i j : ℕ) → get_or (get_or (array_of m (m + n) (rank_number entries c m)) i []) j 0 < p
unfolding rank_number
rank_array_below p entries c m n zero_below below_entries below_c =
    array_of_below p m (m + n) (rank_number entries c m) zero_below
    (beside_all (λ x. x < p) m (λ i j. cell entries i j 0) (λ i j. get_or c (square_place i j) 0)
    (λ i j. cell_below p entries i j zero_below below_entries 0) (λ i j. below_c (square_place i j)))
