-- Condition 3 over the flat arrays: the coefficients of P·F, as sums of products of numbers.
--   flat_product             the coefficients of P·F modulo p
--   product_number           the sum of products whose residue such a coefficient is
--   dot entries f x y n      Σ_{s<n} entries[x + s] · f[y − s]
--   Factors p entries lengths f    what the modulus and the two factors are
--   convolved, entry_part, column_part     the same sum for the coefficients of an entry of P and of one of F: pair_convolved
--   convolved_dot            which of the products count
--   product_residue          the residue of the sum of products is the coefficient
use Rattle.std.specs.Prelude.{◌≡◌, List, ℕ, suc, ◌+◌, ◌-◌, ◌*◌, ◌^◌, ◌≤◌, ◌<◌, min, pos, get_or}
use Rattle.std.proofs.Common.{sym, ap, ap₂, ◌∙◌, add_assoc, mul-zero, zero-mul, zero-add, lt_of_lt_of_le, subst, take, drop, length, arith}
use Rattle.std.proofs.Math.Logic.{by_cases}
use Rattle.std.proofs.Math.Decide.{dec_lt}
use Rattle.std.proofs.Math.ListN.{get_or-eq_default}
use Rattle.std.proofs.lemmas.List.{length-take, get_or-take, get_or-drop}
use Rattle.algebra.specs.Residue.{K, Residue, red, red_mul}
use Rattle.algebra.specs.Sum.{sum_cong}
use Rattle.algebra.specs.Series.{convolve, convolve_sum}
use Rattle.algebra.proofs.Series.{Series}
use Rattle.algebra.specs.Degree.{coefficient}
use Rattle.algebra.proofs.Degree.{coefficient_sum}
use Rattle.algebra.specs.Matrix.{vmul, mmul}
use Rattle.rules.specs.Conditions.{sum_below}
use Rattle.rules.specs.Sizes.{largest_prime, most_rows, most_order, most_length}
use Rattle.layout.specs.Flat.{entry_place, column_place, square_place, length_at, cell, column_cell, cells, column_cells, cell_at, column_cell_at, column_cell_past}
use Rattle.layout.specs.Holds.{Each, Padded}
use Rattle.laws.specs.SumLaws.{sum_below_cong, sum_below_last, sum_window, red_sum}

-- The coefficient at power k of the entry of P·F in row i and column j, modulo p.
unfoldable pub flat_product : (p : ℕ) → List ℕ → List ℕ → ℕ → ℕ → ℕ → ℕ → Residue p
flat_product p entries f m i j k = mmul (Series (K p)) m (cells p entries) (column_cells p f) i j k

-- The sum of products whose residue that is.
unfoldable pub pair_number : List ℕ → List ℕ → ℕ → ℕ → ℕ → ℕ → ℕ
pair_number entries f i j k l = sum_below (suc k) (λ t. cell entries i l t * column_cell f l j (k - t))

unfoldable pub product_number : List ℕ → List ℕ → ℕ → ℕ → ℕ → ℕ → ℕ
product_number entries f m i j k = sum_below m (pair_number entries f i j k)

unfoldable pub dot : List ℕ → List ℕ → ℕ → ℕ → ℕ → ℕ
dot entries f x y n = sum_below n (λ s. get_or entries (x + s) 0 * get_or f (y - s) 0)

-- The coefficient at power k of the product of two polynomials.
unfoldable pub convolved : List ℕ → List ℕ → ℕ → ℕ
convolved p f k = sum_below (suc k) (λ t. get_or p t 0 * get_or f (k - t) 0)

-- The coefficients of an entry of P, and of one of F.
abbrev pub entry_part : (entries lengths : List ℕ) → ℕ → ℕ → List ℕ
entry_part entries lengths i j = take (length_at lengths i j) (drop (entry_place i j 0) entries)

abbrev pub column_part : List ℕ → ℕ → ℕ → List ℕ
column_part f i j = take most_order (drop (column_place i j 0) f)

-- The first power of an entry of P that has a partner in F for the power k, and how many there are.
unfoldable pub first_power : ℕ → ℕ
first_power k = suc k - most_order

unfoldable pub powers : ℕ → ℕ → ℕ
powers n k = min n (suc k) - first_power k

-- What the modulus and the two factors are.
pub record Factors (p : ℕ) (entries lengths f : List ℕ) : Type 0 where
  pub modulus_positive : 0 < p
  pub modulus_most : p ≤ largest_prime
  pub entry_below : Each p entries
  pub column_below : Each p f
  pub padded : Padded most_rows entries lengths

-- One product more.
pub dot_more : (entries f : List ℕ) (x y n : ℕ) → dot entries f x y (n + 1) ≡ dot entries f x y n + get_or entries (x + n) 0 * get_or f (y - n) 0
unfolding dot
dot_more entries f x y n = sum_below_last n (λ s. get_or entries (x + s) 0 * get_or f (y - s) 0)

-- So many products there are at most.
pub row_products : (l : ℕ) → l ≤ most_rows → l * most_length ≤ 2 ^ 10
unfolding most_rows most_length
row_products l h = omega arith

-- How many powers there are, and where they end.
pub powers_end : (n k : ℕ) → first_power k + powers n k ≤ suc k
unfolding powers first_power most_order
powers_end n k = omega arith

powers_past : (n k t : ℕ) → t < suc k → first_power k + powers n k ≤ t → n ≤ t
unfolding powers first_power most_order
powers_past n k t b h = omega arith

pub powers_length : (n k : ℕ) → n ≤ most_length → k ≤ most_order → first_power k + powers n k ≤ most_length
unfolding powers first_power most_order most_length
powers_length n k hn hk = omega arith

first_past : (k t : ℕ) → t < first_power k → most_order ≤ k - t
unfolding first_power most_order
first_past k t h = omega arith

entry_place_add : (i j k s : ℕ) → entry_place i j (k + s) ≡ entry_place i j k + s
unfolding entry_place
entry_place_add i j k s = sym (add_assoc (square_place i j * most_length) k s)

column_place_add : (i j t : ℕ) → column_place i j 0 + t ≡ column_place i j t
unfolding column_place
column_place_add i j t = omega arith

-- The powers that count are those of the entry that go with a coefficient of F.
pub convolved_dot : (p f : List ℕ) (k : ℕ) → length f ≡ most_order
    → convolved p f k ≡ dot p f (first_power k) (k - first_power k) (powers (length p) k)
unfolding convolved dot
convolved_dot p f k long =
    sum_window (suc k) (first_power k) (powers (length p) k) (λ t. get_or p t 0 * get_or f (k - t) 0) (powers_end (length p) k)
    (λ t b. ap (λ x. get_or p t 0 * x) (get_or-eq_default f 0 (omega (arith, first_past k t b))) ∙ mul-zero (get_or p t 0))
    (λ t b h. ap (λ x. x * get_or f (k - t) 0) (get_or-eq_default p 0 (powers_past (length p) k t b h)) ∙ zero-mul (get_or f (k - t) 0))
    ∙ sum_below_cong (powers (length p) k) (λ s. get_or p (first_power k + s) 0 * get_or f (k - (first_power k + s)) 0)
    (λ s. get_or p (first_power k + s) 0 * get_or f (k - first_power k - s) 0)
    (λ s b. ap (λ x. get_or p (first_power k + s) 0 * get_or f x 0) (omega arith))

-- An entry of P and one of F hold the coefficients at their places, and zeros stand behind.
entry_at : (entries lengths : List ℕ) → Padded most_rows entries lengths → (i j t : ℕ) → i < most_rows → j < most_rows
    → get_or (entry_part entries lengths i j) t 0 ≡ cell entries i j t
entry_at entries lengths padded i j t hi hj = by_cases (dec_lt t n)
    (λ h. get_or-take n (drop (entry_place i j 0) entries) t 0 h
    ∙ get_or-drop (entry_place i j 0) entries t 0
    ∙ ap (λ x. get_or entries x 0) (sym (entry_place_add i j 0 t) ∙ ap (entry_place i j) (zero-add t))
    ∙ sym (cell_at entries i j t (lt_of_lt_of_le h (padded.length_most (square_place i j)))))
    (λ h. get_or-eq_default (entry_part entries lengths i j) 0 (omega (arith, length-take n (drop (entry_place i j 0) entries)))
    ∙ sym (padded.past_length i j t hi hj (omega arith)))
  where
    n : ℕ
    n = length_at lengths i j

column_at : (f : List ℕ) (i j t : ℕ) → get_or (column_part f i j) t 0 ≡ column_cell f i j t
column_at f i j t = by_cases (dec_lt t most_order)
    (λ h. get_or-take most_order (drop (column_place i j 0) f) t 0 h
    ∙ get_or-drop (column_place i j 0) f t 0
    ∙ ap (λ x. get_or f x 0) (column_place_add i j t)
    ∙ sym (column_cell_at f i j t h))
    (λ h. get_or-eq_default (column_part f i j) 0 (omega (arith, length-take most_order (drop (column_place i j 0) f)))
    ∙ sym (column_cell_past f i j t (omega arith)))

-- What is so of each number of a list is so of those of a part.
pub each_part : (b : ℕ) (l : List ℕ) (n x : ℕ) → Each b l → Each b (take n (drop x l))
each_part b l n x h i = by_cases (dec_lt i n)
    (λ d. subst (λ y. y < b) (sym (get_or-take n (drop x l) i 0 d ∙ get_or-drop x l i 0)) (h (x + i)))
    (λ d. subst (λ y. y < b) (sym (get_or-eq_default (take n (drop x l)) 0 (omega (arith, length-take n (drop x l))))) (omega (arith, h 0)))

-- So the products of the two are those that count.
pub pair_convolved : (entries lengths f : List ℕ) → Padded most_rows entries lengths → (i j k l : ℕ) → i < most_rows → l < most_rows
    → pair_number entries f i j k l ≡ convolved (entry_part entries lengths i l) (column_part f l j) k
unfolding pair_number convolved
pair_convolved entries lengths f padded i j k l hi hl =
    sum_below_cong (suc k) (λ t. cell entries i l t * column_cell f l j (k - t))
    (λ t. get_or (entry_part entries lengths i l) t 0 * get_or (column_part f l j) (k - t) 0)
    (λ t b. ap₂ ◌*◌ (sym (entry_at entries lengths padded i l t hi hl)) (sym (column_at f l j (k - t))))

-- The residue of the sum of products is the coefficient.
pub product_residue : (p : ℕ) (entries f : List ℕ) (m i j k : ℕ) → red p (product_number entries f m i j k) ≡ flat_product p entries f m i j k
unfolding product_number pair_number flat_product mmul vmul coefficient
product_residue p entries f m i j k =
    red_sum p m (λ l. sum_below (suc k) (λ t. cell entries i l t * column_cell f l j (k - t)))
    ∙ sum_cong (K p) m (λ l. red p (sum_below (suc k) (λ t. cell entries i l t * column_cell f l j (k - t))))
    (λ l. convolve (K p) (cells p entries i l) (column_cells p f l j) k) (λ l b. at l)
    ∙ sym (coefficient_sum (K p) (pos k) m (λ l. convolve (K p) (cells p entries i l) (column_cells p f l j)))
  where
    at : (l : ℕ) → red p (sum_below (suc k) (λ t. cell entries i l t * column_cell f l j (k - t))) ≡ convolve (K p) (cells p entries i l) (column_cells p f l j) k
    at l =
        red_sum p (suc k) (λ t. cell entries i l t * column_cell f l j (k - t))
        ∙ sum_cong (K p) (suc k) (λ t. red p (cell entries i l t * column_cell f l j (k - t)))
        (λ t. (K p).◌⊗◌ (cells p entries i l t) (column_cells p f l j (k - t))) (λ t b. red_mul p (cell entries i l t) (column_cell f l j (k - t)))
        ∙ sym (convolve_sum (K p) (cells p entries i l) (column_cells p f l j) k)
