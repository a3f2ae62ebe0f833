-- Condition 1 over the flat arrays: the leading matrix.
--   at_power z f             the coefficient of f at the integer z, 0 where z is negative
--   at_converted, at_unconverted     by what a conversion makes of z
--   at_degree, leading_number      the numbers of the leading matrix
--   leading_array            modulo p it is that of the polynomials
use Rattle.std.specs.Prelude.{◌≡◌, refl, List, [], ℕ, ◌^◌, ◌≤◌, ◌<◌, ℤ, pos, negsuc, nat_abs, ◌-ℤ◌, get_or, Option, None, Some}
use Rattle.std.proofs.Common.{sym, ap, ◌∙◌, arith}
use Rattle.std.specs.Int.{FitsUnsignedBits}
use Rattle.algebra.specs.Residue.{K, red}
use Rattle.algebra.specs.Degree.{coefficient}
use Rattle.rules.specs.Conditions.{row_degree_of, leading_coefficient}
use Rattle.rules.specs.Sizes.{most_rows}
use Rattle.layout.specs.Flat.{length_at, shift_at, cell, cells, cell_below}
use Rattle.layout.specs.Holds.{Each}
use Rattle.matrix.specs.Fill.{array_of, array_of_at, array_of_below}

-- The number at the integer z: 0 where z is negative.
unfoldable pub at_power : ℤ → (ℕ → ℕ) → ℕ
at_power (pos k) f = f k
at_power (negsuc k) f = 0

-- By what a conversion makes of the power: where it is a natural number what stands there, …
pub at_converted : (z : ℤ) (k : ℕ) (f : ℕ → ℕ) → FitsUnsignedBits 64 z × (k ≡ nat_abs z) → at_power z f ≡ f k
unfolding at_power
at_converted (pos n) k f (fits, e) = ap f (sym e)
at_converted (negsuc n) k f (fits, e) = absurd fits

-- … and 0 where it is none.
pub at_unconverted : (z : ℤ) (f : ℕ → ℕ) → nat_abs z < 2 ^ 64 → (FitsUnsignedBits 64 z → ⊥) → at_power z f ≡ 0
unfolding at_power
at_unconverted (pos n) f small unfit = absurd (unfit small)
at_unconverted (negsuc n) f small unfit = refl

-- It is below p where all are.
pub at_power_below : (p : ℕ) (z : ℤ) (f : ℕ → ℕ) → 0 < p → ((k : ℕ) → f k < p) → at_power z f < p
unfolding at_power
at_power_below p (pos k) f zero_below below = below k
at_power_below p (negsuc k) f zero_below below = zero_below

-- Modulo p it is the coefficient of the polynomial.
pub red_at_power : (p : ℕ) (z : ℤ) (f : ℕ → ℕ) → red p (at_power z f) ≡ coefficient (K p) z (λ k. red p (f k))
unfolding at_power coefficient
red_at_power p (pos k) f = refl
red_at_power p (negsuc k) f = refl

-- The number at the degree of a row less a shift: 0 where the row has none.
unfoldable pub at_degree : Option ℤ → ℤ → (ℕ → ℕ) → ℕ
at_degree None s f = 0
at_degree (Some r) s f = at_power (r -ℤ s) f

-- "The leading matrix holds at (i, j) the coefficient of P's entry at the power (row degree − s_j), or 0 if the entry has none there
-- or that power is negative."
unfoldable pub leading_number : List ℕ → List ℕ → List ℤ → ℕ → ℕ → ℕ → ℕ
leading_number entries lengths shifts m i j = at_degree (row_degree_of m (length_at lengths i) (shift_at shifts)) (shift_at shifts j) (cell entries i j)

-- In a row that has a degree it is the number at that power, …
pub leading_some : (entries lengths : List ℕ) (shifts : List ℤ) (m i j : ℕ) (r : ℤ) → row_degree_of m (length_at lengths i) (shift_at shifts) ≡ Some r
    → leading_number entries lengths shifts m i j ≡ at_power (r -ℤ shift_at shifts j) (cell entries i j)
unfolding leading_number at_degree
leading_some entries lengths shifts m i j r e = ap (λ o. at_degree o (shift_at shifts j) (cell entries i j)) e

-- … and in a row that has none it is 0.
pub leading_none : (entries lengths : List ℕ) (shifts : List ℤ) (m i j : ℕ) → row_degree_of m (length_at lengths i) (shift_at shifts) ≡ None
    → leading_number entries lengths shifts m i j ≡ 0
unfolding leading_number at_degree
leading_none entries lengths shifts m i j e = ap (λ o. at_degree o (shift_at shifts j) (cell entries i j)) e

red_at_degree : (p : ℕ) (o : Option ℤ) (s : ℤ) (f : ℕ → ℕ) → red p (at_degree o s f) ≡ leading_coefficient p o s (λ k. red p (f k))
unfolding at_degree
red_at_degree p None s f = refl
red_at_degree p (Some r) s f = red_at_power p (r -ℤ s) f

at_degree_below : (p : ℕ) (o : Option ℤ) (s : ℤ) (f : ℕ → ℕ) → 0 < p → ((k : ℕ) → f k < p) → at_degree o s f < p
unfolding at_degree
at_degree_below p None s f zero_below below = zero_below
at_degree_below p (Some r) s f zero_below below = at_power_below p (r -ℤ s) f zero_below below

-- Modulo p the array is the leading matrix of the polynomials, for the row degrees and the shifts.
pub leading_array : (p : ℕ) (entries lengths : List ℕ) (shifts : List ℤ) (m i j : ℕ) → i < m → j < m → m ≤ most_rows
    → red p (get_or (get_or (array_of m m (leading_number entries lengths shifts m)) i []) j 0)
    ≡ leading_coefficient p (row_degree_of m (length_at lengths i) (shift_at shifts)) (shift_at shifts j) (cells p entries i j)
unfolding leading_number
leading_array p entries lengths shifts m i j hi hj hm =
    ap (red p) (array_of_at m m (leading_number entries lengths shifts m) i j hi hj hm (omega arith))
    ∙ red_at_degree p (row_degree_of m (length_at lengths i) (shift_at shifts)) (shift_at shifts j) (cell entries i j)

-- Its numbers are below p where the coefficients are.
pub leading_array_below : (p : ℕ) (entries lengths : List ℕ) (shifts : List ℤ) (m : ℕ) → 0 < p → Each p entries
    → (i j : ℕ) → get_or (get_or (array_of m m (leading_number entries lengths shifts m)) i []) j 0 < p
unfolding leading_number
leading_array_below p entries lengths shifts m pos_p below =
    array_of_below p m m (leading_number entries lengths shifts m) pos_p (λ i j.
    at_degree_below p (row_degree_of m (length_at lengths i) (shift_at shifts)) (shift_at shifts j) (cell entries i j) pos_p
    (cell_below p entries i j pos_p below))
