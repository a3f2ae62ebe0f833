-- Condition 1 over the flat arrays: the degrees of the rows and their sum, which are the rules' for the lengths and the shifts that the
-- arrays hold.
--   Sized lengths shifts     the sizes of document 01
--   entry_term, excess       what a row's degree is the largest of, and what the degree sum is the sum of
--   largest_from, total_from the largest and the sum from some place on, as a loop from the end finds them
use Rattle.std.specs.Prelude.{◌≡◌, refl, List, ℕ, zero, suc, ◌+◌, ◌-◌, ◌*◌, ◌≤◌, ◌<◌, ℤ, pos}
use Rattle.std.proofs.Common.{sym, ◌∙◌, arith}
use Rattle.std.proofs.Math.Path.{ap}
use Rattle.std.specs.Prelude.{Option, None, Some}
use Rattle.std.proofs.lemmas.Option.{same_Some, none-some}
use Rattle.std.proofs.Math.IntN.{nat_abs}
use Rattle.algebra.specs.Integer.{nat_abs_add}
use Rattle.rules.specs.Conditions.{shifted_degree_of, larger, largest, plus, total, less, row_degree_of, degree_sum_of}
use Rattle.rules.specs.Sizes.{most_length, most_shift}
use Rattle.laws.specs.DegreeLaws.{total_none, total_less, shifted_is}
use Rattle.laws.specs.Magnitudes.{nat_abs_largest, nat_abs_total}
use Rattle.layout.specs.Flat.{square_place, length_at, shift_at}
use Rattle.layout.specs.Holds.{Short}
use Rattle.degrees.specs.Signed.{nat_abs_minus}
use Rattle.degrees.specs.From.{from, from_end, from_step}

-- The lengths of P's entries and the shifts are within document 01's sizes.
pub record Sized (lengths : List ℕ) (shifts : List ℤ) : Type 0 where
  pub length_most : Short lengths
  pub shift_most : (j : ℕ) → nat_abs (shift_at shifts j) ≤ most_shift

-- Degree plus the column's shift.
abbrev pub entry_term : List ℕ → List ℤ → ℕ → ℕ → Option ℤ
entry_term lengths shifts i j = shifted_degree_of (length_at lengths i j) (shift_at shifts j)

-- The row degrees less the shifts, one by one.
abbrev pub excess : List ℕ → List ℤ → ℕ → ℕ → Option ℤ
excess lengths shifts m i = less (row_degree_of m (length_at lengths i) (shift_at shifts)) (shift_at shifts i)

-- The largest and the sum from a place on.
abbrev pub largest_from : (ℕ → Option ℤ) → ℕ → ℕ → Option ℤ
largest_from = from largest

abbrev pub total_from : (ℕ → Option ℤ) → ℕ → ℕ → Option ℤ
total_from = from total

largest_zero : (f : ℕ → Option ℤ) → largest zero f ≡ None
unfolding largest
largest_zero f = refl

largest_suc : (n : ℕ) (f : ℕ → Option ℤ) → largest (suc n) f ≡ larger (f zero) (largest n (λ t. f (suc t)))
unfolding largest
largest_suc n f = refl

total_zero : (f : ℕ → Option ℤ) → total zero f ≡ Some (pos 0)
unfolding total
total_zero f = refl

total_suc : (n : ℕ) (f : ℕ → Option ℤ) → total (suc n) f ≡ plus (f zero) (total n (λ t. f (suc t)))
unfolding total
total_suc n f = refl

-- Both begin at the end, …
pub largest_from_end : (f : ℕ → Option ℤ) (n : ℕ) → largest_from f n n ≡ None
largest_from_end = from_end largest larger None largest_zero largest_suc

pub total_from_end : (f : ℕ → Option ℤ) (n : ℕ) → total_from f n n ≡ Some (pos 0)
total_from_end = from_end total plus (Some (pos 0)) total_zero total_suc

-- … and take one step after another to the front.
pub largest_from_step : (f : ℕ → Option ℤ) (n j : ℕ) → 0 < j → j ≤ n → larger (f (j - 1)) (largest_from f n j) ≡ largest_from f n (j - 1)
largest_from_step = from_step largest larger None largest_zero largest_suc

pub total_from_step : (f : ℕ → Option ℤ) (n j : ℕ) → 0 < j → j ≤ n → plus (f (j - 1)) (total_from f n j) ≡ total_from f n (j - 1)
total_from_step = from_step total plus (Some (pos 0)) total_zero total_suc

-- Over all rows the sum is Δ …
pub total_excess : (lengths : List ℕ) (shifts : List ℤ) (m : ℕ)
    → total m (excess lengths shifts m) ≡ degree_sum_of m (length_at lengths) (shift_at shifts)
unfolding degree_sum_of
total_excess lengths shifts m = total_less m (λ i. row_degree_of m (length_at lengths i) (shift_at shifts)) (shift_at shifts)

-- … and there is none where a row has no degree.
pub excess_none : (lengths : List ℕ) (shifts : List ℤ) (m i : ℕ) → i < m → row_degree_of m (length_at lengths i) (shift_at shifts) ≡ None
    → degree_sum_of m (length_at lengths) (shift_at shifts) ≡ None
excess_none lengths shifts m i b e =
    sym (total_excess lengths shifts m) ∙ total_none m (excess lengths shifts m) i b (ap (λ o. less o (shift_at shifts i)) e)

module _ (lengths : List ℕ) (shifts : List ℤ) (sized : Sized lengths shifts) where
  -- The sizes of the degrees of rows, of what they exceed the shifts by, and of the sums.
  pub row_degree_size : (m i : ℕ) (r : ℤ) → row_degree_of m (length_at lengths i) (shift_at shifts) ≡ Some r → nat_abs r ≤ most_length + most_shift
  unfolding row_degree_of
  row_degree_size m i =
      nat_abs_largest (most_length + most_shift) m (entry_term lengths shifts i) (λ j x b e.
      let (d, l, is) = shifted_is (length_at lengths i j) (shift_at shifts j) x e in
      omega (arith, ap nat_abs is, nat_abs_add (pos d) (shift_at shifts j), sized.length_most (square_place i j), sized.shift_most j))

  pub excess_size : (m i : ℕ) (z : ℤ) → excess lengths shifts m i ≡ Some z → nat_abs z ≤ most_length + most_shift + most_shift
  excess_size m i z e = by (row_degree_of m (length_at lengths i) (shift_at shifts)) refl e
    where
      by : (o : Option ℤ) → row_degree_of m (length_at lengths i) (shift_at shifts) ≡ o → less o (shift_at shifts i) ≡ Some z
          → nat_abs z ≤ most_length + most_shift + most_shift
      by None h e = absurd (none-some _ e)
      by (Some r) h e =
          omega (arith, ap nat_abs (same_Some _ _ e), nat_abs_minus r (shift_at shifts i), row_degree_size m i r h, sized.shift_most i)

  pub total_from_size : (m i : ℕ) (z : ℤ) → total_from (excess lengths shifts m) m i ≡ Some z → nat_abs z ≤ (m - i) * (most_length + most_shift + most_shift)
  total_from_size m i =
      nat_abs_total (most_length + most_shift + most_shift) (m - i) (λ t. excess lengths shifts m (i + t)) (λ t x b. excess_size m (i + t) x)
