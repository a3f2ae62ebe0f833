-- Condition 3 over the flat arrays, by places in them. No proof cites it now; it stands because it was stated.
--   pair_dot                 which of the products count
use Rattle.std.specs.Prelude.{◌≡◌, List, ℕ, suc, ◌+◌, ◌-◌, ◌*◌, ◌≤◌, ◌<◌, get_or}
use Rattle.std.proofs.Common.{sym, ap, ap₂, ◌∙◌, add_assoc, mul-zero, zero-mul, arith}
use Rattle.rules.specs.Sizes.{most_rows, most_order, most_length}
use Rattle.layout.specs.Flat.{entry_place, column_place, square_place, length_at, cell, column_cell, cell_at, column_cell_at, column_cell_past}
use Rattle.layout.specs.Holds.{Padded}
use Rattle.laws.specs.SumLaws.{sum_below_cong, sum_window}
use Rattle.product.specs.Product.{pair_number, dot, first_power, powers, powers_end, powers_length}

powers_past : (n k t : ℕ) → t < suc k → first_power k + powers n k ≤ t → n ≤ t
unfolding powers first_power most_order
powers_past n k t b h = omega arith

first_past : (k t : ℕ) → t < first_power k → most_order ≤ k - t
unfolding first_power most_order
first_past k t h = omega arith

order_within : (k s : ℕ) → k - (first_power k + s) < most_order
unfolding first_power most_order
order_within k s = omega arith

entry_place_add : (i j k s : ℕ) → entry_place i j (k + s) ≡ entry_place i j k + s
unfolding entry_place
entry_place_add i j k s = sym (add_assoc (square_place i j * most_length) k s)

column_place_sub : (i j k d s : ℕ) → d + s ≤ k → column_place i j (k - (d + s)) ≡ column_place i j (k - d) - s
unfolding column_place
column_place_sub i j k d s h = omega arith

-- The powers that count are those of the entry that go with a coefficient of F.
pub pair_dot : (entries lengths f : List ℕ) → Padded most_rows entries lengths → (i j k l : ℕ) → i < most_rows → l < most_rows → k ≤ most_order
    → pair_number entries f i j k l
    ≡ dot entries f (entry_place i l (first_power k)) (column_place l j (k - first_power k)) (powers (length_at lengths i l) k)
unfolding pair_number dot
pair_dot entries lengths f padded i j k l hi hl hk =
    sum_window (suc k) first count (λ t. cell entries i l t * column_cell f l j (k - t)) (powers_end n k)
    (λ t b. ap (λ x. cell entries i l t * x) (column_cell_past f l j (k - t) (first_past k t b)) ∙ mul-zero (cell entries i l t))
    (λ t b h. ap (λ x. x * column_cell f l j (k - t)) (padded.past_length i l t hi hl (powers_past n k t b h)) ∙ zero-mul (column_cell f l j (k - t)))
    ∙ sum_below_cong count (λ s. cell entries i l (first + s) * column_cell f l j (k - (first + s)))
    (λ s. get_or entries (entry_place i l first + s) 0 * get_or f (column_place l j (k - first) - s) 0)
    (λ s b. ap₂ ◌*◌
    (cell_at entries i l (first + s) (within_length s b) ∙ ap (λ x. get_or entries x 0) (entry_place_add i l first s))
    (column_cell_at f l j (k - (first + s)) (within_order s) ∙ ap (λ x. get_or f x 0) (column_place_sub l j k first s (within_power s b))))
  where
    n : ℕ
    n = length_at lengths i l

    first : ℕ
    first = first_power k

    count : ℕ
    count = powers n k

    within_length : (s : ℕ) → s < count → first + s < most_length
    within_length s b = omega (arith, powers_length n k (padded.length_most (square_place i l)) hk)

    within_power : (s : ℕ) → s < count → first + s ≤ k
    within_power s b = omega (arith, powers_end n k)

    within_order : (s : ℕ) → k - (first + s) < most_order
    within_order s = order_within k s
