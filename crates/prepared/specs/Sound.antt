-- Canonical arrays, of the lengths that their types say, are sound.
--   canonical_head, canonical_columns
use Rattle.std.specs.Prelude.{◌≡◌, List, ℕ, ◌≤◌, ◌<◌, pos, nat_abs, length, get_or}
use Rattle.std.proofs.Common.{ap, subst, ◌∙◌, arith}
use Rattle.std.proofs.Math.Logic.{by_cases}
use Rattle.std.proofs.Math.Decide.{dec_lt}
use Rattle.std.proofs.Math.ListN.{get_or-eq_default}
use Rattle.rules.specs.Sizes.{most_rows, most_order, most_shift}
use Rattle.layout.specs.Flat.{shift_at, column_place, column_coefficients, column_cell_at, column_cell_past}
use Rattle.claim.specs.declared.Head.{Head}
use Rattle.claim.specs.Sound.{SoundHead, SoundColumns}
use Rattle.prepared.specs.Canonical.{Canonical}
use Rattle.prepared.specs.Places.{Stands, stands, Cells}
use Rattle.prepared.specs.Written.{cells, order_used, order_unused, shift_used, shift_unused}

module _ (head : Head) (f : List ℕ) (c : Canonical head f) where
  order_most : length head.orders ≡ most_rows → (j : ℕ) → get_or head.orders j 0 ≤ most_order
  order_most long j = by_cases (dec_lt j head.n)
      (λ h. (order_used head f c j h).1)
      (λ h. by_cases (dec_lt j most_rows)
      (λ h'. omega (arith, order_unused head f c j h' (omega arith)))
      (λ h'. omega (arith, get_or-eq_default head.orders 0 {n = j} (omega arith))))

  shift_most : length head.shifts ≡ most_rows → (i : ℕ) → nat_abs (shift_at head.shifts i) ≤ most_shift
  shift_most long i = by_cases (dec_lt i head.m)
      (λ h. shift_used head f c i h)
      (λ h. by_cases (dec_lt i most_rows)
      (λ h'. zero (shift_unused head f c i h' (omega arith)))
      (λ h'. zero (get_or-eq_default head.shifts (pos 0) {n = i} (omega arith))))
    where
      zero : shift_at head.shifts i ≡ pos 0 → nat_abs (shift_at head.shifts i) ≤ most_shift
      zero e = let none : nat_abs (shift_at head.shifts i) ≡ 0 = ap nat_abs e in omega arith

  pub canonical_head : length head.orders ≡ most_rows → length head.shifts ≡ most_rows → SoundHead head
  canonical_head long_orders long_shifts = record {
    prime = c.prime;
    prime_most = c.sized.prime_most;
    rows_least = c.sized.rows_least;
    rows_most = c.sized.rows_most;
    columns_most = c.sized.columns_most;
    orders_most = order_most long_orders;
    shifts_most = shift_most long_shifts;
  }

  -- Each coefficient, of whichever row, column and power, is below p.
  cell_below : (i j k : ℕ) → i < most_rows → j < most_rows → k < most_order → get_or f (column_place i j k) 0 < head.p
  cell_below i j k hi hj hk = by_cases (dec_lt j head.n)
      (λ h. by_cases (dec_lt i head.m)
      (λ h'. by_cases (dec_lt k (get_or head.orders j 0))
      (λ h''. all.below i j k h' h h'')
      (λ h''. omega (arith, all.past_order i j k h' h (omega arith) hk, c.prime.two_le)))
      (λ h'. omega (arith, all.past_rows i j k (omega arith) hi h hk, c.prime.two_le)))
      (λ h. omega (arith, all.past_columns i j k hi (omega arith) hj hk, c.prime.two_le))
    where
      all : Cells head.p head.m head.n head.orders f
      all = cells head f c

  pub canonical_columns : length f ≡ column_coefficients → SoundColumns head f
  canonical_columns long = record {
    F_below = λ x. by_cases (dec_lt x column_coefficients)
        (λ h.
        let s : Stands x = stands x h in
        subst (λ (y : ℕ). get_or f y 0 < head.p) s.place
        (cell_below s.row s.column s.power s.row_most s.column_most s.power_most))
        (λ h. omega (arith, get_or-eq_default f 0 {n = x} (omega arith), c.prime.two_le));
    F_ends = λ i j k hi hj h. by_cases (dec_lt k most_order)
        (λ h'. column_cell_at f i j k h' ∙ (cells head f c).past_order i j k hi hj h h')
        (λ h'. column_cell_past f i j k (omega arith));
  }
