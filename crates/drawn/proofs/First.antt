-- The first m numbers of an array, lent as a slice: what is said of the slice is said of them.
--   each_first               each of them is below p
--   plus_row_first           their sum of products
--   length_first             how many stand in the array after it
--   times_first, added_first what stands in the array after a step on them
use Rattle.std.proofs.Common.{◌≡◌, ℕ, List, length, take, drop, get_or, ◌++◌, ◌<◌, ◌≤◌, ◌*◌, ◌+◌, ◌%◌, ◌-◌, ◌∙◌, zero, suc, sym, ap, arith, subst, length-append, length-drop}
use Rattle.std.proofs.Math.Logic.{by_cases}
use Rattle.std.proofs.Math.Decide.{dec_le}
use Rattle.std.proofs.Math.ListN.{get_or-eq_default}
use Rattle.algebra.specs.Ring as Ring
use Rattle.std.proofs.lemmas.List.{get_or-take, length-take, length-take-le, take_all, get_or_append_left}
use Rattle.algebra.specs.Residue.{K, red}
use Rattle.algebra.specs.Sum.{sum_cong}
use Rattle.layout.specs.Holds.{Each}
use Rattle.layout.specs.Flat.{entry_place}
use Rattle.drawn.specs.Sums.{FirstBelow, plus_row, plus_row_more}
use Rattle.drawn.specs.Values.{TimesPoint, AddedPower, entry_stride}

pub length_first : (m : ℕ) (row next : List ℕ) → m ≤ length row → length next ≡ length (take m row) → length (next ++ drop m row) ≡ length row
length_first m row next long same = omega (arith, length-append next (drop m row), length-drop m row, length-take-le m row long)

pub each_first : (m : ℕ) (row : List ℕ) {p : ℕ} → 0 < p → FirstBelow m p row → Each p (take m row)
each_first m row {p} positive below i = by_cases (dec_le m i)
    (λ h. subst (λ x. x < p) (sym (get_or-eq_default (take m row) 0 (omega (arith, length-take m row)))) positive)
    (λ h. let inside : i < m = omega arith in subst (λ x. x < p) (sym (get_or-take m row i 0 inside)) (below i inside))

module _ (p m : ℕ) where
  -- Past the end of a row there are zeros, which count for nothing.
  plus_row_past : (s : ℕ) (row l : List ℕ) (at stride k : ℕ)
      → plus_row p (k + length row) s row l at stride ≡ plus_row p (length row) s row l at stride
  plus_row_past s row l at stride zero = ap (λ n. plus_row p n s row l at stride) (omega arith)
  plus_row_past s row l at stride (suc k) =
      let n : ℕ = k + length row in
      let y = red p (get_or l (at + n * stride) 0) in
      ap (λ n. plus_row p n s row l at stride) (omega arith)
      ∙ sym (plus_row_more p n s row l at stride)
      ∙ ap (λ x. (K p).◌⊕◌ (plus_row p n s row l at stride) ((K p).◌⊗◌ (red p x) y)) (get_or-eq_default row 0 (omega arith))
      ∙ ap (λ x. (K p).◌⊕◌ (plus_row p n s row l at stride) x) (Ring.zero_mul (K p) y)
      ∙ (K p).add_zero (plus_row p n s row l at stride)
      ∙ plus_row_past s row l at stride k

  pub plus_row_first : (s : ℕ) (row l : List ℕ) (at stride : ℕ)
      → plus_row p (length (take m row)) s (take m row) l at stride ≡ plus_row p m s row l at stride
  unfolding plus_row
  plus_row_first s row l at stride = by_cases (dec_le m (length row)) inside (λ h. past (omega arith))
    where
      inside : m ≤ length row → plus_row p (length (take m row)) s (take m row) l at stride ≡ plus_row p m s row l at stride
      inside long =
          ap (λ n. plus_row p n s (take m row) l at stride) (length-take-le m row long)
          ∙ ap (λ x. (K p).◌⊕◌ (red p s) x)
          (sum_cong (K p) m (λ i. (K p).◌⊗◌ (red p (get_or (take m row) i 0)) (red p (get_or l (at + i * stride) 0)))
          (λ i. (K p).◌⊗◌ (red p (get_or row i 0)) (red p (get_or l (at + i * stride) 0)))
          (λ i h. ap (λ x. (K p).◌⊗◌ (red p x) (red p (get_or l (at + i * stride) 0))) (get_or-take m row i 0 h)))

      past : length row ≤ m → plus_row p (length (take m row)) s (take m row) l at stride ≡ plus_row p m s row l at stride
      past short =
          ap (λ r. plus_row p (length r) s r l at stride) (take_all m row short)
          ∙ sym (plus_row_past s row l at stride (m - length row))
          ∙ ap (λ n. plus_row p n s row l at stride) (omega arith)

  pub times_first : (row next : List ℕ) (point : ℕ) → m ≤ length row → length next ≡ length (take m row)
      → TimesPoint p (length (take m row)) (take m row) point next → TimesPoint p m row point (next ++ drop m row)
  times_first row next point long same times i h =
      let inside : i < length (take m row) = omega (arith, length-take-le m row long) in
      get_or_append_left next (drop m row) 0 i (omega arith)
      ∙ times i inside
      ∙ ap (λ x. x * point % p) (get_or-take m row i 0 h)

  pub added_first : (before row entries next : List ℕ) (x : ℕ) → m ≤ length before → length next ≡ length (take m before)
      → AddedPower p (length (take m row)) (length (take m before)) (take m before) (take m row) entries x next
      → AddedPower p m m before row entries x (next ++ drop m before)
  added_first before row entries next x long_before same added l h =
      let inside : l < length (take m before) = omega (arith, length-take-le m before long_before) in
      get_or_append_left next (drop m before) 0 l (omega arith)
      ∙ added l inside
      ∙ ap (λ y. y.0) (plus_row_first (get_or (take m before) l 0) row entries (entry_place 0 l x) entry_stride)
      ∙ ap (λ b. (plus_row p m b row entries (entry_place 0 l x) entry_stride).0) (get_or-take m before l 0 h)
