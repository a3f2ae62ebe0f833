-- Bounds on the powers in a determinant: each row contributes one entry, so that the highest powers in the rows add up to one.
--   Tops m lengths tops      no determinant of the rows from i on has a power above tops i
--   RowTop m i lengths r     no entry of row i has a power above r
--   TopsFrom                 the bounds as they are found, from the last row to the first
use Rattle.std.specs.Prelude.{◌≡◌, ◌≢◌, List, ℕ, suc, pred, ◌+◌, ◌-◌, ◌*◌, ◌≤◌, ◌<◌, length, get_or, set, replicate}
use Rattle.std.proofs.Common.{sym, ap, subst, arith, get_or-set_same, get_or-set_other}
use Rattle.std.proofs.Math.Decide.{ℕ_discrete}
use Rattle.rules.specs.Sizes.{most_rows, most_length}
use Rattle.layout.specs.Flat.{length_at}
use Rattle.polynomial.specs.Coefficients.{most_power}
use Rattle.convolution.specs.Padded.{get_or_zeros}

-- No power above tops i occurs in a determinant of the rows from i on.
pub record Tops (m : ℕ) (lengths tops : List ℕ) : Type 0 where
  pub step : (i j : ℕ) → i < m → j < m → pred (length_at lengths i j) + get_or tops (suc i) 0 ≤ get_or tops i 0
  pub high : (i : ℕ) → get_or tops i 0 ≤ most_power

-- No entry of row i has a power above r.
pub record RowTop (m i : ℕ) (lengths : List ℕ) (r : ℕ) : Type 0 where
  pub above : (j : ℕ) → j < m → pred (length_at lengths i j) ≤ r
  pub low : r < most_length

-- The bounds of the rows from i on are there, and sum is the one of row i.
pub record TopsFrom (i m sum : ℕ) (lengths tops : List ℕ) : Type 0 where
  pub last : get_or tops i 0 ≡ sum
  pub step : (k j : ℕ) → i ≤ k → k < m → j < m → pred (length_at lengths k j) + get_or tops (suc k) 0 ≤ get_or tops k 0
  pub high : (k : ℕ) → get_or tops k 0 ≤ sum
  pub low : sum + i * (most_length - 1) ≤ m * (most_length - 1)

-- Before the last row nothing has been found.
pub tops_none : (m : ℕ) (lengths : List ℕ) (n : ℕ) → TopsFrom m m 0 lengths (replicate n 0)
tops_none m lengths n = record {
  last = get_or_zeros n m;
  step = λ k j le lt h. absurd (omega arith);
  high = λ k. omega (arith, get_or_zeros n k);
  low = omega arith;
}

-- The row before, whose highest power is added.
pub tops_more : {i m sum r : ℕ} {lengths tops : List ℕ} → i < m → i < length tops → RowTop m i lengths r → TopsFrom (suc i) m sum lengths tops
    → TopsFrom i m (sum + r) lengths (set tops i (sum + r))
unfolding most_length
tops_more {i} {m} {sum} {r} {lengths} {tops} lt fits top from = record {
  last = same;
  step = λ k j le low h. elim (ℕ_discrete k i) [
    | yes e ↦ subst (λ k. pred (length_at lengths k j) + get_or (set tops i (sum + r)) (suc k) 0 ≤ get_or (set tops i (sum + r)) k 0) (sym e)
        (omega (arith, same, other (suc i) (λ e. omega arith), top.above j h, from.last))
    | no ne ↦ omega (arith, other k ne, other (suc k) (λ e. omega arith), from.step k j (above k le ne) low h)
  ];
  high = λ k. elim (ℕ_discrete k i) [
    | yes e ↦ omega (arith, ap (λ k. get_or (set tops i (sum + r)) k 0) e, same)
    | no ne ↦ omega (arith, other k ne, from.high k)
  ];
  low = omega (arith, from.low, top.low);
}
  where
    same : get_or (set tops i (sum + r)) i 0 ≡ sum + r
    same = get_or-set_same tops i (sum + r) 0 fits

    other : (k : ℕ) → k ≢ i → get_or (set tops i (sum + r)) k 0 ≡ get_or tops k 0
    other k ne = get_or-set_other tops i k (sum + r) 0 ne

    above : (k : ℕ) → i ≤ k → k ≢ i → suc i ≤ k
    above k le ne = omega arith

-- After the first row all bounds are there.
pub tops_all : {m sum : ℕ} {lengths tops : List ℕ} → m ≤ most_rows → TopsFrom 0 m sum lengths tops → Tops m lengths tops
unfolding most_power most_rows most_length
tops_all few from = record {
  step = λ i j hi hj. from.step i j (omega arith) hi hj;
  high = λ i. omega (arith, from.high i, from.low);
}
