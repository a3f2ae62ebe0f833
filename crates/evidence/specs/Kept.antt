-- What holds of the room of a record. No proof cites it now; it stands because it was stated.
use Rattle.std.specs.Prelude.{ℕ, ◌+◌, ◌*◌, ◌≤◌, ◌<◌}
use Rattle.std.proofs.Common.{arith, mul-le-mul_right}

-- One row more is still within the record.
pub rows_fit : (i m n : ℕ) → i < m → 4 * i * n + 4 * n ≤ 4 * m * n
rows_fit i m n h = omega (arith, mul-le-mul_right n h)
