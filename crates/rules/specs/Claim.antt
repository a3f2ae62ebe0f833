-- What is read: a problem, and an answer to it.
--   Problem                  p, m, n, the orders, the shifts and F
--   Answer                   P and C
--   Claim                    both
use Rattle.std.specs.Prelude.{List, ℕ, ℤ}

-- "K is the field of whole numbers modulo p. F has m rows and n columns … Column j has order d_j, row i of the shift is s_i."
pub record Problem : Type 0 where
  pub p : ℕ
  pub m : ℕ
  pub n : ℕ
  pub orders : List ℕ
  pub shifts : List ℤ
  -- column by column, in it row by row, in it lowest power first
  pub F : List (List (List ℕ))

-- "P is m by m, C is m by n and constant."
pub record Answer : Type 0 where
  -- row by row, in it column by column, in it lowest power first
  pub P : List (List (List ℕ))
  pub C : List (List ℕ)

-- A problem and an answer to it.
pub record Claim : Type 0 where
  pub problem : Problem
  pub answer : Answer
