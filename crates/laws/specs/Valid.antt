-- What holds of every claim that the readers accept: document 01's sizes and ranges, and the shapes that the layout fixes.
--   ValidProblem b           of a problem
--   ValidBasis b P           of the entries of P, for the problem b
--   ValidAnswer b a, Valid c of an answer to b, and of a claim
use Rattle.std.specs.Prelude.{◌≡◌, ◌≢◌, List, [], ℕ, pred, ◌≤◌, ◌<◌, nat_abs, length, get_or}
use Rattle.algebra.specs.Prime.{Prime}
use Rattle.rules.specs.Sizes.{largest_prime, most_rows, most_order, most_shift, most_length}
use Rattle.rules.specs.Claim.{Problem, Answer, Claim}
use Rattle.rules.specs.Matrices.{order, shift, at}

-- p, m, n, the orders, the shifts and F are within their sizes, and every number of F is one of K.
pub record ValidProblem (b : Problem) : Type 0 where
  pub prime : Prime b.p
  pub prime_size : b.p ≤ largest_prime
  pub rows_least : 1 ≤ b.m
  pub rows_most : b.m ≤ most_rows
  pub columns_least : 1 ≤ b.n
  pub columns_most : b.n ≤ most_rows
  pub orders_length : length b.orders ≡ b.n
  pub order_least : (j : ℕ) → j < b.n → 1 ≤ order b j
  pub order_most : (j : ℕ) → order b j ≤ most_order
  pub shifts_length : length b.shifts ≡ b.m
  pub shift_most : (i : ℕ) → nat_abs (shift b i) ≤ most_shift
  pub F_length : length b.F ≡ b.n
  pub F_column_length : (j : ℕ) → j < b.n → length (get_or b.F j []) ≡ b.m
  pub F_entry_length : (i j : ℕ) → i < b.m → j < b.n → length (at b.F j i) ≡ order b j
  pub F_range : (i j k : ℕ) → get_or (at b.F j i) k 0 < b.p

-- P has m rows of m entries, each within its size, of numbers of K, with a last coefficient other than 0.
pub record ValidBasis (b : Problem) (P : List (List (List ℕ))) : Type 0 where
  pub P_length : length P ≡ b.m
  pub P_row_length : (i : ℕ) → i < b.m → length (get_or P i []) ≡ b.m
  pub P_entry_length : (i j : ℕ) → length (at P i j) ≤ most_length
  pub P_range : (i j k : ℕ) → get_or (at P i j) k 0 < b.p
  pub P_last : (i j : ℕ) → 0 < length (at P i j) → get_or (at P i j) (pred (length (at P i j))) 0 ≢ 0

-- P is such a matrix, and C has m rows of n numbers of K.
pub record ValidAnswer (b : Problem) (a : Answer) : Type 0 where
  pub basis : ValidBasis b a.P
  pub C_length : length a.C ≡ b.m
  pub C_row_length : (i : ℕ) → i < b.m → length (get_or a.C i []) ≡ b.n
  pub C_range : (i j : ℕ) → get_or (get_or a.C i []) j 0 < b.p

-- Both are.
pub record Valid (c : Claim) : Type 0 where
  pub valid_problem : ValidProblem c.problem
  pub valid_answer : ValidAnswer c.problem c.answer
