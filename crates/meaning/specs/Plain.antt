-- Demand 3 in plain words: what a pass says of a problem and an answer, in numbers, lists, sums, products and remainders alone. A
-- polynomial is the list of its coefficients, lowest power first, each a number that counts modulo p; a list may have any length.
--   times, row_times_column  a coefficient of a product of polynomials, and of a row times a column
--   VanishesBelowOrders, IsMultiple, Generates      v·F is 0 below the orders; v = w·P; every such v is such a multiple
--   Plain                    the four sentences
--   PassMeansPlain           demand 3
use Rattle.std.specs.Prelude.{◌≡◌, ◌↔◌, true, List, [], ℕ, suc, ◌-◌, ◌*◌, ◌%◌, ◌<◌, length, get_or}
use Rattle.rules.specs.Claim.{Claim}
use Rattle.rules.specs.Matrices.{order, at}
use Rattle.rules.specs.Conditions.{reduced, sum_below}
use Rattle.rules.specs.Reader.{Place, got}
use Rattle.rules.specs.Files.{read_claim}
use Rattle.rules.specs.Verdict.{passed, verdict}

-- The coefficient of f · g at X^k: the sum of f_i · g_(k − i) over the i up to k.
unfoldable pub times : List ℕ → List ℕ → ℕ → ℕ
times f g k = sum_below (suc k) (λ i. get_or f i 0 * get_or g (k - i) 0)

-- The coefficient of f 0 · g 0 + … + f (m − 1) · g (m − 1) at X^k: of a row times a column.
unfoldable pub row_times_column : ℕ → (ℕ → List ℕ) → (ℕ → List ℕ) → ℕ → ℕ
row_times_column m f g k = sum_below m (λ i. times (f i) (g i) k)

-- Row i of P: its entry in column j.
abbrev pub row_P : Claim → ℕ → ℕ → List ℕ
row_P c i j = at c.answer.P i j

-- Column j of P: its entry in row i.
abbrev pub column_P : Claim → ℕ → ℕ → List ℕ
column_P c j i = at c.answer.P i j

-- Column j of F: its entry in row i.
abbrev pub column_F : Claim → ℕ → ℕ → List ℕ
column_F c j i = at c.problem.F j i

-- The polynomials v times each column j of F have only zeros below the order d_j, modulo p.
abbrev pub VanishesBelowOrders : Claim → List (List ℕ) → Type 0
VanishesBelowOrders c v = (j k : ℕ) → j < c.problem.n → k < order c.problem j
    → row_times_column c.problem.m (λ i. get_or v i []) (column_F c j) k % c.problem.p ≡ 0

-- v = w·P: each coefficient of v_j is that of Σ_i w_i · P_ij, modulo p.
abbrev pub IsMultiple : Claim → List (List ℕ) → List (List ℕ) → Type 0
IsMultiple c v w = (j k : ℕ) → j < c.problem.m
    → get_or (get_or v j []) k 0 % c.problem.p ≡ row_times_column c.problem.m (λ i. get_or w i []) (column_P c j) k % c.problem.p

-- Every m polynomials, of any degrees, whose product with F vanishes below the orders, are a multiple of P by some m polynomials.
abbrev pub Generates : Claim → Type 0
Generates c = (v : List (List ℕ)) → length v ≡ c.problem.m → VanishesBelowOrders c v
    → (w : List (List ℕ)) × (length w ≡ c.problem.m) × IsMultiple c v w

-- What a pass says of a claim, in four sentences.
pub record Plain (c : Claim) : Type 0 where
  -- P is reduced for the shift, as document 01's condition 1 says.
  pub is_reduced : reduced c.problem c.answer.P ≡ true
  -- Every coefficient of P·F below the column's order is 0 modulo p, …
  pub low_coefficients : (i j k : ℕ) → i < c.problem.m → j < c.problem.n → k < order c.problem j
      → row_times_column c.problem.m (row_P c i) (column_F c j) k % c.problem.p ≡ 0
  -- … and the one at the order is C's number.
  pub order_coefficients : (i j : ℕ) → i < c.problem.m → j < c.problem.n
      → row_times_column c.problem.m (row_P c i) (column_F c j) (order c.problem j) % c.problem.p ≡ get_or (get_or c.answer.C i []) j 0
  -- The rows of P generate every m polynomials whose product with F vanishes below the orders.
  pub generates : Generates c

-- Demand 3: of any two files that the readers accept, the verdict is a pass, for some Δ, exactly if `Plain` holds of what was read.
abbrev pub PassMeansPlain : Type 0
PassMeansPlain = (s t : List ℕ) (c : Claim) (q : Place) → read_claim s t ≡ got c q → ((d : ℕ) × (verdict s t ≡ passed d)) ↔ Plain c
