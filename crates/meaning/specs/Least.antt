-- Document 02, L6, in plain words: "Say that the degrees are least." What a pass says of the degrees, in numbers, lists, sums, remainders
-- and integers alone. A polynomial is the list of its coefficients, as in `Plain`; what is zero has no degree (L2).
--   ◌at_most◌                the order of the integers
--   coefficients, AllZero    the coefficients of several polynomials, and that these are all zero
--   HasDegree                the degree of a polynomial
--   HasShiftedDegree         the degree of a row of polynomials, for shifts; ShiftedDegree of a problem's shifts
--   IsLargest                "the largest, over the rows with a nonzero multiplier, of row degree plus the multiplier's degree"
--   combined                 the coefficients of a sum of multiples of the rows of P
--   Lowest                   the lowest row
--   IsPassed, Least, PassMeansLeast      what a pass says
--   SameRowDegrees, PassesAgree          what the passes of two answers to one problem say
use Rattle.std.specs.Prelude.{◌≡◌, ◌≢◌, ◌↔◌, List, [], ℕ, ◌%◌, ◌<◌, ℤ, pos, ◌+ℤ◌, length, get_or}
use Rattle.std.specs.Prelude.{Some}
use Rattle.rules.specs.Claim.{Problem, Claim}
use Rattle.rules.specs.Matrices.{shift}
use Rattle.rules.specs.Conditions.{row_degree}
use Rattle.rules.specs.Reader.{Place, got}
use Rattle.rules.specs.Files.{read_claim}
use Rattle.rules.specs.Verdict.{passed, verdict}
use Rattle.meaning.specs.Plain.{row_times_column, column_P, VanishesBelowOrders}

infix 4 ◌at_most◌
-- x is at most y: y is x and a natural number more.
abbrev pub ◌at_most◌ : ℤ → ℤ → Type 0
x at_most y = (n : ℕ) × (y ≡ x +ℤ pos n)

-- DEGREES

-- The coefficient at X^k of the j-th of the polynomials v.
abbrev pub coefficients : List (List ℕ) → ℕ → ℕ → ℕ
coefficients v j k = get_or (get_or v j []) k 0

-- The first m of the polynomials v are all zero: each of their coefficients is 0 modulo p.
abbrev pub AllZero : (p m : ℕ) → List (List ℕ) → Type 0
AllZero p m v = (j k : ℕ) → j < m → coefficients v j k % p ≡ 0

-- The polynomial f has the degree a: its coefficient at X^a is not 0 modulo p, and every one above is. So a polynomial that is zero has none.
pub record HasDegree (p : ℕ) (f : List ℕ) (a : ℕ) : Type 0 where
  pub not_zero : get_or f a 0 % p ≢ 0
  pub zero_above : (k : ℕ) → a < k → get_or f k 0 % p ≡ 0

-- A row of m polynomials, whose entry in column j has at X^k the coefficient f j k, has the shifted degree D for the shifts s: …
pub record HasShiftedDegree (p m : ℕ) (s : ℕ → ℤ) (f : ℕ → ℕ → ℕ) (D : ℤ) : Type 0 where
  -- … in some column j a coefficient that is not 0 modulo p stands at the power D − s_j, …
  pub attained : (j : ℕ) × (k : ℕ) × (j < m) × (f j k % p ≢ 0) × (D ≡ pos k +ℤ s j)
  -- … and in no column does one stand above.
  pub bounded : (j k : ℕ) → j < m → f j k % p ≢ 0 → pos k +ℤ s j at_most D

-- The same for the shifts of a problem.
abbrev pub ShiftedDegree : Problem → (ℕ → ℕ → ℕ) → ℤ → Type 0
ShiftedDegree b = HasShiftedDegree b.p b.m (shift b)

-- D is "the largest, over the rows with a nonzero multiplier, of row degree plus the multiplier's degree", for m rows of degrees r and
-- their multipliers w: …
pub record IsLargest (p m : ℕ) (r : ℕ → ℤ) (w : List (List ℕ)) (D : ℤ) : Type 0 where
  -- … it is that of some row, …
  pub one_of_them : (i : ℕ) × (a : ℕ) × (i < m) × HasDegree p (get_or w i []) a × (D ≡ r i +ℤ pos a)
  -- … and no row has a larger one. A multiplier that is zero has no degree, so that its row does not count.
  pub none_larger : (i a : ℕ) → i < m → HasDegree p (get_or w i []) a → r i +ℤ pos a at_most D

-- THE ROWS OF P

-- The sum of w_i times row i of P, over the rows: the coefficient at X^k of its entry in column j.
abbrev pub combined : Claim → List (List ℕ) → ℕ → ℕ → ℕ
combined c w j k = row_times_column c.problem.m (λ i. get_or w i []) (column_P c j) k

-- Of m rows of degrees r, row i is a lowest one: no row has a smaller degree.
abbrev pub Lowest : ℕ → (ℕ → ℤ) → ℕ → Type 0
Lowest m r i = (i < m) × ((k : ℕ) → k < m → r i at_most r k)

-- What a pass says of the degrees of the rows of P.
pub record Least (c : Claim) : Type 0 where
  -- Each row of P has a row degree, by document 01's rule as L2 changed it: that of row i is r i, …
  pub r : ℕ → ℤ
  pub row_degrees : (i : ℕ) → i < c.problem.m → row_degree c.problem c.answer.P i ≡ Some (r i)
  -- … and it is the row's shifted degree.
  pub own_degrees : (i : ℕ) → i < c.problem.m → ShiftedDegree c.problem (coefficients (get_or c.answer.P i [])) (r i)
  -- "combine the basis rows with polynomial multipliers of any degree, not all zero": then there is a largest of the row degrees plus the
  -- multipliers' degrees, …
  pub largest : (w : List (List ℕ)) → length w ≡ c.problem.m
      → ¬ AllZero c.problem.p c.problem.m w
      → (D : ℤ) × IsLargest c.problem.p c.problem.m r w D
  -- … "The shifted degree of the sum is the largest", …
  pub degree_of_sum : (w : List (List ℕ)) (D : ℤ) → length w ≡ c.problem.m
      → IsLargest c.problem.p c.problem.m r w D ↔ ShiftedDegree c.problem (combined c w) D
  -- … and a row of polynomials has no two shifted degrees.
  pub one_degree : (f : ℕ → ℕ → ℕ) (D E : ℤ) → ShiftedDegree c.problem f D → ShiftedDegree c.problem f E → D ≡ E
  -- There is a lowest row …
  pub lowest : (i : ℕ) × Lowest c.problem.m r i
  -- … and "no nonzero relation lies lower than the lowest row": m polynomials, of any degrees and not all zero, whose product with F
  -- vanishes below the orders, have a shifted degree, and the lowest row's is at most that.
  pub no_lower : (i : ℕ) → Lowest c.problem.m r i → (v : List (List ℕ)) → length v ≡ c.problem.m
      → ¬ AllZero c.problem.p c.problem.m v
      → VanishesBelowOrders c v
      → (D : ℤ) × ShiftedDegree c.problem (coefficients v) D × (r i at_most D)

-- The files s and t are read, as the claim c, and get a pass.
abbrev pub IsPassed : List ℕ → List ℕ → Claim → Type 0
IsPassed s t c = (q : Place) × (d : ℕ) × (read_claim s t ≡ got c q) × (verdict s t ≡ passed d)

-- L6: of any two files that get a pass, `Least` holds.
abbrev pub PassMeansLeast : Type 0
PassMeansLeast = (s t : List ℕ) (c : Claim) → IsPassed s t c → Least c

-- TWO ANSWERS

-- The row degrees of two answers are the same, in another order: to each row of the one stands a row of the other that has the same row
-- degree, and to no two the same.
pub record SameRowDegrees (c c' : Claim) : Type 0 where
  pub partner : ℕ → ℕ
  pub is_row : (i : ℕ) → i < c.problem.m → partner i < c'.problem.m
  pub no_two : (i k : ℕ) → i < c.problem.m → k < c.problem.m → partner i ≡ partner k → i ≡ k
  pub same_degree : (i : ℕ) → i < c.problem.m
      → row_degree c.problem c.answer.P i ≡ row_degree c'.problem c'.answer.P (partner i)

-- So no other degrees are least: any two answers to one problem that get a pass have the same row degrees.
abbrev pub PassesAgree : Type 0
PassesAgree = (s t t' : List ℕ) (c c' : Claim) → IsPassed s t c → IsPassed s t' c' → SameRowDegrees c c'
