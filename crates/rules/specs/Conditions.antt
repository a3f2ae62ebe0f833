-- Document 01, "The four conditions", as tests.
--   reduced, monomial_determinant      conditions 1 and 2
--   first_place, low_fault, order_fault      condition 3, and the place of its first fault
--   rank_below                         condition 4
--   degree_of, row_degree_of, degree_sum_of      degrees by the lengths of the entries, none for what is zero; of a claim: row_degree,
--                                      degree_sum (Δ)
use Rattle.std.specs.Prelude.{Bool, true, false, cond, not, List, [], ℕ, zero, suc, pred, ◌+◌, max, eqb, ℤ, pos, ◌+ℤ◌, ◌-ℤ◌, length, get_or}
use Rattle.std.specs.Prelude.{Option, None, Some}
use Rattle.std.specs.Int.Signed.{le_z}
use Rattle.algebra.specs.Residue.{K, Residue, red}
use Rattle.algebra.specs.Integer.{Integers}
use Rattle.algebra.specs.Sum.{sum}
use Rattle.algebra.proofs.Series.{Series}
use Rattle.algebra.specs.Matrix.{Row, Matrix, cons, beside, vmul}
use Rattle.algebra.specs.Det.{det}
use Rattle.algebra.specs.Degree.{coefficient}
use Rattle.algebra.proofs.PolyMatrix.{entries}
use Rattle.rules.specs.Claim.{Problem}
use Rattle.rules.specs.Matrices.{order, shift, at, matrix_P, matrix_C, product}

-- A number of K is 0.
abbrev pub is_zero : (p : ℕ) → Residue p → Bool
is_zero p x = eqb x.0 0

-- Some number below n passes the test.
unfoldable pub some_below : ℕ → (ℕ → Bool) → Bool
some_below zero test = false
some_below (suc n) test = elim (test zero) [ true ↦ true | false ↦ some_below n (λ i. test (suc i)) ]

-- 1. REDUCED

-- The degree of an entry with so many coefficients: "A zero entry has no degree" (document 02, L2).
unfoldable pub degree_of : ℕ → Option ℕ
degree_of zero = None
degree_of (suc d) = Some d

-- "degree plus that column's shift", by the length of the entry and the shift: none for a zero entry.
unfoldable pub shifted_degree_of : ℕ → ℤ → Option ℤ
shifted_degree_of length shift = elim (degree_of length) [ None ↦ None | Some d ↦ Some (pos d +ℤ shift) ]

-- The larger of two.
abbrev pub max_z : ℤ → ℤ → ℤ
max_z a b = cond (le_z a b) b a

-- The larger of two that may be none: none "takes no part".
abbrev pub larger : Option ℤ → Option ℤ → Option ℤ
larger None y = y
larger (Some a) None = Some a
larger (Some a) (Some b) = Some (max_z a b)

-- The largest of f 0, …, f (n − 1), none where all are.
unfoldable pub largest : ℕ → (ℕ → Option ℤ) → Option ℤ
largest zero f = None
largest (suc n) f = larger (f zero) (largest n (λ j. f (suc j)))

-- "The degree of row i is the largest, over its entries, of degree plus that column's shift; it may be negative." "A row with no entry
-- other than zero has no row degree" (document 02, L2). Of a row with m entries, by their lengths and the shifts …
unfoldable pub row_degree_of : ℕ → (ℕ → ℕ) → (ℕ → ℤ) → Option ℤ
row_degree_of m lengths shifts = largest m (λ j. shifted_degree_of (lengths j) (shifts j))

-- … and of row i of P.
abbrev pub row_degree : (b : Problem) → List (List (List ℕ)) → ℕ → Option ℤ
row_degree b P i = row_degree_of b.m (λ j. length (at P i j)) (shift b)

-- The coefficient of a polynomial at the power (row degree − shift), 0 "if the entry has none there or that power is negative", and 0 in a
-- row that has no degree.
abbrev pub leading_coefficient : (p : ℕ) → Option ℤ → ℤ → (ℕ → Residue p) → Residue p
leading_coefficient p None s f = (K p).𝟘
leading_coefficient p (Some r) s f = coefficient (K p) (r -ℤ s) f

-- "The leading matrix holds at (i, j) the coefficient of P's entry at the power (row degree − s_j)"
abbrev pub leading_matrix : (b : Problem) → List (List (List ℕ)) → Matrix (K b.p)
leading_matrix b P i j = leading_coefficient b.p (row_degree b P i) (shift b j) (matrix_P b P i j).series

-- "P is reduced if the leading matrix has a determinant other than 0"
unfoldable pub reduced : Problem → List (List (List ℕ)) → Bool
reduced b P = not (is_zero b.p (det (K b.p) b.m (leading_matrix b P)))

-- 2. DETERMINANT

-- "The determinant of a square is the signed sum of its first row's entries times the determinants of the squares left. It is taken
-- over polynomials, not at points."
abbrev pub determinant : (b : Problem) → List (List (List ℕ)) → ℕ → Residue b.p
determinant b P = det (Series (K b.p)) b.m (entries (K b.p) (matrix_P b P))

-- The sum of the f i below n, …
unfoldable pub sum_below : ℕ → (ℕ → ℕ) → ℕ
sum_below zero f = 0
sum_below (suc n) f = f zero + sum_below n (λ i. f (suc i))

-- … and the largest, 0 where there is none.
unfoldable pub max_below : ℕ → (ℕ → ℕ) → ℕ
max_below zero f = 0
max_below (suc n) f = max (f zero) (max_below n (λ i. f (suc i)))

-- The determinant has no coefficient from here on: one more than the sum, over the rows, of the highest power that an entry of the row
-- has room for.
unfoldable pub determinant_bound : Problem → List (List (List ℕ)) → ℕ
determinant_bound b P = suc (sum_below b.m (λ i. max_below b.m (λ j. pred (length (at P i j)))))

-- How many of the first n coefficients of f are not 0.
unfoldable pub count_nonzero : (p : ℕ) → ℕ → (ℕ → Residue p) → ℕ
count_nonzero p zero f = 0
count_nonzero p (suc n) f = cond (is_zero p (f zero)) 0 1 + count_nonzero p n (λ k. f (suc k))

-- "a nonzero constant times a power of X": exactly one coefficient is not 0.
unfoldable pub monomial_determinant : Problem → List (List (List ℕ)) → Bool
monomial_determinant b P = eqb (count_nonzero b.p (determinant_bound b P) (determinant b P)) 1

-- The sum of two that may be none, …
abbrev pub plus : Option ℤ → Option ℤ → Option ℤ
plus None y = None
plus (Some a) None = None
plus (Some a) (Some b) = Some (a +ℤ b)

-- … and that of f 0, …, f (n − 1): none where one is.
unfoldable pub total : ℕ → (ℕ → Option ℤ) → Option ℤ
total zero f = Some (pos 0)
total (suc n) f = plus (f zero) (total n (λ i. f (suc i)))

-- One that may be none, less an integer.
abbrev pub less : Option ℤ → ℤ → Option ℤ
less None s = None
less (Some a) s = Some (a -ℤ s)

-- "Δ is the sum of the row degrees less the sum of the shifts", by the lengths of the entries and the shifts: none where a row has no
-- degree …
unfoldable pub degree_sum_of : ℕ → (ℕ → ℕ → ℕ) → (ℕ → ℤ) → Option ℤ
degree_sum_of m lengths shifts = less (total m (λ i. row_degree_of m (lengths i) shifts)) (sum Integers m shifts)

-- … of P.
abbrev pub degree_sum : Problem → List (List (List ℕ)) → Option ℤ
degree_sum b P = degree_sum_of b.m (λ i j. length (at P i j)) (shift b)

-- 3. PRODUCT

-- "In column j of PF every coefficient below power d_j is 0": some coefficient is not.
unfoldable pub low_fault : (b : Problem) → List (List (List ℕ)) → ℕ → ℕ → Bool
low_fault b P i j = some_below (order b j) (λ k. not (is_zero b.p (product b P i j k)))

-- "and those at power d_j are column j of C": that coefficient differs.
unfoldable pub order_fault : (b : Problem) → List (List (List ℕ)) → List (List ℕ) → ℕ → ℕ → Bool
order_fault b P C i j = not (eqb (product b P i j (order b j)).0 (get_or (get_or C i []) j 0))

-- The first number below n that passes the test.
unfoldable pub first_below : ℕ → (ℕ → Bool) → Option ℕ
first_below zero test = None
first_below (suc n) test = elim (test zero) [ true ↦ Some zero | false ↦ elim (first_below n (λ i. test (suc i))) [ None ↦ None | Some i ↦ Some (suc i) ] ]

-- "the place is the first row that has a fault and in it the first column"
unfoldable pub first_place : (m n : ℕ) → (ℕ → ℕ → Bool) → Option (ℕ × ℕ)
first_place m n fault =
    elim (first_below m (λ i. some_below n (fault i))) [ None ↦ None | Some i ↦ elim (first_below n (fault i)) [ None ↦ None | Some j ↦ Some (i, j) ] ]

-- 4. RANK

-- Some u, whose first m entries are numbers of K, passes the test.
unfoldable pub some_constants : (p m : ℕ) → (Row (K p) → Bool) → Bool
some_constants p zero test = test (λ i. red p 0)
some_constants p (suc m) test = some_below p (λ x. some_constants p m (λ u. test (cons (red p x) u)))

-- The constants u are not all 0 and combine the m rows of A to zero, in the first n columns.
unfoldable pub combined_to_zero : (p m n : ℕ) → Matrix (K p) → Row (K p) → Bool
combined_to_zero p m n A u =
    elim (some_below m (λ i. not (is_zero p (u i)))) [ true ↦ not (some_below n (λ j. not (is_zero p (vmul (K p) m u A j)))) | false ↦ false ]

-- The matrix [P(0) C]: "Its rows have m + n numbers."
abbrev pub rank_matrix : (b : Problem) → List (List (List ℕ)) → List (List ℕ) → Matrix (K b.p)
rank_matrix b P C = beside b.m (λ i j. red b.p (get_or (at P i j) 0 0)) (matrix_C b C)

-- "some constants, not all 0, combine the rows of [P(0) C] to zero"
unfoldable pub rank_below : Problem → List (List (List ℕ)) → List (List ℕ) → Bool
rank_below b P C = some_constants b.p b.m (combined_to_zero b.p b.m (b.m + b.n) (rank_matrix b P C))
