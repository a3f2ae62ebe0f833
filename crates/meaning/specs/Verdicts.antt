-- What each verdict on a claim says, and that it is given exactly if what it says holds: so that the verdicts exclude each other and one
-- always applies.
--   Reduced, IsMonomial, LowFault, OrderFault, FullRank      the conditions as statements about a claim
--   FirstAt, Nowhere                                         the first place that has a fault; no place has one
--   SaysBy, Says c v                                         what the verdict v says of the claim c
use Rattle.std.specs.Prelude.{◌≡◌, ◌≢◌, [], ℕ, ◌+◌, ◌%◌, ◌<◌, ℤ, pos, get_or}
use Rattle.std.specs.Prelude.{Option, Some}
use Rattle.algebra.specs.Matrix.{Matrix}
use Rattle.algebra.specs.Det.{det}
use Rattle.algebra.specs.Dependence.{Dependent, Independent}
use Rattle.algebra.specs.OrderBasis.{Monomial}
use Rattle.rules.specs.Claim.{Claim}
use Rattle.rules.specs.Matrices.{order}
use Rattle.rules.specs.Conditions.{leading_matrix, determinant, degree_sum, rank_matrix}
use Rattle.rules.specs.Verdict.{Verdict, passed, unread, not_reduced, not_monomial, below_order, at_order, low_rank}
use Rattle.meaning.specs.Plain.{row_times_column, row_P, column_F}
use Rattle.meaning.specs.Generating.{field_of}

-- The leading matrix has a determinant other than 0.
abbrev pub Reduced : Claim → Type 0
Reduced c = det (field_of c) c.problem.m (leading_matrix c.problem c.answer.P) ≢ (field_of c).𝟘

-- The determinant of P is a nonzero constant times X^d …
abbrev pub IsMonomial : Claim → ℕ → Type 0
IsMonomial c d =
    (determinant c.problem c.answer.P d ≢ (field_of c).𝟘) × ((k : ℕ) → k ≢ d → determinant c.problem c.answer.P k ≡ (field_of c).𝟘)

-- … for some d.
abbrev pub SomeMonomial : Claim → Type 0
SomeMonomial c = Monomial (field_of c) (determinant c.problem c.answer.P)

-- The coefficient at X^k of the entry of P·F in row i and column j, modulo p.
abbrev pub product_number : Claim → ℕ → ℕ → ℕ → ℕ
product_number c i j k = row_times_column c.problem.m (row_P c i) (column_F c j) k % c.problem.p

-- "some coefficient of (PF) below the order is not 0"
abbrev pub LowFault : Claim → ℕ → ℕ → Type 0
LowFault c i j = (k : ℕ) × (k < order c.problem j) × (product_number c i j k ≢ 0)

-- "a coefficient at the order differs from C"
abbrev pub OrderFault : Claim → ℕ → ℕ → Type 0
OrderFault c i j = product_number c i j (order c.problem j) ≢ get_or (get_or c.answer.C i []) j 0

-- "the place is the first row that has a fault and in it the first column"
pub record FirstAt (m n : ℕ) (Fault : ℕ → ℕ → Type 0) (i j : ℕ) : Type 0 where
  pub row : i < m
  pub column : j < n
  pub fault : Fault i j
  pub rows_before : (a b : ℕ) → a < i → b < n → ¬ Fault a b
  pub columns_before : (b : ℕ) → b < j → ¬ Fault i b

-- No place has a fault.
abbrev pub Nowhere : (m n : ℕ) → (ℕ → ℕ → Type 0) → Type 0
Nowhere m n Fault = (i j : ℕ) → i < m → j < n → ¬ Fault i j

-- The matrix [P(0) C].
abbrev pub rank_of : (c : Claim) → Matrix (field_of c)
rank_of c = rank_matrix c.problem c.answer.P c.answer.C

-- "some constants, not all 0, combine the rows of [P(0) C] to zero" …
abbrev pub LowRank : Claim → Type 0
LowRank c = Dependent (field_of c) c.problem.m (c.problem.m + c.problem.n) (rank_of c)

-- … or only zeros do.
abbrev pub FullRank : Claim → Type 0
FullRank c = Independent (field_of c) c.problem.m (c.problem.m + c.problem.n) (rank_of c)

-- What each verdict says of a claim: its own condition, and that none before it applies; for a reading of "reduced" and of Δ, which
-- document 02 changed in L2.
abbrev pub SaysBy : Type 0 → Option ℤ → Claim → Verdict → Type 0
SaysBy IsReduced sum c not_reduced = ¬ IsReduced
SaysBy IsReduced sum c not_monomial = IsReduced × (¬ SomeMonomial c)
SaysBy IsReduced sum c (below_order i j) = IsReduced × SomeMonomial c × FirstAt c.problem.m c.problem.n (LowFault c) i j
SaysBy IsReduced sum c (at_order i j) =
    IsReduced × SomeMonomial c × Nowhere c.problem.m c.problem.n (LowFault c) × FirstAt c.problem.m c.problem.n (OrderFault c) i j
SaysBy IsReduced sum c low_rank =
    IsReduced
    × SomeMonomial c
    × Nowhere c.problem.m c.problem.n (LowFault c)
    × Nowhere c.problem.m c.problem.n (OrderFault c)
    × LowRank c
SaysBy IsReduced sum c (passed d) =
    IsReduced
    × IsMonomial c d
    × Nowhere c.problem.m c.problem.n (LowFault c)
    × Nowhere c.problem.m c.problem.n (OrderFault c)
    × FullRank c
    × (sum ≡ Some (pos d))
SaysBy IsReduced sum c (unread r) = ⊥

-- What each says by the rules.
abbrev pub Says : Claim → Verdict → Type 0
Says c = SaysBy (Reduced c) (degree_sum c.problem c.answer.P) c
