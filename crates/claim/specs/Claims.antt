-- What the arrays of a claim stand for: the records of the rules. Every contract that speaks of a claim in arrays uses these functions.
--   problem_of head f              the problem: orders_of, shifts_of, columns_of are its lists
--   basis_of m lengths entries     P
--   constants_of m n c             C
--   answer_of, claim_of            the answer, and the claim
--   problem_in b, basis_in m a, claim_in b a      the same of the code's structs, whole
use Rattle.std.specs.Prelude.{List, ℕ, ℤ, get_or}
use Rattle.rules.specs.Claim.{Problem, Answer, Claim}
use Rattle.rules.specs.Table.{table}
use Rattle.layout.specs.Flat.{square_place, length_at, shift_at, cell, column_cell}
use Rattle.claim.specs.declared.Head.{Head}
use Rattle.claim.specs.declared.Problem.{Problem as ProblemStruct}
use Rattle.claim.specs.declared.Basis.{Basis as BasisStruct}
use Rattle.claim.specs.declared.Answer.{Answer as AnswerStruct}

-- The orders of the columns, …
unfoldable pub orders_of : ℕ → List ℕ → List ℕ
orders_of n orders = table n (λ j. get_or orders j 0)

-- … the shifts of the rows, …
unfoldable pub shifts_of : ℕ → List ℤ → List ℤ
shifts_of m shifts = table m (shift_at shifts)

-- … and F: of each column as many coefficients as its order says.
unfoldable pub columns_of : Head → List ℕ → List (List (List ℕ))
columns_of head f = table head.n (λ j. table head.m (λ i. table (get_or head.orders j 0) (column_cell f i j)))

abbrev pub problem_of : Head → List ℕ → Problem
problem_of head f =
    record {
      p = head.p;
      m = head.m;
      n = head.n;
      orders = orders_of head.n head.orders;
      shifts = shifts_of head.m head.shifts;
      F = columns_of head f;
    }

-- P: of each entry as many coefficients as its length says.
unfoldable pub basis_of : ℕ → (lengths entries : List ℕ) → List (List (List ℕ))
basis_of m lengths entries = table m (λ i. table m (λ j. table (length_at lengths i j) (cell entries i j)))

-- C.
unfoldable pub constants_of : (m n : ℕ) → List ℕ → List (List ℕ)
constants_of m n c = table m (λ i. table n (λ j. get_or c (square_place i j) 0))

abbrev pub answer_of : Head → (lengths entries c : List ℕ) → Answer
answer_of head lengths entries c = record { P = basis_of head.m lengths entries; C = constants_of head.m head.n c }

abbrev pub claim_of : Head → (f lengths entries c : List ℕ) → Claim
claim_of head f lengths entries c = record { problem = problem_of head f; answer = answer_of head lengths entries c }

-- The same of the code's structs.
abbrev pub problem_in : ProblemStruct → Problem
problem_in b = problem_of b.head b.f

abbrev pub basis_in : ℕ → BasisStruct → List (List (List ℕ))
basis_in m a = basis_of m a.lengths a.entries

abbrev pub claim_in : ProblemStruct → AnswerStruct → Claim
claim_in b a = claim_of b.head b.f a.basis.lengths a.basis.entries a.c
