-- Document 02, L7: "The board should make an answer itself, by the plain iteration of source document 004".
--   row_degree_now, next_row           the row that is taken next
--   first_some, find_constants         a search that gives what it finds
--   depends                  the test of "that one combination"
--   Chosen, take_row, take_rows, chosen        the pivots of a step, and what is subtracted from the other rows
--   trimmed, listed          the coefficients of a polynomial as an entry of P
--   make_step, basis_after   P after a step, and after the first k of them
--   steps_done               "the smaller of the two"
--   cut_problem              the problem with its orders and F's columns cut
--   make_answer              P, C and the steps done
use Rattle.std.specs.Prelude.{Bool, true, false, cond, not, List, [], ◌∷◌, ℕ, zero, suc, min, eqb, ltb, ℤ, pos, take}
use Rattle.std.specs.Prelude.{Option, None, Some, unwrap_or}
use Rattle.std.specs.Int.Signed.{le_z}
use Rattle.algebra.specs.Residue.{K, Residue, red}
use Rattle.algebra.specs.Sum.{replace}
use Rattle.algebra.proofs.Series.{Series}
use Rattle.algebra.specs.Matrix.{Row, Matrix, cons, unit, vmul}
use Rattle.algebra.proofs.PolyMatrix.{entries}
use Rattle.algebra.specs.Step.{next}
use Rattle.rules.specs.Claim.{Problem, Answer}
use Rattle.rules.specs.Matrices.{order, at, matrix_P, product}
use Rattle.rules.specs.Conditions.{is_zero, some_below, first_below, max_below, row_degree}
use Rattle.rules.specs.Table.{table}
use Rattle.rules.specs.Evidence.{evidence_of}

-- THE ORDER OF THE ROWS

-- The current row degree, by L2's rule. (Each row of a basis has one: 0 is never taken.)
abbrev pub row_degree_now : Problem → List (List (List ℕ)) → ℕ → ℤ
row_degree_now b P i = unwrap_or (row_degree b P i) (pos 0)

-- A row that was not taken is lower than row i.
unfoldable pub lower_left : (m : ℕ) → (ℕ → ℤ) → (ℕ → Bool) → ℕ → Bool
lower_left m degree taken i = some_below m (λ k. cond (taken k) false (not (le_z (degree i) (degree k))))

-- "Rows are taken by current row degree, lowest first, ties by row number.": the first row that was not taken and than which no other
-- such row is lower.
unfoldable pub next_row : (m : ℕ) → (ℕ → ℤ) → (ℕ → Bool) → Option ℕ
next_row m degree taken = first_below m (λ i. cond (taken i) false (not (lower_left m degree taken i)))

-- THAT ONE COMBINATION

-- The first of f 0, …, f (n − 1) that is not none.
unfoldable pub first_some : {A : Type 0} → ℕ → (ℕ → Option A) → Option A
first_some zero f = None
first_some (suc n) f = elim (f zero) [ Some a ↦ Some a | None ↦ first_some n (λ i. f (suc i)) ]

-- Constants, whose first m are numbers of K, that pass the test, if there are any: the search of `some_constants`.
unfoldable pub find_constants : (p m : ℕ) → (Row (K p) → Bool) → Option (Row (K p))
find_constants p zero test = elim (test (λ i. red p 0)) [ true ↦ Some (λ i. red p 0) | false ↦ None ]
find_constants p (suc m) test =
    first_some p (λ x. elim (find_constants p m (λ u. test (cons (red p x) u))) [ None ↦ None | Some u ↦ Some (cons (red p x) u) ])

-- "A row whose residual depends on those of earlier pivots": the residual of row i is the combination by u of those of the pivots, in the
-- active columns.
unfoldable pub depends : (p m n : ℕ) → (ℕ → Bool) → Matrix (K p) → (ℕ → Bool) → ℕ → Row (K p) → Bool
depends p m n active A pivot i u =
    elim (some_below m (λ q. cond (pivot q) false (not (is_zero p (u q))))) [
      | true ↦ false
      | false ↦ not (some_below n (λ j. cond (active j) (not (is_zero p ((K p).◌⊕◌ (A i j) ((K p).⊖◌ (vmul (K p) m u A j))))) false))
    ]

-- ONE STEP

-- What is known within a step: the rows that were taken, those of them that are pivots, and for each row the constants of the
-- combination of pivot rows that is subtracted from it.
pub record Chosen (p : ℕ) : Type 0 where
  pub taken : ℕ → Bool
  pub pivot : ℕ → Bool
  pub multipliers : Matrix (K p)

-- No row was taken.
abbrev pub none_taken : (p : ℕ) → Chosen p
none_taken p = record { taken = λ i. false; pivot = λ i. false; multipliers = λ i q. red p 0 }

-- "A row whose residual depends on those of earlier pivots has that one combination of pivot rows subtracted; any other is a pivot".
unfoldable pub take_row : (p m n : ℕ) → (ℕ → Bool) → Matrix (K p) → ℕ → Chosen p → Chosen p
take_row p m n active A i c =
    elim (find_constants p m (depends p m n active A c.pivot i)) [
      | Some u ↦ record { taken = replace i true c.taken; pivot = c.pivot; multipliers = replace i u c.multipliers }
      | None ↦ record { taken = replace i true c.taken; pivot = replace i true c.pivot; multipliers = c.multipliers }
    ]

-- The rows that were not taken, at most so many of them, one after the other.
unfoldable pub take_rows : (p m n : ℕ) → (ℕ → Bool) → (ℕ → ℤ) → Matrix (K p) → ℕ → Chosen p → Chosen p
take_rows p m n active degree A zero c = c
take_rows p m n active degree A (suc left) c =
    elim (next_row m degree c.taken) [ None ↦ c | Some i ↦ take_rows p m n active degree A left (take_row p m n active A i c) ]

-- "the columns with order above k"
abbrev pub above : Problem → ℕ → ℕ → Bool
above b k j = ltb k (order b j)

-- "at each order step k, from 0, take the residual at power k of the columns with order above k"
unfoldable pub chosen : (b : Problem) → ℕ → List (List (List ℕ)) → Chosen b.p
chosen b k P =
    take_rows b.p b.m b.n (above b k) (row_degree_now b P) (λ i j. product b P i j k) b.m (none_taken b.p)

-- A list without the zeros at its end.
unfoldable pub trimmed : List ℕ → List ℕ
trimmed [] = []
trimmed (x ∷ l) = elim (trimmed l) [ [] ↦ cond (eqb x 0) [] (x ∷ []) | y ∷ r ↦ x ∷ y ∷ r ]

-- The first n coefficients of a polynomial as an entry of P.
unfoldable pub listed : (p n : ℕ) → (ℕ → Residue p) → List ℕ
listed p n f = trimmed (table n (λ k. (f k).0))

-- The entries of a matrix with m rows and columns, each with at most so many coefficients.
unfoldable pub list_matrix : (p m n : ℕ) → Matrix (Series (K p)) → List (List (List ℕ))
list_matrix p m n M = table m (λ i. table m (λ j. listed p n (M i j)))

-- Step k: the combinations are subtracted, and each pivot "is multiplied by X at the step's end. Rows keep their places." After it an
-- entry has at most k + 2 coefficients.
unfoldable pub make_step : Problem → ℕ → List (List (List ℕ)) → List (List (List ℕ))
make_step b k P =
    let c : Chosen b.p = chosen b k P in
    list_matrix b.p b.m (suc (suc k)) (next (K b.p) b.m c.pivot c.multipliers (entries (K b.p) (matrix_P b P)))

-- ALL STEPS

-- P after the first k steps: "With 0 steps P is the identity".
unfoldable pub basis_after : Problem → ℕ → List (List (List ℕ))
basis_after b zero = list_matrix b.p b.m 1 (unit (Series (K b.p)))
basis_after b (suc k) = make_step b k (basis_after b k)

-- "The maker stops after that many steps, or when the largest order is reached, and returns how many it did: the smaller of the two."
unfoldable pub steps_done : Problem → ℕ → ℕ
steps_done b steps = min steps (max_below b.n (order b))

-- "the same problem with each order replaced by the smaller of it and b, its F columns cut to match"
unfoldable pub cut_problem : Problem → ℕ → Problem
cut_problem b steps = record {
  p = b.p;
  m = b.m;
  n = b.n;
  orders = table b.n (λ j. min (order b j) steps);
  shifts = b.shifts;
  F = table b.n (λ j. table b.m (λ i. take (min (order b j) steps) (at b.F j i)));
}

-- P and C after so many steps. C is that of the problem cut to them: its number for row i and column j is the coefficient of P times the
-- cut F at the cut order, and 0 after 0 steps.
unfoldable pub answer_after : Problem → ℕ → Answer
answer_after b steps = record { P = basis_after b steps; C = evidence_of (cut_problem b steps) (basis_after b steps) }

-- What is made: the answer, and how many steps were done.
pub record MadeAnswer : Type 0 where
  pub answer : Answer
  pub done : ℕ

-- "The caller gives a number of order steps allowed."
unfoldable pub make_answer : Problem → ℕ → MadeAnswer
make_answer b steps = record { answer = answer_after b (steps_done b steps); done = steps_done b steps }
