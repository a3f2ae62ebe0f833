-- Answers made for document 01's problem of two rows, and what the judge says of them: worked by computation.
--   run_made                 what is made for a problem, with all that it takes to compute it opened
--   two_rows_made            P, C and the steps done, after 0 to 3 steps allowed
--   two_rows_passed          the verdicts on the files written, for the problem cut to the steps done
--   two_rows_bytes, two_rows_kept, two_rows_written, two_rows_cut_short      the service: bytes written and needed, and the buffer
use Rattle.std.specs.Prelude.{◌≡◌, refl, List, [], ◌∷◌, ◌++◌, map, ℕ, pos, negsuc, take}
use Rattle.algebra.specs.Sum.{sum, replace}
use Rattle.algebra.specs.Residue.{red}
use Rattle.algebra.specs.Series.{convolve, constant, shift}
use Rattle.algebra.specs.Matrix.{cons, unit, vmul, mmul}
use Rattle.algebra.specs.Step.{cleared, next}
use Rattle.rules.specs.Claim.{Problem}
use Rattle.rules.specs.Matrices.{product}
use Rattle.rules.specs.Conditions.{some_below, first_below, max_below, degree_of, shifted_degree_of, largest, row_degree_of}
use Rattle.rules.specs.Writer.{write_problem, write_answer}
use Rattle.rules.specs.Verdict.{Numbers, four}
use Rattle.rules.specs.Table.{table}
use Rattle.rules.specs.Evidence.{evidence_of}
use Rattle.rules.specs.Run.{run_verdict}
use Rattle.rules.specs.Cases.{two_by_one}
use Rattle.rules.specs.MakeBasis.{basis_numbers, made_file, make_basis}
use Rattle.rules.specs.Maker.{lower_left, next_row, first_some, find_constants, depends, take_row, take_rows, chosen, trimmed, listed, list_matrix}
use Rattle.rules.specs.Maker.{make_step, basis_after, steps_done, cut_problem, answer_after, MadeAnswer, make_answer}

-- What is made.
unfoldable pub run_made : Problem → ℕ → MadeAnswer
unfolding sum replace red convolve constant shift cons unit vmul mmul cleared next product some_below first_below max_below degree_of
    shifted_degree_of largest row_degree_of table evidence_of lower_left next_row first_some find_constants depends take_row take_rows
    chosen trimmed listed list_matrix make_step basis_after steps_done cut_problem answer_after make_answer
run_made b steps = make_answer b steps

-- The four numbers of the verdict on what is made, for the problem cut to the steps done.
unfoldable pub run_made_verdict : Problem → ℕ → Numbers
unfolding run_made run_verdict
run_made_verdict b steps =
    let made : MadeAnswer = run_made b steps in
    run_verdict (write_problem (cut_problem b made.done)) (write_answer made.answer)

-- p = 7, order 2, shifts 0 and 0, F rows 1 and 1 + X.
abbrev two_rows : Problem
two_rows = (two_by_one (pos 0) (pos 0) 0 1).problem

-- With 0 steps P is the identity and C zero. Step 0 takes row 0 for its pivot and subtracts it from row 1; step 1 takes row 1, which is
-- lower, and subtracts it from row 0. Then the largest order is reached.
pub two_rows_made : map (run_made two_rows) (0 ∷ 1 ∷ 2 ∷ 3 ∷ [])
    ≡ record { answer = record { P = ((1 ∷ []) ∷ [] ∷ []) ∷ ([] ∷ (1 ∷ []) ∷ []) ∷ []; C = (0 ∷ []) ∷ (0 ∷ []) ∷ [] }; done = 0 }
    ∷ record { answer = record { P = ((0 ∷ 1 ∷ []) ∷ [] ∷ []) ∷ ((6 ∷ []) ∷ (1 ∷ []) ∷ []) ∷ []; C = (1 ∷ []) ∷ (0 ∷ []) ∷ [] }; done = 1 }
    ∷ record { answer = record { P = ((1 ∷ 1 ∷ []) ∷ (6 ∷ []) ∷ []) ∷ ((0 ∷ 6 ∷ []) ∷ (0 ∷ 1 ∷ []) ∷ []) ∷ []; C = (0 ∷ []) ∷ (1 ∷ []) ∷ [] }; done = 2 }
    ∷ record { answer = record { P = ((1 ∷ 1 ∷ []) ∷ (6 ∷ []) ∷ []) ∷ ((0 ∷ 6 ∷ []) ∷ (0 ∷ 1 ∷ []) ∷ []) ∷ []; C = (0 ∷ []) ∷ (1 ∷ []) ∷ [] }; done = 2 }
    ∷ []
unfolding run_made
two_rows_made = refl

-- The judge passes what is made after 1 and after 2 steps, for the problem cut to them; so with other shifts, where other rows are lower.
pub two_rows_passed : map (run_made_verdict two_rows) (1 ∷ 2 ∷ []) ≡ four 0 0 0 1 ∷ four 0 0 0 2 ∷ []
unfolding run_made_verdict
two_rows_passed = refl

pub shifted_rows_passed : map (run_made_verdict (two_by_one (pos 5) (negsuc 2) 0 1).problem) (1 ∷ 2 ∷ []) ≡ four 0 0 0 1 ∷ four 0 0 0 2 ∷ []
unfolding run_made_verdict
shifted_rows_passed = refl

-- The service on the file of that problem: the four numbers, and the buffer afterwards.
unfoldable pub run_make_basis : List ℕ → ℕ → List ℕ → Numbers × List ℕ
unfolding run_made run_verdict basis_numbers made_file make_basis
run_make_basis s steps lent = (basis_numbers (make_basis s steps lent).answer, (make_basis s steps lent).buffer)

-- The answer has 58 bytes where all steps are done, 46 after one and 38 after none.
-- A buffer of one byte less is too small and stays as it was, and so it does where the problem lacks its last byte; what lies behind the
-- file stays.
pub two_rows_bytes : map (λ steps. (run_make_basis (write_problem two_rows) steps (table 57 (λ i. 9))).0) (0 ∷ 1 ∷ 2 ∷ 3 ∷ [])
    ≡ four 0 0 0 38 ∷ four 0 0 1 46 ∷ four 14 0 0 58 ∷ four 14 0 0 58 ∷ []
unfolding run_make_basis
two_rows_bytes = refl

pub two_rows_kept : (run_make_basis (write_problem two_rows) 2 (table 57 (λ i. 9))).1 ≡ table 57 (λ i. 9)
unfolding run_make_basis
two_rows_kept = refl

pub two_rows_written : run_make_basis (write_problem two_rows) 5 (table 60 (λ i. 9))
    ≡ (four 0 0 2 58, write_answer (run_made two_rows 2).answer ++ (9 ∷ 9 ∷ []))
unfolding run_make_basis
two_rows_written = refl

pub two_rows_cut_short : run_make_basis (take 35 (write_problem two_rows)) 2 (table 60 (λ i. 9)) ≡ (four 1 0 3 32, table 60 (λ i. 9))
unfolding run_make_basis
two_rows_cut_short = refl
