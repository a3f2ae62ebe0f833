-- What the readers accept is within document 01's sizes and ranges.
--   problem_valid, answer_valid, basis_valid, claim_valid, read_basis_valid
--   claim_got, basis_got     of two files that are read, each is
use Rattle.std.specs.Prelude.{◌≡◌, List, ℕ}
use Rattle.rules.specs.Reader.{Place, got, front}
use Rattle.rules.specs.Claim.{Problem, Answer, Claim}
use Rattle.rules.specs.Files.{answer_reader, basis_reader, read_problem, claim_for, read_claim, basis_for, read_basis}
use Rattle.laws.specs.Valid.{ValidProblem, ValidBasis, ValidAnswer, Valid}
use Rattle.laws.specs.BothFiles.{both_parts}
use Rattle.laws.specs.Soundness.{sound_problem, sound_answer, sound_basis}

-- A problem that is read is valid.
pub problem_valid : (s : List ℕ) {b : Problem} {q : Place} → read_problem s ≡ got b q → ValidProblem b
unfolding read_problem
problem_valid s h = (sound_problem.gives s (front 0) h).0

-- An answer that is read after a valid problem is valid.
pub answer_valid : (b : Problem) → ValidProblem b → (t : List ℕ) (p : Place) {a : Answer} {q : Place} → answer_reader b t p ≡ got a q → ValidAnswer b a
answer_valid b valid t p h = ((sound_answer b valid).gives t p h).0

-- A basis that is read after a valid problem is valid.
pub basis_valid : (b : Problem) → ValidProblem b → (t : List ℕ) (p : Place) {P : List (List (List ℕ))} {q : Place} → basis_reader b t p ≡ got P q
    → ValidBasis b P
basis_valid b valid t p h = ((sound_basis b valid).gives t p h).0

-- Of a claim that is read, the problem is read and then the answer, …
pub claim_got : (s t : List ℕ) (c : Claim) (q : Place) → read_claim s t ≡ got c q
    → (p : Place) × (read_problem s ≡ got c.problem p) × (answer_reader c.problem t (front 1) ≡ got c.answer q)
claim_got s t c q =
    both_parts answer_reader claim_for s t (λ c. (p : Place) × (read_problem s ≡ got c.problem p) ×
    (answer_reader c.problem t (front 1) ≡ got c.answer q))
    (λ b p a e f. (p, e, f))

-- … and of a problem and a basis that are read, each is.
pub basis_got : (s t : List ℕ) (c : Problem × List (List (List ℕ))) (q : Place) → read_basis s t ≡ got c q
    → (p : Place) × (read_problem s ≡ got c.0 p) × (basis_reader c.0 t (front 1) ≡ got c.1 q)
basis_got s t c q =
    both_parts basis_reader basis_for s t (λ c. (p : Place) × (read_problem s ≡ got c.0 p) × (basis_reader c.0 t (front 1) ≡ got c.1 q))
    (λ b p P e f. (p, e, f))

-- A claim that is read is valid.
pub claim_valid : (s t : List ℕ) {c : Claim} {q : Place} → read_claim s t ≡ got c q → Valid c
claim_valid s t =
    both_parts answer_reader claim_for s t Valid
    (λ b p a e f. record { valid_problem = problem_valid s e; valid_answer = answer_valid b (problem_valid s e) t (front 1) f })

-- A problem and a basis that are read are valid.
pub read_basis_valid : (s t : List ℕ) {c : Problem × List (List (List ℕ))} {q : Place} → read_basis s t ≡ got c q
    → ValidProblem c.0 × ValidBasis c.0 c.1
read_basis_valid s t =
    both_parts basis_reader basis_for s t (λ c. ValidProblem c.0 × ValidBasis c.0 c.1)
    (λ b p P e f. (problem_valid s e, basis_valid b (problem_valid s e) t (front 1) f))
