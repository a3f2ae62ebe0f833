-- How long the files are that are read.
--   problem_longest, basis_longest, answer_longest       none is longer than document 01 says
--   longest_problem_reached, longest_basis_reached, longest_answer_reached       and some are as long
--   verdict_limit, evidence_limit      the bytes behind the first 16,384 of a file change no verdict, and no evidence
use Rattle.std.specs.Prelude.{◌≡◌, refl, ◌≢◌, List, [], ℕ, suc, pred, ◌≤◌, ◌<◌, pos, nat_abs, length, get_or, take, replicate}
use Rattle.std.proofs.Common.{sym, ap, subst, ◌∙◌, arith}
use Rattle.std.proofs.Math.Logic.{by_cases}
use Rattle.std.proofs.Math.Decide.{dec_le}
use Rattle.std.proofs.lemmas.List.{length-replicate, get_or-replicate}
use Rattle.std.proofs.Math.ListN.{get_or-eq_default}
use Rattle.rules.specs.Sizes.{most_rows, most_order, most_length, largest_prime, most_shift, read_limit}
use Rattle.rules.specs.Claim.{Problem, Answer, Claim}
use Rattle.rules.specs.Reader.{Place, Result, refused, got, Reader, front, next}
use Rattle.rules.specs.Files.{answer_reader, basis_reader, read_problem, read_both, claim_for, read_claim, basis_for, no_divisor, is_prime}
use Rattle.rules.specs.Writer.{bytes, write_each, unsigned, write_PR, write_OR, write_SH, write_FC, write_PE, write_CE, write_basis, write_problem}
use Rattle.rules.specs.Writer.{write_answer}
use Rattle.rules.specs.Matrices.{order, at}
use Rattle.laws.specs.Valid.{ValidProblem, ValidAnswer}
use Rattle.rules.specs.Verdict.{Verdict, unread, judge_claim, verdict}
use Rattle.rules.specs.Evidence.{make_evidence}
use Rattle.laws.specs.EvidenceLaws.{evidence_of_reading}
use Rattle.laws.specs.ReaderLaws.{next_cong, Sound}
use Rattle.laws.specs.FieldTests.{is_prime_iff}
use Rattle.laws.specs.RoundTrip.{read_written_problem, read_written_basis, read_written_claim}
use Rattle.laws.specs.Soundness.{longest_FC, longest_problem, longest_PE, longest_basis, longest_answer, sound_problem, sound_basis, sound_answer}
use Rattle.laws.specs.Soundness.{problem_ends, basis_ends, answer_ends}
use Rattle.laws.specs.Ranges.{problem_valid}

-- "The longest problem is 1,060 bytes …"
pub longest_problem_is : longest_problem ≡ 1_060
unfolding most_rows most_order longest_FC longest_problem
longest_problem_is = refl

-- "… and the longest answer 1,234."
pub longest_answer_is : longest_answer ≡ 1_234
unfolding most_rows most_length longest_PE longest_basis longest_answer
longest_answer_is = refl

-- An answer that ends after the last `PE` lacks the 66 bytes of `CE`.
pub longest_basis_is : longest_basis ≡ 1_168
unfolding most_rows most_length longest_PE longest_basis
longest_basis_is = refl

-- A problem that is read is not longer, …
pub problem_longest : (s : List ℕ) {b : Problem} {q : Place} → read_problem s ≡ got b q → length s ≤ longest_problem
unfolding read_problem
problem_longest s h = omega (arith, problem_ends.at_end s (front 0) h, (sound_problem.gives s (front 0) h).1.at)

-- … nor is a basis …
pub basis_longest : (b : Problem) → ValidProblem b → (t : List ℕ) {P : List (List (List ℕ))} {q : Place} → basis_reader b t (front 1) ≡ got P q
    → length t ≤ longest_basis
basis_longest b valid t h = omega (arith, (basis_ends b).at_end t (front 1) h, ((sound_basis b valid).gives t (front 1) h).1.at)

-- … or an answer.
pub answer_longest : (b : Problem) → ValidProblem b → (t : List ℕ) {a : Answer} {q : Place} → answer_reader b t (front 1) ≡ got a q → length t ≤ longest_answer
answer_longest b valid t h = omega (arith, (answer_ends b).at_end t (front 1) h, ((sound_answer b valid).gives t (front 1) h).1.at)

-- A claim of the largest sizes.
abbrev large_problem : Problem
large_problem = record {
  p = 2;
  m = most_rows;
  n = most_rows;
  orders = replicate most_rows most_order;
  shifts = replicate most_rows (pos 0);
  F = replicate most_rows (replicate most_rows (replicate most_order 0));
}

abbrev large_answer : Answer
large_answer = record { P = replicate most_rows (replicate most_rows (replicate most_length 1)); C = replicate most_rows (replicate most_rows 0) }

replicate_all : {A : Type 0} (n : ℕ) (a d : A) (Q : A → Type 0) → Q a → Q d → (i : ℕ) → Q (get_or (replicate n a) i d)
replicate_all n a d Q v w i = by_cases (dec_le (suc i) n)
    (λ h. subst Q (sym (get_or-replicate n i a d h)) v)
    (λ h. subst Q (sym (get_or-eq_default (replicate n a) d (omega (arith, length-replicate n a)))) w)

replicate_at : {A : Type 0} (n : ℕ) (a d : A) (Q : A → Type 0) → Q a → (i : ℕ) → i < n → Q (get_or (replicate n a) i d)
replicate_at n a d Q v i h = subst Q (sym (get_or-replicate n i a d h)) v

module _ (m n : ℕ) (x : List ℕ) (Q : List ℕ → Type 0) (v : Q x) where
  cell_at : (i j : ℕ) → i < m → j < n → Q (at (replicate m (replicate n x)) i j)
  cell_at i j hi hj = replicate_at m (replicate n x) [] (λ row. Q (get_or row j [])) (replicate_at n x [] Q v j hj) i hi

  cell_all : Q [] → (i j : ℕ) → Q (at (replicate m (replicate n x)) i j)
  cell_all w i j = replicate_all m (replicate n x) [] (λ row. Q (get_or row j [])) (replicate_all n x [] Q v w j) w i

large_problem_valid : ValidProblem large_problem
unfolding largest_prime most_rows most_order most_shift no_divisor is_prime
large_problem_valid = record {
  prime = (is_prime_iff 2).0 refl;
  prime_size = omega arith;
  rows_least = omega arith;
  rows_most = omega arith;
  columns_least = omega arith;
  columns_most = omega arith;
  orders_length = refl;
  order_least = replicate_at most_rows most_order 0 (λ d. 1 ≤ d) (omega arith);
  order_most = replicate_all most_rows most_order 0 (λ d. d ≤ most_order) (omega arith) (omega arith);
  shifts_length = refl;
  shift_most = replicate_all most_rows (pos 0) (pos 0) (λ z. nat_abs z ≤ most_shift) (omega arith) (omega arith);
  F_length = refl;
  F_column_length = replicate_at most_rows (replicate most_rows (replicate most_order 0)) [] (λ l. length l ≡ most_rows) refl;
  F_entry_length =
      λ i j hi hj. cell_at most_rows most_rows (replicate most_order 0) (λ l. length l ≡ order large_problem j)
      (replicate_at most_rows most_order 0 (λ d. most_order ≡ d) refl j hj) j i hj hi;
  F_range =
      λ i j. cell_all most_rows most_rows (replicate most_order 0) (λ l. (k : ℕ) → get_or l k 0 < 2)
      (replicate_all most_order 0 0 (λ c. c < 2) (omega arith) (omega arith)) (λ k. omega arith) j i;
}

large_answer_valid : ValidAnswer large_problem large_answer
unfolding most_rows most_length
large_answer_valid = record {
  basis = record {
    P_length = refl;
    P_row_length = replicate_at most_rows (replicate most_rows (replicate most_length 1)) [] (λ l. length l ≡ most_rows) refl;
    P_entry_length = cell_all most_rows most_rows (replicate most_length 1) (λ l. length l ≤ most_length) (omega arith) (omega arith);
    P_range =
        cell_all most_rows most_rows (replicate most_length 1) (λ l. (k : ℕ) → get_or l k 0 < 2)
        (replicate_all most_length 1 0 (λ c. c < 2) (omega arith) (omega arith)) (λ k. omega arith);
    P_last = cell_all most_rows most_rows (replicate most_length 1) (λ l. 0 < length l → get_or l (pred (length l)) 0 ≢ 0) (λ h. omega arith) (λ h. omega arith);
  };
  C_length = refl;
  C_row_length = replicate_at most_rows (replicate most_rows 0) [] (λ l. length l ≡ most_rows) refl;
  C_range =
      λ i j. replicate_all most_rows (replicate most_rows 0) [] (λ row. get_or row j 0 < 2)
      (replicate_all most_rows 0 0 (λ c. c < 2) (omega arith) (omega arith) j) (omega arith) i;
}

-- Some problem is as long, …
pub longest_problem_reached : (s : List ℕ) × (b : Problem) × (q : Place) × (read_problem s ≡ got b q) × (length s ≡ longest_problem)
unfolding most_rows most_order bytes write_each unsigned write_PR write_OR write_SH write_FC write_problem longest_FC longest_problem
longest_problem_reached = let (q, e) = read_written_problem large_problem large_problem_valid in (write_problem large_problem, large_problem, q, e, refl)

-- … and for a valid problem some basis …
pub longest_basis_reached : (b : Problem) × (t : List ℕ) × (P : List (List (List ℕ))) × (q : Place)
    × ValidProblem b × (basis_reader b t (front 1) ≡ got P q) × (length t ≡ longest_basis)
unfolding most_rows most_length bytes write_each write_PE write_basis longest_PE longest_basis
longest_basis_reached =
    let (q, e) = read_written_basis large_problem large_problem_valid large_answer.P large_answer_valid.basis in
    (large_problem, write_basis large_answer.P, large_answer.P, q, large_problem_valid, e, refl)

-- … and some answer.
pub longest_answer_reached : (s : List ℕ) × (t : List ℕ) × (c : Claim) × (q : Place) × (read_claim s t ≡ got c q) × (length t ≡ longest_answer)
unfolding most_rows most_length bytes write_each write_PE write_CE write_basis write_answer longest_PE longest_basis longest_answer
longest_answer_reached =
    let c : Claim = record { problem = large_problem; answer = large_answer } in
    let (q, e) = read_written_claim c (record { valid_problem = large_problem_valid; valid_answer = large_answer_valid }) in
    (write_problem large_problem, write_answer large_answer, c, q, e, refl)

-- Two files are read as what stands in front of any offset behind the longest files, whatever kind of answer it is.
both_front : {A B : Type 0} (answer : Problem → Reader A) (whole : Problem → A → B) {Q : Problem → A → Type 0} {k c : ℕ}
    → ((b : Problem) → ValidProblem b → Sound k c (Q b) (answer b)) → (s t : List ℕ) (N : ℕ) → longest_problem < N → k < N
    → read_both answer whole (take N s) (take N t) ≡ read_both answer whole s t
unfolding read_both read_problem
both_front answer whole sound s t N hs ht =
    ap (λ x. next x (λ b q. next (answer b (take N t) (front 1)) (λ a q. got (whole b a) q))) (sound_problem.looks s (front 0) N (omega arith))
    ∙ next_cong (read_problem s) _ _
    (λ b q e. ap (λ x. next x (λ a q. got (whole b a) q)) ((sound b (problem_valid s e)).looks t (front 1) N (omega arith)))

-- "reads at most 16,384 bytes of each (which changes no verdict)"
pub verdict_limit : (s t : List ℕ) → verdict (take read_limit s) (take read_limit t) ≡ verdict s t
unfolding verdict read_limit
verdict_limit s t =
    ap (λ (x : Result Claim). elim x as (λ x. Verdict) [ refused r ↦ unread r | got c q ↦ judge_claim c ])
    (both_front answer_reader claim_for sound_answer s t read_limit (omega (arith, longest_problem_is)) (omega (arith, longest_answer_is)))

-- They change no evidence, and no answer of its making.
pub evidence_limit : (s t lent : List ℕ) → make_evidence (take read_limit s) (take read_limit t) lent ≡ make_evidence s t lent
unfolding read_limit
evidence_limit s t lent =
    evidence_of_reading (take read_limit s) (take read_limit t) s t lent
    (both_front basis_reader basis_for sound_basis s t read_limit (omega (arith, longest_problem_is)) (omega (arith, longest_basis_is)))
