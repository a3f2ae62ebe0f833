-- Where the reading of two files is refused.
--   Placed s t r             r has a code from 1 to 8, and its place is one of the two files'
--   claim_refused, basis_refused       so are the refusals of a claim, and of a problem and a basis
use Rattle.std.specs.Prelude.{◌≡◌, ◌⊎◌, cond, List, ℕ, ◌+◌, ◌*◌, ◌≤◌, eqb, length}
use Rattle.std.proofs.Math.Path.{refl}
use Rattle.std.proofs.Common.{subst, inl, inr, zero-le, le_refl, arith}
use Rattle.rules.specs.Sizes.{most_rows, most_order, most_length}
use Rattle.rules.specs.Reader.{Place, Refusal, refused, got, Reader, front}
use Rattle.rules.specs.Claim.{Problem}
use Rattle.rules.specs.Files.{answer_reader, basis_reader, read_problem, read_both, claim_for, read_claim, basis_for, read_basis}
use Rattle.laws.specs.Valid.{ValidProblem}
use Rattle.laws.specs.ReaderLaws.{Refusing, Sound}
use Rattle.laws.specs.BothFiles.{both_refuses}
use Rattle.laws.specs.Soundness.{longest_FC, longest_problem, longest_PE, longest_basis, longest_answer, sound_problem, sound_basis, sound_answer}
use Rattle.laws.specs.Ranges.{problem_valid}

-- A refusal by a code from 1 to 8, in one of the two files, in a record that starts at or before the field, at an offset within that
-- file; no file that is read has more records, and none is longer.
pub record Placed (s t : List ℕ) (r : Refusal) : Type 0 where
  pub code_least : 1 ≤ r.code
  pub code_most : r.code ≤ 8
  pub file : r.place.file ≤ 1
  pub number : r.place.number ≤ most_rows * most_rows + 1
  pub start : r.place.start ≤ r.place.at
  pub at : r.place.at ≤ cond (eqb r.place.file 0) (length s) (length t)
  pub at_most : r.place.at ≤ longest_answer

module _ (s t : List ℕ) (r : Refusal) where
  -- A refusal in the file f, which is u.
  in_file : (f : ℕ) → f ≤ 1 → (u : List ℕ) → length u ≡ cond (eqb f 0) (length s) (length t)
      → (k c : ℕ) → k ≤ longest_answer → c ≤ most_rows * most_rows + 1 → Refusing k c u (front f) r → Placed s t r
  in_file f hf u e k c hk hc h = record {
    code_least = h.code_least;
    code_most = h.code_most;
    file = omega (arith, h.place.file);
    number = omega (arith, h.place.number);
    start = h.place.start zero-le;
    at = rw h.place.file (subst (λ l. r.place.at ≤ l) e (h.place.in_file zero-le));
    at_most = omega (arith, h.place.at);
  }

  -- The refusals of a problem and an answer of any kind, whose reader moves no further than an answer's.
  both_refused : {A B : Type 0} (answer : Problem → Reader A) (whole : Problem → A → B) {Q : Problem → A → Type 0} {k c : ℕ}
      → ((b : Problem) → ValidProblem b → Sound k c (Q b) (answer b)) → k ≤ longest_answer → c ≤ most_rows * most_rows + 1
      → read_both answer whole s t ≡ refused r → Placed s t r
  unfolding read_problem most_rows most_order most_length longest_FC longest_problem longest_PE longest_basis longest_answer
  both_refused answer whole {k = k} {c = c} sound hk hc h = by_file (both_refuses answer whole s t h)
    where
      by_file : (read_problem s ≡ refused r) ⊎ ((b : Problem) × (p : Place) × (read_problem s ≡ got b p) × (answer b t (front 1) ≡ refused r)) → Placed s t r
      by_file (inl e) = in_file 0 (omega arith) s refl longest_problem (3 + most_rows) (omega arith) (omega arith) (sound_problem.refuses s (front 0) e)
      by_file (inr (b, p, e, f)) = in_file 1 (omega arith) t refl k c hk hc ((sound b (problem_valid s e)).refuses t (front 1) f)

  -- The refusals of a claim, …
  pub claim_refused : read_claim s t ≡ refused r → Placed s t r
  claim_refused = both_refused answer_reader claim_for sound_answer (le_refl longest_answer) (le_refl (most_rows * most_rows + 1))

  -- … and of a problem and a basis.
  pub basis_refused : read_basis s t ≡ refused r → Placed s t r
  unfolding longest_answer
  basis_refused = both_refused basis_reader basis_for sound_basis (omega arith) (omega arith)
