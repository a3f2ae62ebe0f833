-- An answer that the rules read, as the code's structs.
--   answer_parts, answer_parts_refused       P, and C where the `CE` record is due
--   read_answer              the answer to a problem with p, m and n, with its `CE` record or without: only, without_evidence
--   lengths_value, entries_value, constants_value, answer_arrays       an answer that was read, in arrays
--   answer_value             an answer that was read or refused, as the code's answer and what it leaves in the struct lent
--   answer_from, answer_given        an answer is its parts
--   read_answer_refused      a refusal's offsets fit 32 bits
use Rattle.std.specs.Prelude.{◌≡◌, Bool, true, false, List, [], ℕ, ◌≤◌, Result as Outcome, Ok, Err}
use Rattle.std.proofs.Common.{sym, ◌∙◌, arith}
use Rattle.rules.specs.Sizes.{most_rows}
use Rattle.rules.specs.Claim.{Problem, Answer}
use Rattle.rules.specs.Reader.{Place, Refusal, Result, refused, got, Reader, ◌>>=◌, end, front}
use Rattle.rules.specs.Files.{CE, entries_reader, answer_reader, basis_reader}
use Rattle.laws.specs.ReaderLaws.{next_cong}
use Rattle.laws.specs.Soundness.{sound_basis_sized, sound_answer_sized}
use Rattle.laws.specs.Lengths.{longest_basis_is, longest_answer_is}
use Rattle.layout.specs.Flat.{filled, square, entry_coefficients}
use Rattle.claim.specs.declared.Answer.{Answer as AnswerArrays}
use Rattle.claim.specs.Empty.{empty_answer}
use Rattle.verdict.specs.declared.Refusal.{Refusal as Refused}
use Rattle.refusal.specs.Narrow.{Narrow, from_front, refusal_value}
use Rattle.storing.specs.Flat.{entries_into, evidence_into}
use Rattle.storing.specs.Records.{then_refused}
use Rattle.storing.specs.Storing.{into, into_next, into_end, into_refused}

-- An answer: P, and C where the `CE` record is due.
unfoldable pub answer_parts : (p m n : ℕ) → Bool → Reader (List (List (List ℕ)) × List (List ℕ))
answer_parts p m n true = entries_reader p m >>= λ P. CE p m n >>= λ C. end (P, C)
answer_parts p m n false = entries_reader p m >>= λ P. end (P, [])

-- Both end with a refusal of the entries.
pub answer_parts_refused : (p m n : ℕ) (evidence : Bool) (s : List ℕ) (q : Place) {x : Refusal} → refused x ≡ entries_reader p m s q
    → answer_parts p m n evidence s q ≡ refused x
unfolding answer_parts
answer_parts_refused p m n true s q e = then_refused _ e
answer_parts_refused p m n false s q e = then_refused _ e

-- Of a problem the answer's readers use p, m and n alone.
abbrev pub only : (p m n : ℕ) → Problem
only p m n = record { p = p; m = m; n = n; orders = []; shifts = []; F = [] }

-- An answer that ends after its entries.
abbrev pub without_evidence : List (List (List ℕ)) → Answer
without_evidence P = record { P = P; C = [] }

-- The answer to a problem with these numbers, with its `CE` record or without.
unfoldable pub read_answer : (p m n : ℕ) → Bool → List ℕ → Result Answer
read_answer p m n true t = answer_reader (only p m n) t (front 1)
read_answer p m n false t = into without_evidence (basis_reader (only p m n) t (front 1))

-- P in arrays: the lengths and the coefficients of its entries; and C.
abbrev pub lengths_value : List (List (List ℕ)) → List ℕ
lengths_value P = (entries_into (filled square 0, filled entry_coefficients 0) P).0

abbrev pub entries_value : List (List (List ℕ)) → List ℕ
entries_value P = (entries_into (filled square 0, filled entry_coefficients 0) P).1

abbrev pub constants_value : List (List ℕ) → List ℕ
constants_value C = evidence_into (filled square 0) C

abbrev pub answer_with : (lengths entries c : List ℕ) → AnswerArrays
answer_with lengths entries c = record { basis = record { lengths = lengths; entries = entries }; c = c }

abbrev pub answer_arrays : Answer → AnswerArrays
answer_arrays a = answer_with (lengths_value a.P) (entries_value a.P) (constants_value a.C)

-- The code's reading of an answer, and where it goes: what was read, or the refusal and 0 everywhere.
unfoldable pub answer_value : Result Answer → Outcome (Unit {0}) Refused × AnswerArrays
answer_value (refused x) = (Err (refusal_value x), empty_answer)
answer_value (got a q) = (Ok tt, answer_arrays a)

abbrev pub answer_from : List (List (List ℕ)) × List (List ℕ) → Answer
answer_from a = record { P = a.0; C = a.1 }

-- A refusal of an answer fits 32 bits, …
pub answer_refused : (b : Problem) (t : List ℕ) {x : Refusal} → b.m ≤ most_rows → b.n ≤ most_rows → answer_reader b t (front 1) ≡ refused x → Narrow x.place
answer_refused b t hm hn e = from_front ((sound_answer_sized b hm hn).refuses t (front 1) e) (omega (arith, longest_answer_is))

-- … and one of an answer without its last record.
pub basis_refused : (b : Problem) (t : List ℕ) {x : Refusal} → b.m ≤ most_rows → basis_reader b t (front 1) ≡ refused x → Narrow x.place
basis_refused b t hm e = from_front ((sound_basis_sized b hm).refuses t (front 1) e) (omega (arith, longest_basis_is))

-- An answer is its parts.
pub answer_given : (p m n : ℕ) (evidence : Bool) (t : List ℕ) → read_answer p m n evidence t ≡ into answer_from (answer_parts p m n evidence t (front 1))
unfolding read_answer answer_parts answer_reader basis_reader
answer_given p m n true t =
    sym
    (into_next answer_from (entries_reader p m t (front 1)) _
    ∙ next_cong (entries_reader p m t (front 1)) _ _ (λ P q₁ _. into_next answer_from (CE p m n t q₁) _ ∙ next_cong (CE p m n t q₁) _ _ (λ C q₂ _. into_end answer_from (P, C) t q₂)))
answer_given p m n false t =
    into_next without_evidence (entries_reader p m t (front 1)) _
    ∙ next_cong (entries_reader p m t (front 1)) _ _ (λ P q _. into_end without_evidence P t q)
    ∙ sym (into_next answer_from (entries_reader p m t (front 1)) _ ∙ next_cong (entries_reader p m t (front 1)) _ _ (λ P q _. into_end answer_from (P, []) t q))

-- A refusal of an answer fits 32 bits.
pub read_answer_refused : (p m n : ℕ) (evidence : Bool) (t : List ℕ) {x : Refusal} → m ≤ most_rows → n ≤ most_rows → read_answer p m n evidence t ≡ refused x
    → Narrow x.place
unfolding read_answer
read_answer_refused p m n true t hm hn e = answer_refused (only p m n) t hm hn e
read_answer_refused p m n false t hm hn e = basis_refused (only p m n) t hm (sym (into_refused without_evidence (basis_reader (only p m n) t (front 1)) (sym e)))
