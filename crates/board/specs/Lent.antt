-- The prepared form as a host in C keeps it: its numbers one by one.
--   head_with, problem_with  the numbers put together
--   left_after x old         what they are after a reading: the problem that was read, or what they were
--   refused_number, refused_left, read_number, read_left       a problem that is refused, and one that is read
--   JudgedAs head f t r      the number r packs what the answer t gets for the form; judged_as_unique     it is settled
use Rattle.std.specs.Prelude.{◌≡◌, List, ℕ, ℤ, Result as Outcome, Ok, Err}
use Rattle.std.proofs.Math.Path.{sym}
use Rattle.std.proofs.Common.{ap, ◌∙◌}
use Rattle.rules.specs.Files.{read_problem}
use Rattle.rules.specs.Verdict.{unread, numbers, packed}
use Rattle.rules.specs.Prepared.{PreparedVerdict, prepared_numbers, Judges, prepare_numbers}
use Rattle.verdict.specs.Meant.{refusal_of}
use Rattle.claim.specs.declared.Head.{Head}
use Rattle.claim.specs.declared.Problem.{Problem}
use Rattle.verdict.specs.declared.Refusal.{Refusal as Refused}
use Rattle.problem_file.specs.Values.{problem_value}
use Rattle.reader.specs.Readings.{problem_off, problem_read}
use Rattle.prepared.specs.Form.{form_of}
use Rattle.judging.specs.One.{judges_same}

abbrev pub head_with : (p m n : ℕ) → List ℕ → List ℤ → Head
head_with p m n orders shifts = record { p = p; m = m; n = n; orders = orders; shifts = shifts }

abbrev pub problem_with : (p m n : ℕ) → List ℕ → List ℤ → List ℕ → Problem
problem_with p m n orders shifts f = record { head = head_with p m n orders shifts; f = f }

abbrev pub left_after : Outcome (Unit {0}) Refused × Problem → Problem → Problem
left_after (Ok u, read) old = read
left_after (Err r, read) old = old

module _ (s : List ℕ) {x : Problem} (old : Problem) where
  -- The problem is refused, …
  module _ {r : Refused} (e : (Err r, x) ≡ problem_value (read_problem s)) where
    pub refused_number : numbers (unread (refusal_of r)) ≡ prepare_numbers (read_problem s)
    unfolding prepare_numbers
    refused_number = sym (ap prepare_numbers (problem_off s e))

    pub refused_left : old ≡ left_after (problem_value (read_problem s)) old
    refused_left = ap (λ y. left_after y old) e

  -- … or read.
  module _ (e : (Ok tt, x) ≡ problem_value (read_problem s)) where
    pub read_number : 0 ≡ packed (prepare_numbers (read_problem s))
    unfolding prepare_numbers packed
    read_number = sym (ap (λ m. packed (prepare_numbers m)) (problem_read s e))

    pub read_left : x ≡ left_after (problem_value (read_problem s)) old
    read_left = ap (λ y. left_after y old) e

pub record JudgedAs (head : Head) (f t : List ℕ) (r : ℕ) : Type 0 where
  pub verdict : PreparedVerdict
  pub judges : Judges (form_of head f) t verdict
  pub number : r ≡ packed (prepared_numbers verdict)

pub judged_as_unique : (head : Head) (f t : List ℕ) (r r' : ℕ) → JudgedAs head f t r → JudgedAs head f t r' → r ≡ r'
judged_as_unique head f t r r' h h' =
    h.number ∙ ap (λ v. packed (prepared_numbers v)) (judges_same head f t h.verdict h'.verdict h.judges h'.judges) ∙ sym h'.number
