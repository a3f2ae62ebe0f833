-- A problem that the rules read, as the code's structs.
--   body_reader              what follows the `PR` record
--   head_value, columns_value, problem_arrays        a problem that was read, in arrays
--   problem_value            a problem that was read or refused, as the code's answer and what it leaves in the struct lent
--   problem_from, body_gives, head_refused, head_given      a problem is its `PR` record and what follows
--   problem_refused          a refusal's offsets fit 32 bits
use Rattle.std.specs.Prelude.{◌≡◌, List, ℕ, ℤ, pos, get_or, Result as Outcome, Ok, Err}
use Rattle.std.proofs.Math.Path.{sym, ap}
use Rattle.std.proofs.Common.{◌∙◌, arith}
use Rattle.rules.specs.Sizes.{most_rows}
use Rattle.rules.specs.Claim.{Problem}
use Rattle.rules.specs.Reader.{Place, Refusal, Result, refused, got, Reader, ◌>>=◌, each, end, front}
use Rattle.rules.specs.Files.{PR, OR, SH, FC, problem_reader, read_problem}
use Rattle.laws.specs.ReaderLaws.{next_cong}
use Rattle.laws.specs.Soundness.{sound_problem}
use Rattle.laws.specs.Lengths.{longest_problem_is}
use Rattle.layout.specs.Flat.{filled, column_coefficients}
use Rattle.claim.specs.declared.Head.{Head}
use Rattle.claim.specs.declared.Problem.{Problem as ProblemArrays}
use Rattle.claim.specs.Empty.{empty_problem}
use Rattle.verdict.specs.declared.Refusal.{Refusal as Refused}
use Rattle.refusal.specs.Narrow.{Narrow, from_front, refusal_value}
use Rattle.place.specs.Places.{place, Going, going}
use Rattle.storing.specs.Flat.{list_into, shifts_into, columns_into, body_into}
use Rattle.storing.specs.Records.{then_refused, then_given}
use Rattle.storing.specs.Storing.{into, into_got, into_refused, into_next, into_end}

-- A problem after its `PR` record: orders, shifts and F, to the file's end.
unfoldable pub body_reader : (p m n : ℕ) → Reader (List ℕ × List ℤ × List (List (List ℕ)))
body_reader p m n = OR n >>= λ orders. SH m >>= λ shifts. each n (λ j. FC p m (get_or orders j 0) j) >>= λ F. end (orders, shifts, F)

-- A problem in arrays: its numbers, …
abbrev head_with : (p m n : ℕ) → List ℕ → List ℤ → Head
head_with p m n orders shifts = record { p = p; m = m; n = n; orders = orders; shifts = shifts }

abbrev pub head_value : Problem → Head
head_value b = head_with b.p b.m b.n (list_into (filled most_rows 0) b.orders) (shifts_into (filled most_rows (pos 0)) b.shifts)

-- … and the coefficients of F.
abbrev pub columns_value : Problem → List ℕ
columns_value b = columns_into (filled column_coefficients 0) b.F

abbrev pub problem_arrays : Problem → ProblemArrays
problem_arrays b = record { head = head_value b; f = columns_value b }

-- The code's reading of a problem, and where it goes: what was read, or the refusal and 0 everywhere.
unfoldable pub problem_value : Result Problem → Outcome (Unit {0}) Refused × ProblemArrays
problem_value (refused x) = (Err (refusal_value x), empty_problem)
problem_value (got b q) = (Ok tt, problem_arrays b)

-- A problem from the numbers of its `PR` record and what follows.
abbrev pub problem_from : (p m n : ℕ) → List ℕ × List ℤ × List (List (List ℕ)) → Problem
problem_from p m n b = record { p = p; m = m; n = n; orders = b.0; shifts = b.1; F = b.2 }

-- The arrays of a problem whose numbers are those of its `PR` record, where what follows was read into arrays of zeros.
pub body_gives : (r : Going) (b : ProblemArrays) (p m n : ℕ) (body : Result (List ℕ × List ℤ × List (List (List ℕ))))
    → (b.head.p ≡ p) × (b.head.m ≡ m) × (b.head.n ≡ n)
    → going r (b.head.orders, b.head.shifts, b.f) ≡ into (body_into (filled most_rows 0, filled most_rows (pos 0), filled column_coefficients 0)) body
    → going r b ≡ into problem_arrays (into (problem_from p m n) body)
unfolding into
body_gives (Ok q) b p m n body kept e =
    let (a, read, stands) = into_got _ body e in
    let same : b ≡ problem_arrays (problem_from p m n a) =
    λ i. record {
      head =
          record { p = kept.0 i; m = kept.1 i; n = kept.2 i; orders = (sym stands i).0; shifts = (sym stands i).1 };
      f = (sym stands i).2;
    } in
    ap (λ (z : ProblemArrays). got z (place q)) same ∙ ap (λ z. into problem_arrays (into (problem_from p m n) z)) read
body_gives (Err x) b p m n body kept e = ap (λ z. into problem_arrays (into (problem_from p m n) z)) (into_refused _ body e)

module _ (s : List ℕ) where
  -- A problem whose `PR` record is refused.
  pub head_refused : {x : Refusal} → refused x ≡ PR s (front 0) → read_problem s ≡ refused x
  unfolding read_problem problem_reader
  head_refused e = then_refused _ e

  -- And one whose `PR` record is given.
  pub head_given : (p m n : ℕ) {q : Place} → got (p, m, n) q ≡ PR s (front 0) → read_problem s ≡ into (problem_from p m n) (body_reader p m n s q)
  unfolding read_problem problem_reader body_reader
  head_given p m n {q} e =
      then_given _ e
      ∙ sym
      (into_next (problem_from p m n) (OR n s q) _
      ∙ next_cong (OR n s q) _ _ (λ orders q₁ _.
      into_next (problem_from p m n) (SH m s q₁) _
      ∙ next_cong (SH m s q₁) _ _ (λ shifts q₂ _.
      into_next (problem_from p m n) (each n (λ j. FC p m (get_or orders j 0) j) s q₂) _
      ∙ next_cong (each n (λ j. FC p m (get_or orders j 0) j) s q₂) _ _ (λ F q₃ _. into_end (problem_from p m n) (orders, shifts, F) s q₃))))

-- A refusal of the problem fits 32 bits.
pub problem_refused : (s : List ℕ) {x : Refusal} → read_problem s ≡ refused x → Narrow x.place
unfolding read_problem
problem_refused s e = from_front (sound_problem.refuses s (front 0) e) (omega (arith, longest_problem_is))
