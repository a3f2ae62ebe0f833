-- What the program does with an answer that is made.
--   made_line                the line that is printed: the steps done, and the bytes
--   made_fits, answer_fits   after a success the bytes to write are no more than there are
use Rattle.std.specs.Prelude.{◌≡◌, refl, Bool, true, false, List, [], ◌∷◌, ◌++◌, ℕ, ◌≤◌, leb, length, drop, Result, Ok, Err, IfOk}
use Rattle.std.proofs.Common.{sym, ap, subst, ◌∙◌, arith, length-append}
use Rattle.rules.specs.Claim.{Problem}
use Rattle.rules.specs.Reader.{Refusal, Result as Reading, refused, got, front}
use Rattle.rules.specs.Files.{read_problem}
use Rattle.rules.specs.Maker.{make_answer}
use Rattle.rules.specs.Verdict.{Numbers}
use Rattle.rules.specs.MakeBasis.{basis_unread, basis_no_room, basis_made, basis_numbers, MadeBasis, made_file, make_basis}
use Rattle.rules.specs.Print.{digits, space}
use Rattle.laws.specs.Soundness.{sound_problem}
use Rattle.verdict.specs.declared.Four.{Four}
use Rattle.verdict.specs.declared.Unwritten.{Unwritten}
use Rattle.verdict.specs.Meant.{four_of}
use Rattle.basis_making.specs.declared.Made.{Made}
use Rattle.basis_making.specs.Meant.{basis_meant}

-- "made ", …
abbrev pub made_word : List ℕ
made_word = 109 ∷ 97 ∷ 100 ∷ 101 ∷ 32 ∷ []

-- … the steps done, a space, the bytes, and a line feed.
abbrev pub made_line : ℕ → ℕ → List ℕ
made_line steps bytes = made_word ++ digits steps ++ space ++ digits bytes ++ (10 ∷ [])

-- After a success the bytes are no more than the buffer has.
abbrev Fits : MadeBasis → Type 0
Fits x = (basis_numbers x.answer).code ≡ 0 → (basis_numbers x.answer).at ≤ length x.buffer

by_room : (b : Problem) (steps : ℕ) (lent : List ℕ) (room : Bool) → Fits (
    elim room [
      | false ↦ record { answer = basis_no_room (length (made_file b steps)); buffer = lent }
      | true ↦ record {
        answer = basis_made (make_answer b steps).done (length (made_file b steps));
        buffer = made_file b steps ++ drop (length (made_file b steps)) lent;
      }
    ])
unfolding basis_numbers
by_room b steps lent false e = absurd (omega (arith, e))
by_room b steps lent true e = omega (arith, length-append (made_file b steps) (drop (length (made_file b steps)) lent))

by_reading : (steps : ℕ) (lent : List ℕ) (x : Reading Problem) → ((r : Refusal) → x ≡ refused r → 1 ≤ r.code) → Fits (
    elim x [
      | refused r ↦ record { answer = basis_unread r; buffer = lent }
      | got b q ↦
          elim (leb (length (made_file b steps)) (length lent)) [
            | false ↦ record { answer = basis_no_room (length (made_file b steps)); buffer = lent }
            | true ↦ record {
              answer = basis_made (make_answer b steps).done (length (made_file b steps));
              buffer = made_file b steps ++ drop (length (made_file b steps)) lent;
            }
          ]
    ])
unfolding basis_numbers
by_reading steps lent (refused r) least e = absurd (omega (arith, e, least r refl))
by_reading steps lent (got b q) least e = by_room b steps lent (leb (length (made_file b steps)) (length lent)) e

made_within : (s : List ℕ) (steps : ℕ) (lent : List ℕ) → Fits (make_basis s steps lent)
unfolding make_basis read_problem
made_within s steps lent = by_reading steps lent (read_problem s) (λ r e. (sound_problem.refuses s (front 0) e).code_least)

-- So it is with the four numbers and the buffer of the code, …
pub made_fits : (s : List ℕ) (steps : ℕ) (lent after : List ℕ) (f : Four) → four_of f ≡ basis_numbers (make_basis s steps lent).answer
    → after ≡ (make_basis s steps lent).buffer → f.code ≡ 0 → f.at ≤ length after
made_fits s steps lent after f e b z =
    subst (λ l. f.at ≤ length l) (sym b)
    (subst (λ n. n ≤ length (make_basis s steps lent).buffer) (sym (ap (λ (n : Numbers). n.at) e))
    (made_within s steps lent (sym (ap (λ (n : Numbers). n.code) e) ∙ z)))

-- … and with its answer.
pub answer_fits : (s : List ℕ) (steps : ℕ) (lent after : List ℕ) (r : Result Made Unwritten) → basis_meant r ≡ (make_basis s steps lent).answer
    → after ≡ (make_basis s steps lent).buffer → IfOk r (λ made. made.bytes ≤ length after)
unfolding basis_numbers
answer_fits s steps lent after (Ok made) e b =
    subst (λ l. made.bytes ≤ length l) (sym b)
    (subst (λ (n : Numbers). n.code ≡ 0 → n.at ≤ length (make_basis s steps lent).buffer) (sym (ap basis_numbers e)) (made_within s steps lent) refl)
answer_fits s steps lent after (Err reason) e b = tt
