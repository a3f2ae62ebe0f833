-- The service that makes a basis: what it answers in each case, and that what is written is passed.
--   basis_unread_case, basis_no_room_case, basis_made_case   the three cases of an answer, each with the buffer
--   basis_written_passed     the file written is passed by the judge for the problem cut to the steps done
use Rattle.std.specs.Prelude.{◌≡◌, refl, Bool, true, false, List, ◌++◌, ℕ, ◌≤◌, ◌<◌, leb, length, drop}
use Rattle.std.proofs.Common.{◌∙◌, le-leb}
use Rattle.std.proofs.Math.Path.{ap}
use Rattle.std.proofs.lemmas.Bool.{lt-leb}
use Rattle.std.proofs.Math.ListN.{take}
use Rattle.std.proofs.Math.Seq.{take_at}
use Rattle.rules.specs.Claim.{Problem}
use Rattle.rules.specs.Reader.{Place, Refusal, Result, refused, got}
use Rattle.rules.specs.Files.{read_problem}
use Rattle.rules.specs.Writer.{write_problem}
use Rattle.rules.specs.Verdict.{verdict, passed}
use Rattle.rules.specs.Maker.{cut_problem, make_answer}
use Rattle.rules.specs.MakeBasis.{basis_unread, basis_no_room, basis_made, MadeBasis, made_file, make_basis}
use Rattle.laws.specs.Ranges.{problem_valid}
use Rattle.laws.specs.MakerPasses.{made_file_passed}

-- What is answered where the buffer has room or not, and where the problem is read or not.
abbrev by_room : Problem → ℕ → List ℕ → Bool → MadeBasis
by_room b steps lent room =
    elim room [
      | false ↦ record { answer = basis_no_room (length (made_file b steps)); buffer = lent }
      | true ↦ record {
        answer = basis_made (make_answer b steps).done (length (made_file b steps));
        buffer = made_file b steps ++ drop (length (made_file b steps)) lent;
      }
    ]

abbrev by_reading : ℕ → List ℕ → Result Problem → MadeBasis
by_reading steps lent x =
    elim x [
      | refused r ↦ record { answer = basis_unread r; buffer = lent }
      | got b q ↦ by_room b steps lent (leb (length (made_file b steps)) (length lent))
    ]

module _ (s : List ℕ) (steps : ℕ) (lent : List ℕ) where
  -- After a faulty file the answer is its refusal, and the buffer is as before; …
  pub basis_unread_case : {r : Refusal} → read_problem s ≡ refused r → make_basis s steps lent ≡ record { answer = basis_unread r; buffer = lent }
  unfolding make_basis
  basis_unread_case e = ap (by_reading steps lent) e

  module _ {b : Problem} {q : Place} (e : read_problem s ≡ got b q) where
    -- … where the buffer is too small it is 14, and the buffer is as before; …
    pub basis_no_room_case : length lent < length (made_file b steps)
        → make_basis s steps lent ≡ record { answer = basis_no_room (length (made_file b steps)); buffer = lent }
    unfolding make_basis
    basis_no_room_case h = ap (by_reading steps lent) e ∙ ap (by_room b steps lent) (lt-leb (length (made_file b steps)) (length lent) h)

    -- … and else the file is at its front.
    pub basis_made_case : length (made_file b steps) ≤ length lent → make_basis s steps lent
        ≡ record {
          answer = basis_made (make_answer b steps).done (length (made_file b steps));
          buffer = made_file b steps ++ drop (length (made_file b steps)) lent;
        }
    unfolding make_basis
    basis_made_case h = ap (by_reading steps lent) e ∙ ap (by_room b steps lent) (le-leb (length (made_file b steps)) (length lent) h)

    -- "With b steps done, b at least 1, the file written is passed by the judge for the same problem with each order replaced by the smaller
    -- of it and b, its F columns cut to match."
    pub basis_written_passed : 1 ≤ steps → length (made_file b steps) ≤ length lent
        → (d : ℕ) × (verdict (write_problem (cut_problem b (make_answer b steps).done)) (take (length (made_file b steps)) (make_basis s steps lent).buffer) ≡ passed d)
    unfolding made_file
    basis_written_passed least h =
        let (d, p) = made_file_passed b (problem_valid s e) steps least in (
          d,
          ap (verdict (write_problem (cut_problem b (make_answer b steps).done)))
              (ap (λ (x : MadeBasis). take (length (made_file b steps)) x.buffer) (basis_made_case h)
              ∙ take_at (made_file b steps) (drop (length (made_file b steps)) lent) (length (made_file b steps)) refl)
              ∙ p,
        )
