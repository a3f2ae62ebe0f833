-- Document 02, L7: "The board should make an answer itself". "Refusals: only 14 with the bytes needed, after 1 to 8."
--   BasisAnswer, basis_numbers         the kinds of answer, and code, file, record and at for each
--   make_basis s steps lent            what is answered, and what the lent buffer holds afterwards
use Rattle.std.specs.Prelude.{true, false, List, ◌++◌, ℕ, leb, length, drop}
use Rattle.rules.specs.Claim.{Problem}
use Rattle.rules.specs.Reader.{Refusal, refused, got}
use Rattle.rules.specs.Files.{read_problem}
use Rattle.rules.specs.Verdict.{Numbers, four}
use Rattle.rules.specs.Writer.{write_answer}
use Rattle.rules.specs.Maker.{make_answer}

-- The kinds of answer.
pub data BasisAnswer : Type 0 where
  -- 1 to 8
  basis_unread : Refusal → BasisAnswer
  -- 14, with the bytes needed
  basis_no_room : ℕ → BasisAnswer
  -- 0, with the steps done and the bytes written
  basis_made : (steps bytes : ℕ) → BasisAnswer

-- "returns how many it did"; "a count returned beside a refusal is 0" (document 01): the steps done stand for the record.
unfoldable pub basis_numbers : BasisAnswer → Numbers
basis_numbers (basis_unread r) = four r.code r.place.file r.place.number r.place.at
basis_numbers (basis_no_room needed) = four 14 0 0 needed
basis_numbers (basis_made steps bytes) = four 0 0 steps bytes

-- What is answered, and what the lent buffer holds afterwards.
pub record MadeBasis : Type 0 where
  pub answer : BasisAnswer
  pub buffer : List ℕ

-- The file of the answer that is made.
unfoldable pub made_file : Problem → ℕ → List ℕ
made_file b steps = write_answer (make_answer b steps).answer

-- "A later service that writes a file into a lent buffer keeps this rule, with its own number of bytes as *at*": the buffer starts with the
-- file, and every byte after it is as before; after a refusal every byte is.
unfoldable pub make_basis : List ℕ → ℕ → List ℕ → MadeBasis
make_basis s steps lent =
    elim (read_problem s) [
      | refused r ↦ record { answer = basis_unread r; buffer = lent }
      | got b q ↦
          elim (leb (length (made_file b steps)) (length lent)) [
            | false ↦ record { answer = basis_no_room (length (made_file b steps)); buffer = lent }
            | true ↦ record {
              answer = basis_made (make_answer b steps).done (length (made_file b steps));
              buffer = made_file b steps ++ drop (length (made_file b steps)) lent;
            }
          ]
    ]
