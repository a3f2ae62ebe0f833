-- Document 01: "Making evidence reads both files and refuses by 1 to 8, then 14. It tries none of 9 to 13."
--   evidence_of b P          C as it follows from P and F
--   evidence_size b          the bytes that it needs
--   make_evidence s t lent   what is answered, and what the lent buffer holds afterwards
use Rattle.std.specs.Prelude.{true, false, List, ◌++◌, ℕ, leb, length, drop}
use Rattle.rules.specs.RecordBytes.{evidence_bytes}
use Rattle.rules.specs.Claim.{Problem}
use Rattle.rules.specs.Reader.{refused, got}
use Rattle.rules.specs.Files.{read_basis}
use Rattle.rules.specs.Matrices.{order, product}
use Rattle.rules.specs.Reply.{unread, no_room, written, Made}
use Rattle.rules.specs.Writer.{write_CE}
use Rattle.rules.specs.Table.{table}

-- "the `CE` record, whose number for row i and column j is the coefficient of (PF) there at power d_j, whatever lies below that power"
unfoldable pub evidence_of : Problem → List (List (List ℕ)) → List (List ℕ)
evidence_of b P = table b.m (λ i. table b.n (λ j. (product b P i j (order b j)).0))

-- "fewer than 2 + 4 × m × n bytes lent"
abbrev pub evidence_size : Problem → ℕ
evidence_size b = evidence_bytes b.m b.n

-- "the lent buffer starts with the `CE` record …, and every byte after it is as before. After a refusal every byte is as before."
unfoldable pub make_evidence : List ℕ → List ℕ → List ℕ → Made
make_evidence s t lent =
    elim (read_basis s t) [
      | refused r ↦ record { answer = unread r; buffer = lent }
      | got c q ↦
          elim (leb (evidence_size c.0) (length lent)) [
            | false ↦ record { answer = no_room (evidence_size c.0); buffer = lent }
            | true ↦ record { answer = written (evidence_size c.0); buffer = write_CE (evidence_of c.0 c.1) ++ drop (evidence_size c.0) lent }
          ]
    ]
