-- The evidence made, and the buffer lent for it.
--   evidence_length, evidence_row_length, evidence_number      the matrix made has m rows of n numbers, each the coefficient at the order
--   length_evidence          its record has 2 + 4 × m × n bytes
--   evidence_valid, evidence_read      behind the basis it is read back
--   evidence_no_order_fault  and no number of it is refused by 12
--   evidence_of_reading      the answer and the buffer depend on what is read
--   evidence_cases           the three cases of an answer, each with the buffer: evidence_unread, evidence_no_room, evidence_made
--   evidence_front, evidence_behind    the front of the buffer is the record, the rest is as before
--   evidence_buffer_length, evidence_kept      the buffer is as long as before, and after a refusal as before
use Rattle.std.specs.Prelude.{◌≡◌, refl, ◌≢◌, Bool, true, false, ℕ, ◌≤◌, ◌<◌, leb, take, drop}
use Rattle.std.proofs.Common.{sym, subst, ◌∙◌, le_of_lt, arith, le→leb, leb→le, length-append, length-drop, take_at, drop_at}
use Rattle.std.proofs.Math.Path.{ap}
use Rattle.std.proofs.Math.Logic.{by_cases}
use mathlib.Core.List.{List, [], ◌++◌}
use Rattle.std.proofs.Math.Decide.{dec_le}
use Rattle.std.proofs.Math.ListN.{length, get_or}
use Rattle.algebra.specs.Residue.{residue_below}
use Rattle.rules.specs.Claim.{Problem, Answer}
use Rattle.rules.specs.Reader.{Place, Refusal, Result, refused, got, front}
use Rattle.rules.specs.Files.{answer_reader, claim_for, read_claim, read_basis}
use Rattle.rules.specs.Matrices.{order, product}
use Rattle.rules.specs.Conditions.{order_fault}
use Rattle.laws.specs.Valid.{ValidProblem, ValidBasis, ValidAnswer}
use Rattle.rules.specs.Reply.{unread, no_room, written, reply_numbers, Made}
use Rattle.rules.specs.Writer.{write_CE, write_answer}
use Rattle.rules.specs.Table.{length_table, get_or_table, table_all}
use Rattle.rules.specs.Evidence.{evidence_of, evidence_size, make_evidence}
use Rattle.laws.specs.ByteNumbers.{AllBytes}
use Rattle.laws.specs.ProductLaws.{no_order_fault_iff}
use Rattle.laws.specs.BothFiles.{both_read}
use Rattle.laws.specs.Ranges.{basis_got, read_basis_valid}
use Rattle.laws.specs.RoundTrip.{written_basis, read_written_answer}
use Rattle.laws.specs.BoolLaws.{true_iff, false_iff}
use Rattle.laws.specs.WriterLaws.{length_write_CE}

-- THE MATRIX

module _ (b : Problem) (P : List (List (List ℕ))) where
  -- The matrix made has m rows …
  pub evidence_length : length (evidence_of b P) ≡ b.m
  unfolding evidence_of
  evidence_length = length_table b.m _

  -- … of n numbers, …
  pub evidence_row_length : (i : ℕ) → i < b.m → length (get_or (evidence_of b P) i []) ≡ b.n
  unfolding evidence_of
  evidence_row_length i h = ap length (get_or_table b.m _ [] i h) ∙ length_table b.n _

  -- … of which the one "for row i and column j is the coefficient of (PF) there at power d_j".
  pub evidence_number : (i j : ℕ) → i < b.m → j < b.n → get_or (get_or (evidence_of b P) i []) j 0 ≡ (product b P i j (order b j)).0
  unfolding evidence_of
  evidence_number i j hi hj = ap (λ row. get_or row j 0) (get_or_table b.m _ [] i hi) ∙ get_or_table b.n _ 0 j hj

  -- They are numbers of K.
  evidence_range : 0 < b.p → (i j : ℕ) → get_or (get_or (evidence_of b P) i []) j 0 < b.p
  unfolding evidence_of
  evidence_range h i j =
      table_all b.m _ [] (λ row. get_or row j 0 < b.p) h
      (λ i. table_all b.n _ 0 (λ c. c < b.p) h (λ j. residue_below b.p h (product b P i j (order b j))) j) i

  -- The record has 2 + 4 × m × n bytes.
  pub length_evidence : length (write_CE (evidence_of b P)) ≡ evidence_size b
  length_evidence = length_write_CE b.m b.n (evidence_of b P) evidence_length evidence_row_length

  -- No number of it differs from the coefficient at the order: refusal 12 is not given for it.
  pub evidence_no_order_fault : (i j : ℕ) → i < b.m → j < b.n → order_fault b P (evidence_of b P) i j ≡ false
  evidence_no_order_fault i j hi hj = (no_order_fault_iff b P i j (evidence_of b P)).1 (sym (evidence_number i j hi hj))

  -- A basis and the evidence made for it.
  abbrev pub with_evidence : Answer
  with_evidence = record { P = P; C = evidence_of b P }

  -- They are a valid answer, …
  pub evidence_valid : ValidProblem b → ValidBasis b P → ValidAnswer b with_evidence
  evidence_valid valid basis = record {
    basis = basis;
    C_length = evidence_length;
    C_row_length = evidence_row_length;
    C_range = evidence_range (le_of_lt valid.prime.two_le);
  }

-- … and the evidence made, written behind the file of the basis, is read back.
pub evidence_read : (s t : List ℕ) → AllBytes t → {c : Problem × List (List (List ℕ))} {q : Place} → read_basis s t ≡ got c q
    → (r : Place) × (answer_reader c.0 (t ++ write_CE (evidence_of c.0 c.1)) (front 1) ≡ got (with_evidence c.0 c.1) r)
unfolding write_answer
evidence_read s t bytes {c} {q} h =
    let (p, e, f) = basis_got s t c q h in
    let (valid, basis) = read_basis_valid s t h in
    let (r, k) = read_written_answer c.0 valid (with_evidence c.0 c.1) (evidence_valid c.0 c.1 valid basis) in
    (r, ap (λ l. answer_reader c.0 (l ++ write_CE (evidence_of c.0 c.1)) (front 1)) (written_basis c.0 t bytes f) ∙ k)

-- So the two files are read as the claim of that problem, that basis and that evidence.
pub evidence_claim : (s t : List ℕ) → AllBytes t → {c : Problem × List (List (List ℕ))} {q : Place} → read_basis s t ≡ got c q
    → (r : Place) × (read_claim s (t ++ write_CE (evidence_of c.0 c.1)) ≡ got (record { problem = c.0; answer = with_evidence c.0 c.1 }) r)
evidence_claim s t bytes {c} {q} h =
    let (p, e, f) = basis_got s t c q h in
    let (r, k) = evidence_read s t bytes h in
    (r, both_read answer_reader claim_for s (t ++ write_CE (evidence_of c.0 c.1)) e k)

-- THE BUFFER

-- What is answered where the files are read and the buffer has room or not, …
abbrev by_room : Problem → List (List (List ℕ)) → List ℕ → Bool → Made
by_room b P lent room =
    elim room [
      | false ↦ record { answer = no_room (evidence_size b); buffer = lent }
      | true ↦ record { answer = written (evidence_size b); buffer = write_CE (evidence_of b P) ++ drop (evidence_size b) lent }
    ]

-- … and where they are read or not.
abbrev by_reading : List ℕ → Result (Problem × List (List (List ℕ))) → Made
by_reading lent x =
    elim x [
      | refused r ↦ record { answer = unread r; buffer = lent }
      | got c q ↦ by_room c.0 c.1 lent (leb (evidence_size c.0) (length lent))
    ]

-- Files that are read alike get the same answer, and the buffer is the same.
pub evidence_of_reading : (s t s' t' lent : List ℕ) → read_basis s t ≡ read_basis s' t' → make_evidence s t lent ≡ make_evidence s' t' lent
unfolding make_evidence
evidence_of_reading s t s' t' lent e = ap (by_reading lent) e

module _ (s t lent : List ℕ) where
  -- After a faulty file the answer is its refusal, and the buffer is as before; …
  pub evidence_unread : {r : Refusal} → read_basis s t ≡ refused r → make_evidence s t lent ≡ record { answer = unread r; buffer = lent }
  unfolding make_evidence
  evidence_unread e = ap (by_reading lent) e

  module _ {c : Problem × List (List (List ℕ))} {q : Place} (e : read_basis s t ≡ got c q) where
    by_size : make_evidence s t lent ≡ by_room c.0 c.1 lent (leb (evidence_size c.0) (length lent))
    unfolding make_evidence
    by_size = ap (by_reading lent) e

    -- … where the buffer is too small it is 14, and the buffer is as before; …
    pub evidence_no_room : length lent < evidence_size c.0 → make_evidence s t lent ≡ record { answer = no_room (evidence_size c.0); buffer = lent }
    evidence_no_room h =
        by_size
        ∙ ap (by_room c.0 c.1 lent) ((false_iff (leb (evidence_size c.0) (length lent))).1
        (λ y. omega (arith, leb→le (evidence_size c.0) (length lent) ((true_iff (leb (evidence_size c.0) (length lent))).0 y))))

    -- … and else 0, with the record at the front of the buffer and what was there behind it.
    pub evidence_made : evidence_size c.0 ≤ length lent
        → make_evidence s t lent
        ≡ record { answer = written (evidence_size c.0); buffer = write_CE (evidence_of c.0 c.1) ++ drop (evidence_size c.0) lent }
    evidence_made h = by_size ∙ ap (by_room c.0 c.1 lent) ((true_iff (leb (evidence_size c.0) (length lent))).1
        (le→leb (evidence_size c.0) (length lent) h))

    -- "the lent buffer starts with the `CE` record, …
    pub evidence_front : evidence_size c.0 ≤ length lent
        → take (evidence_size c.0) (make_evidence s t lent).buffer ≡ write_CE (evidence_of c.0 c.1)
    evidence_front h =
        ap (λ (x : Made). take (evidence_size c.0) x.buffer) (evidence_made h)
        ∙ take_at (write_CE (evidence_of c.0 c.1)) (drop (evidence_size c.0) lent) (evidence_size c.0) (length_evidence c.0 c.1)

    -- … and every byte after it is as before."
    pub evidence_behind : evidence_size c.0 ≤ length lent
        → drop (evidence_size c.0) (make_evidence s t lent).buffer ≡ drop (evidence_size c.0) lent
    evidence_behind h =
        ap (λ (x : Made). drop (evidence_size c.0) x.buffer) (evidence_made h)
        ∙ drop_at (write_CE (evidence_of c.0 c.1)) (drop (evidence_size c.0) lent) (evidence_size c.0) (length_evidence c.0 c.1)

  -- What holds in each of the three cases holds.
  pub evidence_cases : (Q : Made → Type 0)
      → ((r : Refusal) → read_basis s t ≡ refused r → Q (record { answer = unread r; buffer = lent }))
      → ((c : Problem × List (List (List ℕ))) (q : Place) → read_basis s t ≡ got c q → length lent < evidence_size c.0
      → Q (record { answer = no_room (evidence_size c.0); buffer = lent }))
      → ((c : Problem × List (List (List ℕ))) (q : Place) → read_basis s t ≡ got c q → evidence_size c.0 ≤ length lent
      → Q (record { answer = written (evidence_size c.0); buffer = write_CE (evidence_of c.0 c.1) ++ drop (evidence_size c.0) lent }))
      → Q (make_evidence s t lent)
  evidence_cases Q refuses lacks makes = by_result (read_basis s t) refl
    where
      by_result : (x : Result (Problem × List (List (List ℕ)))) → read_basis s t ≡ x → Q (make_evidence s t lent)
      by_result (refused r) e = subst Q (sym (evidence_unread e)) (refuses r e)
      by_result (got c q) e = by_cases (dec_le (evidence_size c.0) (length lent))
          (λ h. subst Q (sym (evidence_made e h)) (makes c q e h))
          (λ h. subst Q (sym (evidence_no_room e (omega arith))) (lacks c q e (omega arith)))

  -- The buffer is as long as before.
  pub evidence_buffer_length : length (make_evidence s t lent).buffer ≡ length lent
  evidence_buffer_length = evidence_cases (λ x. length x.buffer ≡ length lent) (λ r e. refl) (λ c q e h. refl)
      (λ c q e h.
      length-append (write_CE (evidence_of c.0 c.1)) (drop (evidence_size c.0) lent)
      ∙ omega (arith, length_evidence c.0 c.1, length-drop (evidence_size c.0) lent))

  -- "After a refusal every byte is as before."
  pub evidence_kept : (reply_numbers (make_evidence s t lent).answer).code ≢ 0 → (make_evidence s t lent).buffer ≡ lent
  unfolding reply_numbers
  evidence_kept = evidence_cases (λ x. (reply_numbers x.answer).code ≢ 0 → x.buffer ≡ lent) (λ r e ne. refl) (λ c q e h ne. refl) (λ c q e h ne. absurd (ne refl))
