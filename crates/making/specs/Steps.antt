-- Making evidence, step by step: what is answered in each case, and what the buffer holds then.
--   evidence_off, evidence_answer_off  a file is refused
--   room_lacks, evidence_put both are read: a buffer that is too small, and one that is not
use Rattle.std.specs.Prelude.{◌≡◌, List, ◌++◌, ℕ, ◌≤◌, ◌<◌, length, take, drop}
use Rattle.std.proofs.Common.{sym, ap, ap₂, subst, ◌∙◌, zero-add, take-append-drop}
use Rattle.rules.specs.Claim.{Problem}
use Rattle.rules.specs.Reader.{Place, Refusal, refused, got, front}
use Rattle.rules.specs.Files.{basis_reader, read_problem, basis_for, read_basis}
use Rattle.rules.specs.Reply.{unread, no_room, written}
use Rattle.rules.specs.Writer.{write_CE}
use Rattle.rules.specs.Evidence.{evidence_of, evidence_size, make_evidence}
use Rattle.laws.specs.BothFiles.{problem_refuses, answer_refuses, both_read}
use Rattle.laws.specs.EvidenceLaws.{length_evidence, evidence_unread, evidence_no_room, evidence_made}
use Rattle.writer.specs.Appended.{Appended}

-- A text put at the front of an array.
appended_front : (lent after : List ℕ) (end : ℕ) (text : List ℕ) → Appended lent after 0 end text → after ≡ text ++ drop end lent
appended_front lent after end text x = sym (take-append-drop end after) ∙ ap₂ ◌++◌ x.holds x.rest

module _ (s t lent : List ℕ) where
  -- The problem is refused, …
  pub evidence_off : {r : Refusal} → read_problem s ≡ refused r → make_evidence s t lent ≡ record { answer = unread r; buffer = lent }
  evidence_off e = evidence_unread s t lent (problem_refuses basis_reader basis_for s t e)

  module _ {b : Problem} {p : Place} (problem : read_problem s ≡ got b p) where
    -- … or the answer.
    pub evidence_answer_off : {r : Refusal} → basis_reader b t (front 1) ≡ refused r → make_evidence s t lent ≡ record { answer = unread r; buffer = lent }
    evidence_answer_off e = evidence_unread s t lent (answer_refuses basis_reader basis_for s t problem e)

    -- Both are read, and the record is made in an array of its own.
    module _ {P : List (List (List ℕ))} {q : Place} (basis : basis_reader b t (front 1) ≡ got P q) {room made : List ℕ} {end : ℕ}
        (put : Appended room made 0 end (write_CE (evidence_of b P))) where
      both_files : read_basis s t ≡ got (b, P) q
      both_files = both_read basis_reader basis_for s t problem basis

      -- It ends after the bytes needed.
      evidence_ends : end ≡ evidence_size b
      evidence_ends = put.ends ∙ zero-add (length (write_CE (evidence_of b P))) ∙ length_evidence b P

      -- The buffer is too small, …
      pub room_lacks : length lent < end → make_evidence s t lent ≡ record { answer = no_room end; buffer = lent }
      room_lacks short =
          evidence_no_room s t lent both_files (subst (λ k. length lent < k) evidence_ends short)
          ∙ ap (λ (k : ℕ). record { answer = no_room k; buffer = lent }) (sym evidence_ends)

      -- … or large enough, and the whole record is put at its front.
      pub evidence_put : end ≤ length lent → {afterwards : List ℕ} {last : ℕ} → Appended lent afterwards 0 last (take end made)
          → make_evidence s t lent ≡ record { answer = written end; buffer = afterwards }
      evidence_put fits {afterwards} {last} front =
          let whole : Appended lent afterwards 0 last (write_CE (evidence_of b P)) = subst (Appended lent afterwards 0 last) put.holds front in
          evidence_made s t lent both_files (subst (λ k. k ≤ length lent) evidence_ends fits)
          ∙ ap₂ (λ (k : ℕ) (l : List ℕ). record { answer = written k; buffer = l }) (sym evidence_ends)
          (ap (λ k. write_CE (evidence_of b P) ++ drop k lent) (sym evidence_ends ∙ put.ends ∙ sym whole.ends)
          ∙ sym (appended_front lent afterwards last (write_CE (evidence_of b P)) whole))
