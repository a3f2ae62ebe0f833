-- Making a basis, step by step: what is answered in each case, and what the buffer holds then.
--   basis_off                the problem is refused
--   room_lacks, basis_put    a buffer that is too small, and one that is not
use Rattle.std.specs.Prelude.{◌≡◌, List, ◌++◌, ℕ, ◌≤◌, ◌<◌, length, take, drop, Ok, Err}
use Rattle.std.proofs.Common.{sym, ap, ap₂, subst, ◌∙◌, zero-add, take-append-drop}
use Rattle.rules.specs.Claim.{Problem}
use Rattle.rules.specs.Files.{read_problem}
use Rattle.rules.specs.Writer.{write_answer}
use Rattle.rules.specs.Maker.{steps_done, answer_after, make_answer}
use Rattle.rules.specs.MakeBasis.{basis_unread, basis_no_room, basis_made, made_file, make_basis}
use Rattle.laws.specs.MakeBasisLaws.{basis_unread_case, basis_no_room_case, basis_made_case}
use Rattle.verdict.specs.declared.Refusal.{Refusal}
use Rattle.verdict.specs.Meant.{refusal_of}
use Rattle.claim.specs.declared.Problem.{Problem as ProblemArrays}
use Rattle.claim.specs.Claims.{problem_in}
use Rattle.problem_file.specs.Values.{problem_value}
use Rattle.reader.specs.Readings.{handed, handed_on, handed_off, problem_off, problem_read}
use Rattle.writer.specs.Appended.{Appended}

-- A text put at the front of an array.
appended_front : (lent after : List ℕ) (end : ℕ) (text : List ℕ) → Appended lent after 0 end text → after ≡ text ++ drop end lent
appended_front lent after end text x = sym (take-append-drop end after) ∙ ap₂ ◌++◌ x.holds x.rest

module _ (s : List ℕ) (steps : ℕ) (lent : List ℕ) where
  -- The problem is refused.
  pub basis_off : {x : Refusal} → Err x ≡ handed (problem_value (read_problem s)) → make_basis s steps lent ≡ record { answer = basis_unread (refusal_of x); buffer = lent }
  basis_off e = let (b, off) = handed_off _ e in basis_unread_case s steps lent (problem_off s off)

  -- It is read, and the file is made in an array of its own.
  module _ {x : ProblemArrays} (e : Ok x ≡ handed (problem_value (read_problem s))) (done : ℕ) (is_done : done ≡ steps_done (problem_in x) steps)
      (room made : List ℕ) (end : ℕ) (put : Appended room made 0 end (write_answer (answer_after (problem_in x) done))) where
    abbrev b : Problem
    b = problem_in x

    file : Appended room made 0 end (made_file b steps)
    unfolding made_file make_answer
    file = subst (λ k. Appended room made 0 end (write_answer (answer_after b k))) is_done put

    ends : end ≡ length (made_file b steps)
    ends = file.ends ∙ zero-add (length (made_file b steps))

    -- The buffer is too small, and nothing is put there.
    pub room_lacks : length lent < end → make_basis s steps lent ≡ record { answer = basis_no_room end; buffer = lent }
    room_lacks short =
        basis_no_room_case s steps lent (problem_read s (handed_on _ e)) (subst (λ k. length lent < k) ends short)
        ∙ ap (λ (k : ℕ). record { answer = basis_no_room k; buffer = lent }) (sym ends)

    -- The buffer is large enough, and the whole file is put at its front.
    pub basis_put : end ≤ length lent → (afterwards : List ℕ) (last : ℕ) → Appended lent afterwards 0 last (take end made)
        → make_basis s steps lent ≡ record { answer = basis_made done end; buffer = afterwards }
    unfolding make_answer
    basis_put fits afterwards last front =
        let whole : Appended lent afterwards 0 last (made_file b steps) = subst (Appended lent afterwards 0 last) file.holds front in
        basis_made_case s steps lent (problem_read s (handed_on _ e)) (subst (λ k. k ≤ length lent) ends fits)
        ∙ ap₂ (λ (k : ℕ) (l : List ℕ). record { answer = basis_made (steps_done b steps) k; buffer = l }) (sym ends)
        (ap (λ k. made_file b steps ++ drop k lent) (sym ends ∙ file.ends ∙ sym whole.ends) ∙ sym (appended_front lent afterwards last (made_file b steps) whole))
        ∙ ap (λ (k : ℕ). record { answer = basis_made k end; buffer = afterwards }) (sym is_done)
