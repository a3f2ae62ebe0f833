-- Two files, read one after the other: the laws of `read_both`, for every kind of answer.
--   after_problem            what is left to read after a problem that is read
--   problem_refuses, answer_refuses, both_read         what the two files give, from what each gives
--   both_parts, both_refuses           and the other way round
use Rattle.std.specs.Prelude.{◌≡◌, ◌⊎◌, List, ℕ}
use Rattle.std.proofs.Math.Path.{ap, subst}
use Rattle.std.proofs.Common.{◌∙◌}
use Rattle.rules.specs.Claim.{Problem}
use Rattle.rules.specs.Reader.{Place, Refusal, refused, got, Reader, next, front}
use Rattle.rules.specs.Files.{read_problem, read_both}
use Rattle.laws.specs.ReaderLaws.{next_next_got, next_next_refused}

module _ {A B : Type 0} (answer : Problem → Reader A) (whole : Problem → A → B) (s t : List ℕ) where
  -- The refusal of a problem is that of the two files.
  pub problem_refuses : {r : Refusal} → read_problem s ≡ refused r → read_both answer whole s t ≡ refused r
  unfolding read_both next
  problem_refuses e = ap (λ x. next x (λ b q. next (answer b t (front 1)) (λ a q. got (whole b a) q))) e

  module _ {b : Problem} {p : Place} (e : read_problem s ≡ got b p) where
    -- After a problem that is read the answer settles the rest: …
    pub after_problem : read_both answer whole s t ≡ next (answer b t (front 1)) (λ a q. got (whole b a) q)
    unfolding read_both next
    after_problem = ap (λ x. next x (λ b q. next (answer b t (front 1)) (λ a q. got (whole b a) q))) e

    -- … its refusal is that of the two files, …
    pub answer_refuses : {r : Refusal} → answer b t (front 1) ≡ refused r → read_both answer whole s t ≡ refused r
    unfolding next
    answer_refuses f = after_problem ∙ ap (λ x. next x (λ a q. got (whole b a) q)) f

    -- … and where it is read, both are.
    pub both_read : {a : A} {q : Place} → answer b t (front 1) ≡ got a q → read_both answer whole s t ≡ got (whole b a) q
    unfolding next
    both_read f = after_problem ∙ ap (λ x. next x (λ a q. got (whole b a) q)) f

  -- What holds of every problem and answer that are read holds of what two files give.
  pub both_parts : (Q : B → Type 0) {c : B} {q : Place}
      → ((b : Problem) (p : Place) (a : A) → read_problem s ≡ got b p → answer b t (front 1) ≡ got a q → Q (whole b a))
      → read_both answer whole s t ≡ got c q → Q c
  unfolding read_both
  both_parts Q holds h = let (b, p, a, e, f, k) = next_next_got (read_problem s) (λ b. answer b t (front 1)) whole h in subst Q k (holds b p a e f)

  -- Where two files are refused, one of them is.
  pub both_refuses : {r : Refusal} → read_both answer whole s t ≡ refused r
      → (read_problem s ≡ refused r) ⊎ ((b : Problem) × (p : Place) × (read_problem s ≡ got b p) × (answer b t (front 1) ≡ refused r))
  unfolding read_both
  both_refuses h = next_next_refused (read_problem s) (λ b. answer b t (front 1)) whole h
