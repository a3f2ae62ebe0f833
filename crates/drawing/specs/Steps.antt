-- From what the readers give to the answer on the two files: what is answered in each case.
--   off_drawn, answer_off_drawn      a file is refused
--   both_arrays, both_sound           both are read
--   both_drawn                       … and the answer is that on the claim
use Rattle.std.specs.Prelude.{◌≡◌, true, List, ℕ, Ok, Err}
use Rattle.std.proofs.Math.Path.{sym}
use Rattle.std.proofs.Common.{ap}
use Rattle.rules.specs.Claim.{Claim}
use Rattle.rules.specs.Reader.{Result, refused, got}
use Rattle.rules.specs.Files.{read_problem, answer_reader, claim_for}
use Rattle.rules.specs.Drawn.{Drawn, unread, judge_drawn_claim, judge_drawn}
use Rattle.laws.specs.BothFiles.{problem_refuses, answer_refuses, both_read}
use Rattle.laws.specs.Ranges.{problem_valid}
use Rattle.laws.specs.Valid.{ValidProblem}
use Rattle.verdict.specs.Meant.{refusal_of}
use Rattle.verdict.specs.declared.Refusal.{Refusal as Refused}
use Rattle.claim.specs.declared.Problem.{Problem as ProblemArrays}
use Rattle.claim.specs.declared.Answer.{Answer as AnswerArrays}
use Rattle.claim.specs.Claims.{problem_in, claim_in}
use Rattle.claim.specs.Sound.{SoundBasis}
use Rattle.problem_file.specs.Values.{problem_value}
use Rattle.answer_file.specs.Values.{answer_value, read_answer}
use Rattle.reader.specs.Readings.{problem_off, problem_read, problem_head, problem_columns, answer_off, answer_read, answer_basis, answer_constants}
use Rattle.drawn.specs.Asked.{ArraysIn}

-- The answer, by what the readers give.
abbrev by_reading : List ℕ → ℕ → Result Claim → Drawn
by_reading u point x = elim x [ refused r ↦ unread r | got c q ↦ judge_drawn_claim c u point ]

module _ (s t u : List ℕ) (point : ℕ) where
  -- The problem is refused, …
  pub off_drawn : {x : Refused} {b : ProblemArrays} → (Err x, b) ≡ problem_value (read_problem s) → unread (refusal_of x) ≡ judge_drawn s t u point
  unfolding judge_drawn
  off_drawn e = sym (ap (by_reading u point) (problem_refuses answer_reader claim_for s t (problem_off s e)))

  module _ {x : ProblemArrays} (e : (Ok tt, x) ≡ problem_value (read_problem s)) where
    valid : ValidProblem (problem_in x)
    valid = problem_valid s (problem_read s e)

    -- … or the answer, …
    pub answer_off_drawn : {y : Refused} {a : AnswerArrays} → (Err y, a) ≡ answer_value (read_answer x.head.p x.head.m x.head.n true t)
        → unread (refusal_of y) ≡ judge_drawn s t u point
    unfolding judge_drawn
    answer_off_drawn e' =
        sym (ap (by_reading u point) (answer_refuses answer_reader claim_for s t (problem_read s e) (answer_off x valid t e')))

    module _ {y : AnswerArrays} (e' : (Ok tt, y) ≡ answer_value (read_answer x.head.p x.head.m x.head.n true t)) where
      -- … or both are read: the arrays are those of a claim, …
      pub both_sound : SoundBasis x.head y.basis.lengths y.basis.entries
      both_sound = answer_basis x valid t e'

      pub both_arrays : ArraysIn x y
      both_arrays =
          record {
            sound_head = problem_head s e;
            sound_columns = problem_columns s e;
            P_below = both_sound.P_below;
            C_below = answer_constants x valid t e';
          }

      -- … and the answer is that on the claim.
      pub both_drawn : judge_drawn_claim (claim_in x y) u point ≡ judge_drawn s t u point
      unfolding judge_drawn
      both_drawn =
          sym
          (ap (by_reading u point)
          (both_read answer_reader claim_for s t (problem_read s e) (answer_read x valid t e')))
