-- From what the readers give to the verdict: what is answered in each case.
--   form_head, form_columns, form_valid    of a problem whose form some file gives
--   off_verdict, on_verdict  the problem's file is refused, or read
--   answer_off_verdict, answer_verdict     an answer to a problem that was read is refused, or read
--   any_file                 every file that gives a form gets the same verdict with an answer
use Rattle.std.specs.Prelude.{◌≡◌, List, ℕ, length}
use Rattle.std.proofs.Math.Path.{sym}
use Rattle.std.proofs.Common.{ap, ◌∙◌}
use Rattle.rules.specs.Sizes.{most_rows}
use Rattle.rules.specs.Claim.{Problem, Answer}
use Rattle.rules.specs.Reader.{Place, Refusal, Result, refused, got, front}
use Rattle.rules.specs.Files.{read_problem, answer_reader, claim_for}
use Rattle.rules.specs.Verdict.{Verdict, unread, judge_claim, verdict}
use Rattle.rules.specs.Prepared.{Gives, Given, verdict_after}
use Rattle.laws.specs.BothFiles.{problem_refuses}
use Rattle.laws.specs.Ranges.{problem_valid}
use Rattle.laws.specs.Valid.{ValidProblem}
use Rattle.laws.specs.VerdictLaws.{verdict_of_refusal}
use Rattle.laws.specs.PreparedLaws.{verdict_after_problem}
use Rattle.layout.specs.Flat.{column_coefficients}
use Rattle.claim.specs.declared.Head.{Head}
use Rattle.claim.specs.Claims.{problem_of}
use Rattle.claim.specs.Sound.{SoundHead, SoundColumns}
use Rattle.prepared.specs.Form.{form_of}
use Rattle.prepared.specs.Canonical.{Canonical}
use Rattle.prepared.specs.Given.{read_as, given_canonical}
use Rattle.prepared.specs.Sound.{canonical_head, canonical_columns}

-- A problem whose form some file gives is sound and valid.
module _ (head : Head) (f : List ℕ) (given : Given (form_of head f)) where
  canonical : Canonical head f
  canonical = given_canonical head f given

  pub form_head : length head.orders ≡ most_rows → length head.shifts ≡ most_rows → SoundHead head
  form_head = canonical_head head f canonical

  pub form_columns : length f ≡ column_coefficients → SoundColumns head f
  form_columns = canonical_columns head f canonical

  pub form_valid : ValidProblem (problem_of head f)
  form_valid = problem_valid given.0 (read_as head f given.0 given.1)

module _ (s t : List ℕ) where
  -- The problem is refused, …
  pub off_verdict : {r : Refusal} → read_problem s ≡ refused r → unread r ≡ verdict s t
  off_verdict {r} e = sym (verdict_of_refusal s t r (problem_refuses answer_reader claim_for s t e))

  -- … or read: the answer to what the arrays stand for settles the rest.
  pub on_verdict : (head : Head) (f : List ℕ) → Gives s (form_of head f) → verdict_after (problem_of head f) t ≡ verdict s t
  on_verdict head f g = sym (verdict_after_problem s t (read_as head f s g))

module _ (b : Problem) (t : List ℕ) where
  abbrev by_answer : Result Answer → Verdict
  by_answer x = elim x [ refused r ↦ unread r | got a q ↦ judge_claim (claim_for b a) ]

  -- The answer is refused, …
  pub answer_off_verdict : {r : Refusal} → answer_reader b t (front 1) ≡ refused r → unread r ≡ verdict_after b t
  unfolding verdict_after
  answer_off_verdict e = sym (ap by_answer e)

  -- … or read: the conditions give the verdict.
  pub answer_verdict : {a : Answer} {q : Place} → answer_reader b t (front 1) ≡ got a q → judge_claim (claim_for b a) ≡ verdict_after b t
  unfolding verdict_after
  answer_verdict e = sym (ap by_answer e)

-- Each file that gives a form gets the same verdict with an answer.
pub any_file : (s s' t : List ℕ) (head : Head) (f : List ℕ) → Gives s (form_of head f) → Gives s' (form_of head f) → verdict s t ≡ verdict s' t
any_file s s' t head f g g' = sym (on_verdict s t head f g) ∙ on_verdict s' t head f g'
