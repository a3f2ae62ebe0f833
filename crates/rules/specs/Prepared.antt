-- Document 02, L4, "One problem, many answers": a problem in its prepared form, and the verdict on an answer to it.
--   Prepared                 a form: a problem's numbers in lists of the largest sizes
--   prepared b               the form of a problem: 0 wherever nothing stands
--   Gives s x, Given x       a file that gives a form; a form that some file gives
--   PreparedVerdict          20, or the verdict on the answer; prepared_numbers    its four numbers
--   Judges x t v             v is the one that is given for the form x and the answer t
--   verdict_after b t        the verdict on an answer to a problem that was read
--   prepare_numbers          the four numbers of reading a problem into a form
use Rattle.std.specs.Prelude.{◌≡◌, List, ℕ, ◌<◌, ℤ, get_or}
use Rattle.rules.specs.Sizes.{most_rows, most_order}
use Rattle.rules.specs.Claim.{Problem}
use Rattle.rules.specs.Table.{table}
use Rattle.rules.specs.Matrices.{order, shift, at}
use Rattle.rules.specs.Reader.{Place, Result, refused, got, front}
use Rattle.rules.specs.Files.{answer_reader, read_problem, claim_for}
use Rattle.rules.specs.Verdict.{Verdict, unread, Numbers, four, numbers, judge_claim, verdict}

-- "a prepared form": p, m and n, and an order, a shift and a column for each number that n and m may have, the column with a coefficient for
-- each row and power that there may be.
pub record Prepared : Type 0 where
  pub p : ℕ
  pub m : ℕ
  pub n : ℕ
  pub orders : List ℕ
  pub shifts : List ℤ
  -- column by column, in it row by row, in it lowest power first
  pub F : List (List (List ℕ))

-- The form that a problem is read into. What the problem has not (orders from n on, shifts from m on, columns, rows, powers) is 0.
abbrev pub prepared : Problem → Prepared
prepared b =
    record {
      p = b.p;
      m = b.m;
      n = b.n;
      orders = table most_rows (order b);
      shifts = table most_rows (shift b);
      F = table most_rows (λ j. table most_rows (λ i. table most_order (λ k. get_or (at b.F j i) k 0)));
    }

-- The file s, a list of bytes, is read as a problem with the form x.
pub record Gives (s : List ℕ) (x : Prepared) : Type 0 where
  pub bytes : (i : ℕ) → get_or s i 0 < 256
  pub problem : Problem
  pub after : Place
  pub reads : read_problem s ≡ got problem after
  pub form : prepared problem ≡ x

-- Some file gives the form.
abbrev pub Given : Prepared → Type 0
Given x = (s : List ℕ) × Gives s x

-- The kinds of answer to an answer and a form.
pub data PreparedVerdict : Type 0 where
  -- 20
  not_given : PreparedVerdict
  -- the verdict on the answer
  judged : Verdict → PreparedVerdict

-- "Refusals: 20, before the answer is read, for a prepared form that no problem file gives." It has no place of its own.
unfoldable pub prepared_numbers : PreparedVerdict → Numbers
prepared_numbers not_given = four 20 0 0 0
prepared_numbers (judged v) = numbers v

-- 20 if no file gives the form. Otherwise a file gives it, and the verdict is the one on that file and the answer.
abbrev pub Judges : Prepared → List ℕ → PreparedVerdict → Type 0
Judges x t not_given = ¬ Given x
Judges x t (judged v) = (s : List ℕ) × Gives s x × (v ≡ verdict s t)

-- The verdict on an answer to a problem that was read: what is left of `verdict` then.
unfoldable pub verdict_after : Problem → List ℕ → Verdict
verdict_after b t = elim (answer_reader b t (front 1)) [ refused r ↦ unread r | got a q ↦ judge_claim (claim_for b a) ]

-- Reading a problem into a form: 0, 0, 0, 0, or the refusal.
unfoldable pub prepare_numbers : Result Problem → Numbers
prepare_numbers (refused r) = numbers (unread r)
prepare_numbers (got b q) = four 0 0 0 0
