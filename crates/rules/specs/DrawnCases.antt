-- Document 02, L5, worked: claims of document 01 judged by drawn numbers, as one list with one proof over it.
--   run_drawn                the four numbers of an answer, with all that it takes to compute them
--   Drawing, drawn           two files, the numbers drawn and the answer; those of a claim
--   drawn_cases, drawn_cases_judged      the cases
use Rattle.std.specs.Prelude.{◌≡◌, refl, List, [], ◌∷◌, map, ℕ, pos}
use Rattle.algebra.specs.Ring.{power}
use Rattle.rules.specs.Claim.{Claim}
use Rattle.rules.specs.Writer.{write_problem, write_answer}
use Rattle.rules.specs.Verdict.{Numbers, four}
use Rattle.rules.specs.Run.{run_verdict}
use Rattle.rules.specs.Cases.{one_by_one, two_by_one, disk_problem, disk_answer}
use Rattle.rules.specs.Drawn.{cut, cut_row, drawn_value, every_column_zero, drawn_numbers, drawn_number, first_too_large, judge_drawn_claim, judge_drawn}

-- The four numbers of the answer on two files.
unfoldable pub run_drawn : List ℕ → List ℕ → List ℕ → ℕ → Numbers
unfolding run_verdict power cut cut_row drawn_value every_column_zero drawn_numbers drawn_number first_too_large judge_drawn_claim judge_drawn
run_drawn s t u point = drawn_numbers (judge_drawn s t u point)

-- Two files, u, a point, and the four numbers of the answer.
pub record Drawing : Type 0 where
  pub problem : List ℕ
  pub answer : List ℕ
  pub u : List ℕ
  pub point : ℕ
  pub expected : Numbers

-- The files of a claim.
abbrev drawn : Claim → List ℕ → ℕ → Numbers → Drawing
drawn c u point v = record { problem = write_problem c.problem; answer = write_answer c.answer; u = u; point = point; expected = v }

-- Document 01's claim with two rows modulo 7, that passes where C = (0, 1).
abbrev two : ℕ → ℕ → List ℕ → ℕ → Numbers → Drawing
two c₀ c₁ = drawn (two_by_one (pos 0) (pos 0) c₀ c₁)

abbrev pub drawn_cases : List Drawing
drawn_cases =
    -- no drawn numbers turn it away, …
    two 0 1 (1 ∷ 2 ∷ 0 ∷ 0 ∷ []) 3 (four 0 0 0 0)
    ∷ two 0 1 (6 ∷ 6 ∷ 0 ∷ 0 ∷ []) 6 (four 0 0 0 0)
    ∷ two 0 1 (0 ∷ 0 ∷ 0 ∷ 0 ∷ []) 0 (four 0 0 0 0)
    -- … nor does u from m on, which isn't read
    ∷ two 0 1 (1 ∷ 2 ∷ 7 ∷ 1_000 ∷ []) 3 (four 0 0 0 0)
    -- with C = (0, 0) the second row is cut to X²: turned away where its multiplier and the point are not 0
    ∷ two 0 0 (1 ∷ 2 ∷ 0 ∷ 0 ∷ []) 3 (four 255 0 0 0)
    ∷ two 0 0 (1 ∷ 0 ∷ 0 ∷ 0 ∷ []) 3 (four 0 0 0 0)
    ∷ two 0 0 (1 ∷ 2 ∷ 0 ∷ 0 ∷ []) 0 (four 0 0 0 0)
    -- a fault below the order: P = 1 and F = 1 give the constant 1 at every point
    ∷ drawn (one_by_one 5 1 (pos 0) (1 ∷ []) (1 ∷ []) 0) (3 ∷ 0 ∷ 0 ∷ 0 ∷ []) 0 (four 255 0 0 0)
    -- P = 1, F = 4 and C = 4 give 4 + X, which is 0 at 1 and at no other point
    ∷ drawn (one_by_one 5 1 (pos 0) (1 ∷ []) (4 ∷ []) 4) (1 ∷ 0 ∷ 0 ∷ 0 ∷ []) 1 (four 0 0 0 0)
    ∷ drawn (one_by_one 5 1 (pos 0) (1 ∷ []) (4 ∷ []) 4) (1 ∷ 0 ∷ 0 ∷ 0 ∷ []) 2 (four 255 0 0 0)
    -- 16: "the number's place, u from 0, the point m"; the first of several; after 1 to 8
    ∷ two 0 1 (7 ∷ 2 ∷ 0 ∷ 0 ∷ []) 3 (four 16 2 0 0)
    ∷ two 0 1 (6 ∷ 7 ∷ 0 ∷ 0 ∷ []) 8 (four 16 2 0 1)
    ∷ two 0 1 (6 ∷ 6 ∷ 0 ∷ 0 ∷ []) 7 (four 16 2 0 2)
    ∷ record { problem = disk_problem; answer = []; u = 7 ∷ []; point = 7; expected = four 1 1 0 0 }
    ∷ record { problem = disk_problem; answer = disk_answer; u = 3 ∷ 4 ∷ []; point = 5; expected = four 0 0 0 0 }
    ∷ []

-- Each of them is answered so.
pub drawn_cases_judged : map (λ d. run_drawn d.problem d.answer d.u d.point) drawn_cases ≡ map (λ d. d.expected) drawn_cases
unfolding run_drawn
drawn_cases_judged = refl
