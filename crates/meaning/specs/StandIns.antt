-- Stand-ins shut out: a judge that refuses everything, one that gives one verdict always, a pass with an invented Δ, evidence-making that
-- writes nothing, a part handed back that is always empty. For each verdict there is a pair of files that gets it.
--   stand_in k, every_code          a pair of files whose verdict has the code k, for each k up to 13
--   passes_with_two, passes_with_zero      two pairs that pass, with Δ = 2 and Δ = 0
--   evidence_written                evidence that is not all zero
--   parts_not_empty                 a part that is not empty, for each code that has one
use Rattle.std.specs.Prelude.{◌≡◌, refl, List, [], ◌∷◌, ◌++◌, map, ℕ, suc, ◌+◌, ◌*◌, ◌<◌, pos, length, get_or, take, replicate}
use Rattle.std.proofs.Common.{sym, ap, ◌∙◌}
use Rattle.std.proofs.Math.ListN.{get_or-map}
use Rattle.rules.specs.Sizes.{most_order}
use Rattle.rules.specs.Writer.{write_problem, write_answer}
use Rattle.rules.specs.Verdict.{four, numbers, verdict}
use Rattle.rules.specs.Table.{table, get_or_table}
use Rattle.rules.specs.Evidence.{make_evidence}
use Rattle.rules.specs.Part.{pointed_at, part_bytes}
use Rattle.rules.specs.Run.{run_verdict, run_part, run_evidence}
use Rattle.rules.specs.Cases.{one_by_one, disk_problem, disk_answer}

-- One row and one column, shift 0: p, the order, P, F and C.
abbrev files : (p d : ℕ) → List ℕ → List ℕ → ℕ → List ℕ × List ℕ
files p d P F C = let c = one_by_one p d (pos 0) P F C in (write_problem c.problem, write_answer c.answer)

-- A pair of files for each code from 0 to 13.
abbrev stand_ins : List (List ℕ × List ℕ)
stand_ins =
    -- passed
    (disk_problem, disk_answer)
    -- the last byte is missing
    ∷ (disk_problem, take 57 disk_answer)
    -- an answer where the problem is due
    ∷ (disk_answer, disk_answer)
    -- an order above the largest
    ∷ files 5 (suc most_order) (1 ∷ []) (replicate (suc most_order) 0) 0
    -- p = 6
    ∷ files 6 1 (1 ∷ []) (0 ∷ []) 0
    -- the row number 1 in the first record
    ∷ (disk_problem, 0x50 ∷ 0x45 ∷ 1 ∷ [])
    -- a coefficient of 5 modulo 5
    ∷ files 5 1 (5 ∷ 1 ∷ []) (0 ∷ []) 0
    -- a last coefficient of 0
    ∷ files 5 1 (1 ∷ 0 ∷ []) (0 ∷ []) 0
    -- a byte too many
    ∷ (disk_problem, disk_answer ++ (0 ∷ []))
    -- P = 0
    ∷ files 5 1 [] (0 ∷ []) 0
    -- P = 4 + X
    ∷ files 5 1 (4 ∷ 1 ∷ []) (0 ∷ []) 0
    -- P = 1 where F = 1
    ∷ files 5 1 (1 ∷ []) (1 ∷ []) 0
    -- P = X where F = 1, and C = 0
    ∷ files 5 1 (0 ∷ 1 ∷ []) (1 ∷ []) 0
    -- P = X where F = 0
    ∷ files 5 1 (0 ∷ 1 ∷ []) (0 ∷ []) 0
    ∷ []

-- The pair for the code k.
abbrev pub stand_in : ℕ → List ℕ × List ℕ
stand_in k = get_or stand_ins k ([], [])

codes : map (λ q. (numbers (verdict q.0 q.1)).code) stand_ins ≡ table 14 (λ k. k)
unfolding run_verdict table
codes = refl

-- Every code up to 13 is given.
pub every_code : (k : ℕ) → k < 14 → (numbers (verdict (stand_in k).0 (stand_in k).1)).code ≡ k
every_code k h =
    sym (get_or-map (λ q. (numbers (verdict q.0 q.1)).code) stand_ins k ([], []))
    ∙ ap (λ l. get_or l k (numbers (verdict [] [])).code) codes
    ∙ get_or_table 14 (λ k. k) (numbers (verdict [] [])).code k h

-- A pair that passes with Δ = 2 …
pub passes_with_two : numbers (verdict disk_problem disk_answer) ≡ four 0 0 0 2
unfolding run_verdict
passes_with_two = refl

-- … and one that passes with Δ = 0.
pub passes_with_zero : numbers (verdict (files 5 1 (1 ∷ []) (0 ∷ []) 0).0 (files 5 1 (1 ∷ []) (0 ∷ []) 0).1) ≡ four 0 0 0 0
unfolding run_verdict
passes_with_zero = refl

-- Evidence is written, and it is not all zero.
pub evidence_written : (make_evidence disk_problem (take 48 disk_answer) (replicate 10 170)).buffer ≡ 0x43 ∷ 0x45 ∷ 0 ∷ 0 ∷ 0 ∷ 0 ∷ 1 ∷ 0 ∷ 0 ∷ 0 ∷ []
unfolding run_evidence
evidence_written = refl

-- The part pointed at has bytes for each code that has a part: 1 to 8, 11 and 12.
pub parts_not_empty :
    map (λ k. length (part_bytes (stand_in k).0 (stand_in k).1 (pointed_at (stand_in k).0 (stand_in k).1))) (1 ∷ 2 ∷ 3 ∷ 4 ∷ 5 ∷ 6 ∷ 7 ∷ 8 ∷ 11 ∷ 12 ∷ [])
    ≡ 9 ∷ 58 ∷ (10 + 4 * suc most_order) ∷ 22 ∷ 3 ∷ 19 ∷ 19 ∷ 1 ∷ 7 ∷ 6 ∷ []
unfolding run_part
parts_not_empty = refl
