-- Document 01, "Verdicts": one case for each kind of verdict, the four numbers of each, and which is given.
--   Verdict, numbers         the judge's kinds of answer, and code, file, record and at for each
--   judge_claim, verdict     which one is given
--   packed                   the one number that the C host gets
use Rattle.std.specs.Prelude.{true, false, cond, List, ℕ, ◌+◌, ◌*◌, ℤ, pos, negsuc}
use Rattle.std.specs.Prelude.{Option, None, Some}
use Rattle.rules.specs.Claim.{Claim}
use Rattle.rules.specs.Reader.{Refusal, refused, got}
use Rattle.rules.specs.Files.{read_claim}
use Rattle.rules.specs.Conditions.{reduced, monomial_determinant, degree_sum, first_place, low_fault, order_fault, rank_below}

-- The judge's kinds of answer.
pub data Verdict : Type 0 where
  -- 0, with the degree sum
  passed : ℕ → Verdict
  -- 1 to 8
  unread : Refusal → Verdict
  -- 9 and 10
  not_reduced not_monomial : Verdict
  -- 11 and 12, with row and column
  below_order at_order : ℕ → ℕ → Verdict
  -- 13
  low_rank : Verdict

-- "A verdict is four numbers: code, file, record, at."
pub record Numbers : Type 0 where
  pub code : ℕ
  pub file : ℕ
  pub number : ℕ
  pub at : ℕ

-- Four numbers.
abbrev pub four : ℕ → ℕ → ℕ → ℕ → Numbers
four c f r a = record { code = c; file = f; number = r; at = a }

-- Those of a refusal of reading, codes 1 to 8.
abbrev pub refusal_numbers : Refusal → Numbers
refusal_numbers r = four r.code r.place.file r.place.number r.place.at

-- The table of codes: "file, record, at" of each.
unfoldable pub numbers : Verdict → Numbers
numbers (passed d) = four 0 0 0 d
numbers (unread r) = refusal_numbers r
numbers not_reduced = four 9 0 0 0
numbers not_monomial = four 10 0 0 0
numbers (below_order i j) = four 11 2 i j
numbers (at_order i j) = four 12 2 i j
numbers low_rank = four 13 0 0 0

-- A sum of degrees that is not negative, as a number.
abbrev pub natural : ℤ → ℕ
natural (pos d) = d
natural (negsuc d) = 0

-- A pass with Δ. "A row with no entry other than zero has no row degree and the verdict is 9" (document 02, L2): then there is no Δ.
abbrev pub pass_with : Option ℤ → Verdict
pass_with None = not_reduced
pass_with (Some sum) = passed (natural sum)

-- Condition 4 decides what is left after the others.
unfoldable pub by_rank : Claim → Verdict
by_rank c = cond (rank_below c.problem c.answer.P c.answer.C) low_rank (pass_with (degree_sum c.problem c.answer.P))

-- "All entries are tried for 11 before any for 12."
unfoldable pub by_product : Claim → Verdict
by_product c =
    elim (first_place c.problem.m c.problem.n (low_fault c.problem c.answer.P)) [
      | Some place ↦ below_order place.0 place.1
      | None ↦
          elim (first_place c.problem.m c.problem.n (order_fault c.problem c.answer.P c.answer.C))
          [ Some place ↦ at_order place.0 place.1 | None ↦ by_rank c ]
    ]

-- "The first that applies is given, 1 to 8 in reading order, then 9 to 13 by number."
unfoldable pub judge_claim : Claim → Verdict
judge_claim c =
    elim (reduced c.problem c.answer.P) [
      | false ↦ not_reduced
      | true ↦ elim (monomial_determinant c.problem c.answer.P) [ false ↦ not_monomial | true ↦ by_product c ]
    ]

-- The verdict on two files.
unfoldable pub verdict : List ℕ → List ℕ → Verdict
verdict s t = elim (read_claim s t) [ refused r ↦ unread r | got c q ↦ judge_claim c ]

-- "It gets one 64-bit number: code + 256 × file + 65,536 × record + 4,294,967,296 × at."
unfoldable pub packed : Numbers → ℕ
packed v = v.code + 256 * v.file + 65_536 * v.number + 4_294_967_296 * v.at
