-- Document 01: "The bytes a verdict points at come back as part of one of the two files given, and no copy is made."
--   Part                     which file, the first byte, how many
--   rest_of_file, claim_part the part for codes 1 to 8, and for the others
--   pointed_at s t           the part that the verdict on two files points at
--   part_bytes s t q         its bytes
use Rattle.std.specs.Prelude.{cond, List, ℕ, ◌+◌, ◌-◌, eqb, length, take, drop}
use Rattle.rules.specs.RecordBytes.{head_bytes, column_bytes}
use Rattle.rules.specs.Claim.{Problem}
use Rattle.rules.specs.Reader.{Place, refused, got}
use Rattle.rules.specs.Files.{read_claim}
use Rattle.rules.specs.Matrices.{order}
use Rattle.rules.specs.Conditions.{sum_below}
use Rattle.rules.specs.Verdict.{Verdict, passed, unread, not_reduced, not_monomial, below_order, at_order, low_rank, judge_claim}
use Rattle.rules.specs.Evidence.{evidence_size}

-- A part of the problem, file 0, or of the answer, file 1.
pub record Part : Type 0 where
  pub file : ℕ
  pub start : ℕ
  pub size : ℕ

-- "Codes 1 to 8: from the first byte of the record named to that file's end; for 8 that is the first byte after the last record, and a
-- record that has no byte gives the empty part at the file's end."
unfoldable pub rest_of_file : List ℕ → List ℕ → Place → Part
rest_of_file s t q = record { file = q.file; start = q.start; size = cond (eqb q.file 0) (length s) (length t) - q.start }

-- The size of the `FC` record of column j, …
unfoldable pub column_size : Problem → ℕ → ℕ
column_size b j = column_bytes b.m (order b j)

-- … and its first byte: `PR`, `OR`, `SH` and the columns before it stand before it.
unfoldable pub column_start : Problem → ℕ → ℕ
column_start b j = head_bytes b.m b.n + sum_below j (column_size b)

-- "Code 11: the `FC` record of that column in the problem. Code 12: the `CE` record in the answer. Codes 0, 9, 10 and 13: the empty
-- part at the front of the answer."
unfoldable pub claim_part : List ℕ → Problem → Verdict → Part
claim_part t b (below_order i j) = record { file = 0; start = column_start b j; size = column_size b j }
claim_part t b (at_order i j) = record { file = 1; start = length t - evidence_size b; size = evidence_size b }
claim_part t b (passed d) = record { file = 1; start = 0; size = 0 }
claim_part t b (unread r) = record { file = 1; start = 0; size = 0 }
claim_part t b not_reduced = record { file = 1; start = 0; size = 0 }
claim_part t b not_monomial = record { file = 1; start = 0; size = 0 }
claim_part t b low_rank = record { file = 1; start = 0; size = 0 }

-- "The service works out the verdict from the two files itself."
unfoldable pub pointed_at : List ℕ → List ℕ → Part
pointed_at s t = elim (read_claim s t) [ refused r ↦ rest_of_file s t r.place | got c q ↦ claim_part t c.problem (judge_claim c) ]

-- The bytes themselves.
unfoldable pub part_bytes : List ℕ → List ℕ → Part → List ℕ
part_bytes s t q = take q.size (drop q.start (cond (eqb q.file 0) s t))
