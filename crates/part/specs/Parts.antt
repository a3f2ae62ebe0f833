-- The bytes that a verdict points at, as the code hands them back.
--   PartIn s t r q           r is the part q of the two lent files: its bytes, and where they lie; part_in_unique: both are settled
--   HasColumn s j            the problem s is read, and has a column j
--   ColumnPart s j q         q is the `FC` record of column j of the problem s
--   part_of                  the code's piece, as a part: part_of_injective
--   start_of v               the first byte of the record that a refusal of reading names
use Rattle.std.specs.Prelude.{◌≡◌, cond, List, ℕ, ◌+◌, ◌<◌, eqb}
use Rattle.std.proofs.Common.{sym, ap, ◌∙◌}
use Rattle.std.specs.Borrow.{Bor}
use Rattle.unique.specs.OneResult.{SameReference}
use Rattle.rules.specs.Claim.{Problem}
use Rattle.rules.specs.Reader.{Place, got}
use Rattle.rules.specs.Files.{read_problem}
use Rattle.rules.specs.Part.{Part, part_bytes, column_start, column_size}
use Rattle.rules.specs.Verdict.{Verdict, passed, unread, not_reduced, not_monomial, below_order, at_order, low_rank}
use Rattle.part.specs.declared.Piece.{Piece}

-- "come back as part of one of the two files given, and no copy is made": the bytes of the part, at their place in the lent file.
pub record PartIn (s t r : Bor (List ℕ)) (q : Part) : Type 0 where
  pub bytes : r.now ≡ part_bytes s.now t.now q
  pub where_it_is : r.ref_ptr ≡ ((cond (eqb q.file 0) s t).ref_ptr.0, q.start + (cond (eqb q.file 0) s t).ref_ptr.1)

pub part_in_unique : (s t r r' : Bor (List ℕ)) (q : Part) → PartIn s t r q → PartIn s t r' q → SameReference r r'
part_in_unique s t r r' q h h' = (h.where_it_is ∙ sym h'.where_it_is, h.bytes ∙ sym h'.bytes)

-- A problem that is read and has the column, …
abbrev pub HasColumn : List ℕ → ℕ → Type 0
HasColumn s j = (b : Problem) × (q : Place) × (read_problem s ≡ got b q) × (j < b.n)

-- … and where that column's record lies in it.
abbrev pub ColumnPart : List ℕ → ℕ → Part → Type 0
ColumnPart s j x = (b : Problem) (q : Place) → read_problem s ≡ got b q → x ≡ record { file = 0; start = column_start b j; size = column_size b j }

abbrev pub part_of : Piece → Part
part_of x = record { file = x.file; start = x.start; size = x.size }

-- A piece is settled by the part that it is.
abbrev piece : Part → Piece
piece x = record { file = x.file; start = x.start; size = x.size }

pub part_of_injective : (x y : Piece) → part_of x ≡ part_of y → x ≡ y
part_of_injective x y e = ap piece e

abbrev pub start_of : Verdict → ℕ
start_of (unread r) = r.place.start
start_of (passed d) = 0
start_of not_reduced = 0
start_of not_monomial = 0
start_of (below_order i j) = 0
start_of (at_order i j) = 0
start_of low_rank = 0
