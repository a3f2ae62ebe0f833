-- The numbers that the contracts name: the code's LONGEST, MOST_LENT and CHUNK.
--   longest, most_lent       the longest file of a case, and the most bytes lent
--   part_fits                a part of a case's files is no longer
--   chunk                    so many bytes are written in hex at a time
use Rattle.std.specs.Prelude.{Bool, true, false, cond, List, ℕ, ◌≤◌, eqb, length, take, drop}
use Rattle.std.proofs.Common.{arith, length-take, length-drop}
use Rattle.rules.specs.Part.{Part, part_bytes}

abbrev pub longest : ℕ
longest = 65_536

abbrev pub most_lent : ℕ
most_lent = 4_096

abbrev pub chunk : ℕ
chunk = 2_048

piece_fits : (a b : ℕ) (l : List ℕ) → length l ≤ longest → length (take a (drop b l)) ≤ longest
piece_fits a b l h = simp (length-take, length-drop) (omega arith)

either_fits : (first : Bool) (s t : List ℕ) (a b : ℕ) → length s ≤ longest → length t ≤ longest → length (take a (drop b (cond first s t))) ≤ longest
either_fits true s t a b hs ht = piece_fits a b s hs
either_fits false s t a b hs ht = piece_fits a b t ht

-- A part of one of two files is no longer than the longest file.
pub part_fits : (s t : List ℕ) (q : Part) → length s ≤ longest → length t ≤ longest → length (part_bytes s t q) ≤ longest
unfolding part_bytes
part_fits s t q hs ht = either_fits (eqb q.file 0) s t q.size q.start hs ht
