-- The two files as they are written: what the readers of `Files` read, the same records in the same order.
--   bytes k v                a number as k bytes; unsigned    a shift as the number of its two bytes
--   write_each, write_all    a list, member by member
--   write_PR, write_OR, write_SH, write_FC, write_PE, write_CE      the records
--   write_problem, write_answer, write_basis     the files
use Rattle.std.specs.Prelude.{List, [], ◌∷◌, ◌++◌, ℕ, zero, suc, ◌-◌, ◌/◌, ◌%◌, ℤ, pos, negsuc, length}
use Rattle.rules.specs.Claim.{Problem, Answer}
use Rattle.rules.specs.Files.{PR_mark, OR_mark, SH_mark, FC_mark, PE_mark, CE_mark}

-- "Numbers are low byte first."
unfoldable pub bytes : ℕ → ℕ → List ℕ
bytes zero v = []
bytes (suc k) v = v % 256 ∷ bytes k (v / 256)

-- What f writes of each member of a list, with its number counted from i, one after the other.
unfoldable pub write_each : {A : Type 0} → (ℕ → A → List ℕ) → ℕ → List A → List ℕ
write_each f i [] = []
write_each f i (a ∷ l) = f i a ++ write_each f (suc i) l

-- The same where the number does not count.
abbrev pub write_all : {A : Type 0} → (A → List ℕ) → List A → List ℕ
write_all f = write_each (λ i. f) 0

-- "two's complement"
unfoldable pub unsigned : ℤ → ℕ
unsigned (pos v) = v
unsigned (negsuc v) = 65_535 - v

-- The record `PR`, …
unfoldable pub write_PR : (p m n : ℕ) → List ℕ
write_PR p m n = bytes 2 PR_mark ++ bytes 4 p ++ bytes 1 m ++ bytes 1 n

-- … `OR`, …
unfoldable pub write_OR : List ℕ → List ℕ
write_OR orders = bytes 2 OR_mark ++ write_all (bytes 1) orders

-- … `SH`, …
unfoldable pub write_SH : List ℤ → List ℕ
write_SH shifts = bytes 2 SH_mark ++ write_all (λ z. bytes 2 (unsigned z)) shifts

-- … `FC` of column j, …
unfoldable pub write_FC : ℕ → List (List ℕ) → List ℕ
write_FC j column = bytes 2 FC_mark ++ bytes 1 j ++ write_all (write_all (bytes 4)) column

-- … `PE` of the entry in row i and column j, …
unfoldable pub write_PE : (i j : ℕ) → List ℕ → List ℕ
write_PE i j entry = bytes 2 PE_mark ++ bytes 1 i ++ bytes 1 j ++ bytes 1 (length entry) ++ write_all (bytes 4) entry

-- … and `CE`.
unfoldable pub write_CE : List (List ℕ) → List ℕ
write_CE C = bytes 2 CE_mark ++ write_all (write_all (bytes 4)) C

-- A problem, …
unfoldable pub write_problem : Problem → List ℕ
write_problem b = write_PR b.p b.m b.n ++ write_OR b.orders ++ write_SH b.shifts ++ write_each write_FC 0 b.F

-- … an answer that ends after the last `PE`, …
unfoldable pub write_basis : List (List (List ℕ)) → List ℕ
write_basis P = write_each (λ i row. write_each (λ j entry. write_PE i j entry) 0 row) 0 P

-- … and an answer.
unfoldable pub write_answer : Answer → List ℕ
write_answer a = write_basis a.P ++ write_CE a.C
