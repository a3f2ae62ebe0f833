-- Document 01, "The two files": how many bytes the records have. "Each record starts with a mark of two bytes."
--   head_bytes m n           `PR`, `OR` and `SH` together
--   column_bytes m d         a record `FC`
--   entry_bytes L            a record `PE`
--   evidence_bytes m n       the record `CE`
use Rattle.std.specs.Prelude.{ℕ, ◌+◌, ◌*◌}

-- "p in four bytes, m in one, n in one"; "n orders, one byte each"; "m shifts, two bytes each"
abbrev pub head_bytes : ℕ → ℕ → ℕ
head_bytes m n = 8 + (2 + n) + (2 + 2 * m)

-- "column number j from 0 in one byte; then for each row exactly d_j coefficients of four bytes"
abbrev pub column_bytes : ℕ → ℕ → ℕ
column_bytes m d = 3 + 4 * m * d

-- "row number, column number, count L, one byte each; then L coefficients of four bytes"
abbrev pub entry_bytes : ℕ → ℕ
entry_bytes L = 5 + 4 * L

-- "2 + 4 × m × n"
abbrev pub evidence_bytes : ℕ → ℕ → ℕ
evidence_bytes m n = 2 + 4 * m * n
