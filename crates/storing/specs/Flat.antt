-- Where the values stand in the flat arrays: how each is put into what is there.
--   list_into, shifts_into   one value after the other, from the front
--   put_from, run_into       numbers one after the other from a place on, …
--   put_row, block_into      … and rows of them, each a stride after the one before
--   put_column, columns_into         F: column by column, in it row by row, in it lowest power first
--   put_entry, row_into, entries_into        P: the entries' lengths and their coefficients, row by row
--   evidence_into            C, row by row
--   body_into, answer_into   all that follows a problem's `PR` record, and all of an answer
--   row_next, row_fits       where a row's room ends
use Rattle.std.specs.Prelude.{◌≡◌, List, ℕ, ◌+◌, ◌*◌, ◌≤◌, ◌<◌, set, length, ℤ}
use Rattle.std.proofs.Common.{ap, ◌∙◌, suc-mul, mul-le-mul_right, add-one, arith}
use Rattle.rules.specs.Sizes.{most_rows, most_order}
use Rattle.layout.specs.Flat.{square_place, entry_place, column_place}
use Rattle.storing.specs.Storing.{pour}

abbrev pub put_from : ℕ → List ℕ → ℕ → ℕ → List ℕ
put_from base st k v = set st (base + k) v

abbrev pub run_into : ℕ → List ℕ → List ℕ → List ℕ
run_into base st l = pour (put_from base) 0 st l

abbrev pub list_into : List ℕ → List ℕ → List ℕ
list_into st l = pour set 0 st l

abbrev pub shifts_into : List ℤ → List ℤ → List ℤ
shifts_into st l = pour set 0 st l

abbrev pub put_row : ℕ → ℕ → List ℕ → ℕ → List ℕ → List ℕ
put_row base stride st i l = run_into (base + i * stride) st l

abbrev pub block_into : ℕ → ℕ → List ℕ → List (List ℕ) → List ℕ
block_into base stride st rows = pour (put_row base stride) 0 st rows

-- The coefficients of F: each column's from the place of its first one on, and in it each row's.
abbrev pub put_column : List ℕ → ℕ → List (List ℕ) → List ℕ
put_column st j column = block_into (column_place 0 j 0) most_order st column

abbrev pub columns_into : List ℕ → List (List (List ℕ)) → List ℕ
columns_into st F = pour put_column 0 st F

-- The entries of P: the length of each, and its coefficients from the place of its first one on.
abbrev pub put_entry : ℕ → List ℕ × List ℕ → ℕ → List ℕ → List ℕ × List ℕ
put_entry i st j l = (set st.0 (square_place i j) (length l), run_into (entry_place i j 0) st.1 l)

abbrev pub row_into : List ℕ × List ℕ → ℕ → List (List ℕ) → List ℕ × List ℕ
row_into st i row = pour (put_entry i) 0 st row

abbrev pub entries_into : List ℕ × List ℕ → List (List (List ℕ)) → List ℕ × List ℕ
entries_into st P = pour row_into 0 st P

-- The numbers of C, row by row.
abbrev pub evidence_into : List ℕ → List (List ℕ) → List ℕ
evidence_into st C = block_into 0 most_rows st C

-- What a problem holds after its `PR` record, and what an answer holds.
abbrev pub body_into : List ℕ × List ℤ × List ℕ → List ℕ × List ℤ × List (List (List ℕ)) → List ℕ × List ℤ × List ℕ
body_into st b = (list_into st.0 b.0, shifts_into st.1 b.1, columns_into st.2 b.2)

abbrev pub answer_into : List ℕ × List ℕ × List ℕ → List (List (List ℕ)) × List (List ℕ) → List ℕ × List ℕ × List ℕ
answer_into st a = ((entries_into (st.0, st.1) a.0).0, (entries_into (st.0, st.1) a.0).1, evidence_into st.2 a.1)

-- A row and its stride end where the next row starts.
pub row_next : (base i stride : ℕ) → base + i * stride + stride ≡ base + (i + 1) * stride
row_next base i stride = omega (arith, ap (λ (j : ℕ). j * stride) (add-one i) ∙ suc-mul i stride)

-- And that is within what all rows take.
pub row_fits : (i rows stride : ℕ) → i < rows → i * stride + stride ≤ rows * stride
row_fits i rows stride h = omega (arith, suc-mul i stride, mul-le-mul_right stride h)
