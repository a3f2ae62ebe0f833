-- Document 01, "The two files": the layout, a reader for each record.
--   no_divisor, is_prime, two's_complement       prime, and the number that two bytes of a shift stand for
--   allowed_prime, one_to, due, residue, shift_in_size, coefficient_test      the fields' own tests
--   PR_mark, OR_mark, SH_mark, FC_mark, PE_mark, CE_mark       the records' marks, as numbers
--   PR, OR, SH, FC, PE, CE   the records; shift_reader        one shift; entries_reader       all the entries
--   problem_reader, answer_reader, basis_reader      the files: a problem, an answer, an answer that ends after the last `PE`
--   read_problem, read_both  the problem's file, and both files, one after the other
--   read_claim, read_basis   a problem and an answer to it, and a problem and an answer without evidence
use Rattle.std.specs.Prelude.{Bool, true, false, cond, not, List, ℕ, zero, suc, ◌+◌, ◌-◌, ◌*◌, ◌%◌, leb, ltb, eqb, ℤ, pos, nat_abs, ◌-ℤ◌, get_or}
use Rattle.rules.specs.Sizes.{largest_prime, most_rows, most_order, most_shift, most_length}
use Rattle.rules.specs.Reader.{Reader, Result, got, ◌>>=◌, ◌>>◌, give, field, mark, unless, inside, each, end, front, next}
use Rattle.rules.specs.Claim.{Problem, Answer, Claim}

-- No number from 2 to k divides p.
unfoldable pub no_divisor : ℕ → ℕ → Bool
no_divisor p zero = true
no_divisor p (suc k) = elim (leb (suc k) 1) [ true ↦ true | false ↦ elim (eqb (p % suc k) 0) [ true ↦ false | false ↦ no_divisor p k ] ]

-- p is prime: at least 2, and divided by no number between 1 and p.
unfoldable pub is_prime : ℕ → Bool
is_prime p = elim (leb 2 p) [ true ↦ no_divisor p (p - 1) | false ↦ false ]

-- Refusal 4: "p is not an allowed prime".
abbrev pub allowed_prime : ℕ → Bool
allowed_prime p = elim (leb p largest_prime) [ true ↦ is_prime p | false ↦ false ]

-- Refusal 3: "m, n, an order, a shift or L outside its size".
abbrev pub one_to : ℕ → ℕ → Bool
one_to most v = elim (leb 1 v) [ true ↦ leb v most | false ↦ false ]

-- Refusal 5: "a row or column number isn't the one due".
abbrev pub due : ℕ → ℕ → ℕ
due i = unless 5 (λ v. eqb v i)

-- Refusal 6: "a coefficient, or a number of `CE`, is p or more".
abbrev pub residue : ℕ → ℕ → ℕ
residue p = unless 6 (λ v. ltb v p)

-- "two bytes each, two's complement".
unfoldable pub two's_complement : ℕ → ℤ
two's_complement v = cond (ltb v 32_768) (pos v) (pos v -ℤ pos 65_536)

-- "s_i | −1,000 to 1,000"
abbrev pub shift_in_size : ℕ → Bool
shift_in_size v = leb (nat_abs (two's_complement v)) most_shift

-- The marks: "`PR` (50 52)", …
abbrev pub PR_mark : ℕ
PR_mark = 0x50 + 256 * 0x52

-- … "`OR` (4F 52)", …
abbrev pub OR_mark : ℕ
OR_mark = 0x4F + 256 * 0x52

-- … "`SH` (53 48)", …
abbrev pub SH_mark : ℕ
SH_mark = 0x53 + 256 * 0x48

-- … "`FC` (46 43)", …
abbrev pub FC_mark : ℕ
FC_mark = 0x46 + 256 * 0x43

-- … "`PE` (50 45)", …
abbrev pub PE_mark : ℕ
PE_mark = 0x50 + 256 * 0x45

-- … "`CE` (43 45)".
abbrev pub CE_mark : ℕ
CE_mark = 0x43 + 256 * 0x45

-- "`PR` (50 52): p in four bytes, m in one, n in one."
unfoldable pub PR : Reader (ℕ × ℕ × ℕ)
PR = inside do
  mark PR_mark
  p ← field 4 (unless 4 allowed_prime)
  m ← field 1 (unless 3 (one_to most_rows))
  n ← field 1 (unless 3 (one_to most_rows))
  give (p, m, n)

-- "`OR` (4F 52): n orders, one byte each."
unfoldable pub OR : ℕ → Reader (List ℕ)
OR n = inside do
  mark OR_mark
  each n (λ j. field 1 (unless 3 (one_to most_order)))

-- A shift.
abbrev pub shift_reader : Reader ℤ
shift_reader = do
  v ← field 2 (unless 3 shift_in_size)
  give (two's_complement v)

-- "`SH` (53 48): m shifts, two bytes each, two's complement."
unfoldable pub SH : ℕ → Reader (List ℤ)
SH m = inside do
  mark SH_mark
  each m (λ i. shift_reader)

-- "`FC` (46 43), n records: column number j from 0 in one byte; then for each row exactly d_j coefficients of four bytes, lowest power first."
unfoldable pub FC : (p m d j : ℕ) → Reader (List (List ℕ))
FC p m d j = inside do
  mark FC_mark
  field 1 (due j)
  each m (λ i. each d (λ k. field 4 (residue p)))

-- "Problem, in this order"
unfoldable pub problem_reader : Reader Problem
problem_reader = do
  (p, m, n) ← PR
  orders ← OR n
  shifts ← SH m
  F ← each n (λ j. FC p m (get_or orders j 0) j)
  end (record { p = p; m = m; n = n; orders = orders; shifts = shifts; F = F })

-- "The test of L's last coefficient comes after that coefficient's range test." Refusal 7: "L above 0 and the last coefficient 0".
unfoldable pub coefficient_test : (p L k : ℕ) → ℕ → ℕ
coefficient_test p L k v = elim (ltb v p) [ true ↦ elim (eqb (suc k) L) [ true ↦ unless 7 (λ w. not (eqb w 0)) v | false ↦ 0 ] | false ↦ 6 ]

-- "`PE` (50 45), one for each entry, row by row: row number, column number, count L, one byte each; then L coefficients of four bytes,
-- lowest power first. The last is not zero; L = 0 is the zero entry."
unfoldable pub PE : (p i j : ℕ) → Reader (List ℕ)
PE p i j = inside do
  mark PE_mark
  field 1 (due i)
  field 1 (due j)
  L ← field 1 (unless 3 (λ L. leb L most_length))
  each L (λ k. field 4 (coefficient_test p L k))

-- "`CE` (43 45): m × n numbers of four bytes, row by row."
unfoldable pub CE : (p m n : ℕ) → Reader (List (List ℕ))
CE p m n = inside do
  mark CE_mark
  each m (λ i. each n (λ j. field 4 (residue p)))

-- The entries of P, "row by row".
unfoldable pub entries_reader : (p m : ℕ) → Reader (List (List (List ℕ)))
entries_reader p m = each m (λ i. each m (λ j. PE p i j))

-- "Answer, in this order … Then the file ends."
unfoldable pub answer_reader : Problem → Reader Answer
answer_reader b = do
  P ← entries_reader b.p b.m
  C ← CE b.p b.m b.n
  end (record { P = P; C = C })

-- "For making evidence the answer ends after the last `PE`."
unfoldable pub basis_reader : Problem → Reader (List (List (List ℕ)))
basis_reader b = do
  P ← entries_reader b.p b.m
  end P

-- The problem's file.
unfoldable pub read_problem : List ℕ → Result Problem
read_problem s = problem_reader s (front 0)

-- "Reading goes front to back, the whole problem before the answer": an answer of any kind, and what it makes together with the problem.
unfoldable pub read_both : {A B : Type 0} → (Problem → Reader A) → (Problem → A → B) → List ℕ → List ℕ → Result B
read_both answer whole s t = next (read_problem s) (λ b q. next (answer b t (front 1)) (λ a q. got (whole b a) q))

abbrev pub claim_for : Problem → Answer → Claim
claim_for b a = record { problem = b; answer = a }

-- A problem, and an answer to it.
abbrev pub read_claim : List ℕ → List ℕ → Result Claim
read_claim = read_both answer_reader claim_for

abbrev pub basis_for : Problem → List (List (List ℕ)) → Problem × List (List (List ℕ))
basis_for b P = (b, P)

-- A problem, and an answer without evidence.
abbrev pub read_basis : List ℕ → List ℕ → Result (Problem × List (List (List ℕ)))
read_basis = read_both basis_reader basis_for
