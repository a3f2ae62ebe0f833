-- The matrix that a flat array holds, its squares, and what the functions of the crate ask and say of them.
--   Holds p m entries lengths      the array holds an m × m matrix of polynomials modulo p, whose entries have the lengths
--   square p entries row columns   the square of the rows from `row` on and the columns that a list names
--   Asked                    what is asked for the determinant of a square
--   Determinant              the array of a square's determinant
--   Without j columns left   the columns without the j-th: removed_without
use Rattle.std.specs.Prelude.{◌≡◌, refl, List, ◌++◌, ℕ, zero, suc, ◌+◌, ◌-◌, ◌^◌, ◌≤◌, ◌<◌, length, get_or}
use Rattle.std.specs.List.{remove}
use Rattle.std.proofs.Math.Decide.{dec_lt}
use Rattle.std.proofs.Math.ListN.{get_or-append}
use Rattle.std.proofs.lemmas.List.Edits.{length-remove, get_or-remove_below, get_or-remove_above}
use Rattle.std.proofs.Common.{sym, ap, subst, ◌∙◌, le_of_suc-le-suc, not-suc-le-zero, add-one, arith}
use Rattle.algebra.specs.Sum.{skip}
use Rattle.algebra.specs.Residue.{K}
use Rattle.algebra.proofs.Series.{Series}
use Rattle.algebra.specs.Matrix.{Matrix}
use Rattle.algebra.specs.Det.{det}
use Rattle.rules.specs.Sizes.{largest_prime, most_rows}
use Rattle.field.specs.declared.Modulus.{Modulus}
use Rattle.field.specs.Modulus.{Made}
use Rattle.layout.specs.Flat.{cells}
use Rattle.layout.specs.Holds.{Each, Padded}
use Rattle.convolution.specs.Padded.{StandsFor}
use Rattle.determinant.specs.Tops.{Tops}

-- The flat array holds an m × m matrix of polynomials modulo p, and lengths says how many coefficients each entry has.
pub record Holds (p m : ℕ) (entries lengths : List ℕ) : Type 0 where
  pub two_le : 2 ≤ p
  pub allowed : p ≤ largest_prime
  pub some_row : 1 ≤ m
  pub few_rows : m ≤ most_rows
  pub below : Each p entries
  pub padded : Padded m entries lengths

-- The square with the rows from `row` on and the columns that a list names.
abbrev pub square : (p : ℕ) → List ℕ → ℕ → List ℕ → Matrix (Series (K p))
square p entries row columns i j = cells p entries (row + i) (get_or columns j 0)

-- What is asked for the determinant of the square with `size` rows from `row` on, the last rows of the matrix, and as many columns.
pub record Asked (μ : Modulus) (size row : ℕ) (entries lengths tops columns : List ℕ) : Type 0 where
  pub holds : Holds μ.p (row + size) entries lengths
  pub bounded : Tops (row + size) lengths tops
  pub made : Made μ
  pub some : 1 ≤ size
  pub within : (j : ℕ) → j < size → get_or columns j 0 < row + size

abbrev pub Determinant : (p size row : ℕ) (entries tops columns l : List ℕ) → Type 0
Determinant p size row entries tops columns l = StandsFor p (get_or tops row 0) (det (Series (K p)) size (square p entries row columns)) l

-- The columns without the j-th.
abbrev pub Without : (j : ℕ) (columns left : List ℕ) → Type 0
Without j columns left = (k : ℕ) → k + 1 < most_rows → get_or left k 0 ≡ get_or columns (skip j k) 0

-- The numbers below j stay where they are, and the others move up by one.
pub skip_low : (j k : ℕ) → k < j → skip j k ≡ k
unfolding skip
skip_low zero k h = absurd (not-suc-le-zero h)
skip_low (suc j) zero h = refl
skip_low (suc j) (suc k) h = ap suc (skip_low j k (le_of_suc-le-suc h))

pub skip_high : (j k : ℕ) → j ≤ k → skip j k ≡ k + 1
unfolding skip
skip_high zero k h = sym (add-one k)
skip_high (suc j) zero h = absurd (omega arith)
skip_high (suc j) (suc k) h = ap suc (skip_high j k (le_of_suc-le-suc h)) ∙ omega arith

-- So the columns are left where the j-th is taken out, whatever stands behind them.
pub removed_without : (j : ℕ) (columns rest : List ℕ) → length columns ≡ most_rows → j < most_rows → Without j columns (remove columns j ++ rest)
removed_without j columns rest long h k b =
    let there : j < length columns = omega (arith, long) in
    get_or-append (remove columns j) rest 0 k (omega (arith, long, length-remove columns j there))
    ∙ elim (dec_lt k j) [
      | yes low ↦ get_or-remove_below columns j 0 k low there ∙ sym (ap (λ i. get_or columns i 0) (skip_low j k low))
      | no high ↦ get_or-remove_above columns j 0 k (omega arith) there ∙ sym (ap (λ i. get_or columns i 0) (skip_high j k (omega arith)))
    ]

module _ {μ : Modulus} {size row : ℕ} {entries lengths tops columns : List ℕ} (asked : Asked μ size row entries lengths tops columns) where
  -- The first row and the columns of a square are within the matrix.
  pub asked_row : row < most_rows
  asked_row = omega (arith, asked.holds.few_rows, asked.some)

  pub asked_column : {j : ℕ} → j < size → get_or columns j 0 < most_rows
  asked_column {j} h = omega (arith, asked.holds.few_rows, asked.within j h)

  -- Numbers below p are below 2^31.
  pub asked_below : {x : ℕ} → x < μ.p → x < 2 ^ 31
  asked_below h = omega (arith, asked.made.small)

  -- A size that is not 0 is a successor.
  pub asked_suc : Asked μ (suc (size - 1)) row entries lengths tops columns
  asked_suc =
      let e : size ≡ suc (size - 1) = omega (arith, asked.some) in
      subst (λ n. Asked μ n row entries lengths tops columns) e asked
