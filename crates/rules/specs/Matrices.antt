-- The matrices of a claim over K, the whole numbers modulo p, and over the polynomials with coefficients in K.
--   order b j, shift b i     d_j and s_i
--   at M i j                 the list of an entry's coefficients
--   polynomial p l           the polynomial over K that a list stands for
--   matrix_F b, matrix_P b P, matrix_C b C     F and P over the polynomials, C over K
--   product b P i j          the entry of P·F
use Rattle.std.proofs.Common.{ap}
use Rattle.std.specs.Prelude.{List, [], ℕ, ℤ, pos, length, get_or}
use Rattle.std.proofs.Math.ListN.{get_or-eq_default}
use Rattle.algebra.specs.Residue.{K, Residue, red}
use Rattle.algebra.proofs.Series.{Series}
use Rattle.algebra.specs.Polynomial.{Poly}
use Rattle.algebra.specs.Matrix.{Matrix, mmul}
use Rattle.algebra.proofs.PolyMatrix.{entries}
use Rattle.rules.specs.Claim.{Problem}

-- "Column j has order d_j, …
abbrev pub order : Problem → ℕ → ℕ
order b j = get_or b.orders j 0

-- … row i of the shift is s_i."
abbrev pub shift : Problem → ℕ → ℤ
shift b i = get_or b.shifts i (pos 0)

-- The coefficients of an entry, "lowest power first".
abbrev pub at : List (List (List ℕ)) → ℕ → ℕ → List ℕ
at M i j = get_or (get_or M i []) j []

-- The polynomial over K whose coefficients a list gives.
abbrev pub polynomial : (p : ℕ) → List ℕ → Poly (K p)
polynomial p l = record { series = λ k. red p (get_or l k 0); bound = length l; below = λ k h. ap (red p) (get_or-eq_default l 0 h) }

-- F, which the problem has column by column, …
abbrev pub matrix_F : (b : Problem) → ℕ → ℕ → Poly (K b.p)
matrix_F b i j = polynomial b.p (at b.F j i)

-- … P, which the answer has row by row, …
abbrev pub matrix_P : (b : Problem) → List (List (List ℕ)) → ℕ → ℕ → Poly (K b.p)
matrix_P b P i j = polynomial b.p (at P i j)

-- … and C, which is constant.
abbrev pub matrix_C : (b : Problem) → List (List ℕ) → Matrix (K b.p)
matrix_C b C i j = red b.p (get_or (get_or C i []) j 0)

-- The entry of P·F in row i and column j.
unfoldable pub product : (b : Problem) → List (List (List ℕ)) → ℕ → ℕ → ℕ → Residue b.p
product b P i j = mmul (Series (K b.p)) b.m (entries (K b.p) (matrix_P b P)) (entries (K b.p) (matrix_F b)) i j
