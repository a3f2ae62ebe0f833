-- The generation sentence of `Plain`, which speaks of lists of numbers, is that of the theory, which speaks of polynomials over K.
--   field_of, series_F, series_P      the field of a claim, and its matrices over the polynomials
--   Polynomials              the sentence about polynomials
use Prim.Native.Nat.{ℕ}
use Rattle.algebra.specs.Ring.{CommRing}
use Rattle.algebra.specs.Residue.{K}
use Rattle.algebra.proofs.Series.{Series}
use Rattle.algebra.specs.Polynomial.{Poly}
use Rattle.algebra.specs.Matrix.{Matrix}
use Rattle.algebra.proofs.PolyMatrix.{entries, coordinates}
use Rattle.algebra.proofs.Generation.{Generated}
use Rattle.algebra.proofs.OrderBasis.{Vanishes}
use Rattle.rules.specs.Claim.{Claim}
use Rattle.rules.specs.Matrices.{order, matrix_F, matrix_P}

-- The field K of a claim, …
abbrev pub field_of : Claim → CommRing
field_of c = K c.problem.p

-- … its matrix F over the polynomials, …
abbrev pub series_F : (c : Claim) → Matrix (Series (field_of c))
series_F c = entries (field_of c) (matrix_F c.problem)

-- … and its matrix P.
abbrev pub series_P : (c : Claim) → Matrix (Series (field_of c))
series_P c = entries (field_of c) (matrix_P c.problem c.answer.P)

-- The sentence of the theory.
abbrev pub Polynomials : Claim → Type 0
Polynomials c =
    let p : ℕ = c.problem.p in
    (v : ℕ → Poly (K p)) → Vanishes (K p) c.problem.m c.problem.n (series_F c) (order c.problem) (coordinates (K p) v)
    → Generated (K p) c.problem.m (matrix_P c.problem c.answer.P) v
