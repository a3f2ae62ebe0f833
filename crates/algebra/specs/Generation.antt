-- Generation: when the rows of a square matrix P of polynomials generate every row v for which each entry of v·F is a multiple of the
-- modulus M of its column. (After Giorgi and Neiger, "Certification of minimal approximant bases", ISSAC 2018, Theorem 2.1 and
-- Lemma 2.2, where M is a power of X; here the moduli are any polynomials other than 0, and products of linear factors where roots are needed.)
--   FullRank m n P Q a       [P(a) Q(a)] has independent rows
use Rattle.std.specs.Prelude.{◌≡◌}
use Prim.Native.Nat.{ℕ, ◌+◌, ◌<◌}
use Rattle.algebra.specs.Ring.{CommRing}
use Rattle.algebra.specs.Polynomial.{Poly}
use Rattle.algebra.specs.Matrix.{Row, Matrix, mmul, beside}
use Rattle.algebra.specs.PolyMatrix.{values}
use Rattle.algebra.specs.Dependence.{Independent}

module _ (S : CommRing) where
  open S use {◌⊗◌}

  infixl 70 ◌⊗◌
  -- P·F = Q·diag(M).
  abbrev pub QuotientsIn : (m n : ℕ) → Matrix S → Matrix S → Row S → Matrix S → Type 0
  QuotientsIn m n P F M Q = (i j : ℕ) → i < m → j < n → mmul S m P F i j ≡ M j ⊗ Q i j

module _ (R : CommRing) where
  open R use {C, 𝟘, 𝟙}

  -- The rows of [P(a) Q(a)] are independent.
  abbrev pub FullRank : (m n : ℕ) (P Q : ℕ → ℕ → Poly R) → C → Type 0
  FullRank m n P Q a = Independent R m (m + n) (beside m (values R a P) (values R a Q))
