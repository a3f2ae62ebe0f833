-- The adjugate matrix, and what a determinant says of a system of linear equations.
--   adjugate n A             the matrix of signed minors, transposed
use Prim.Native.Nat.{ℕ, zero, suc, ◌+◌}
use Rattle.algebra.specs.Ring.{CommRing, sign}
use Rattle.algebra.specs.Matrix.{Matrix}
use Rattle.algebra.specs.Det.{minor, det}

module _ (R : CommRing) where
  open R use {C, 𝟘, ◌⊗◌, mul_assoc, mul_comm, mul_one}

  infixl 70 ◌⊗◌
  -- At (i, j) the signed determinant of what is left without row j and column i.
  unfoldable pub adjugate : ℕ → Matrix R → Matrix R
  adjugate zero A i j = 𝟘
  adjugate (suc n) A i j = sign R (j + i) ⊗ det R n (minor j i A)
