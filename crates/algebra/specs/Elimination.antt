-- Elimination over a ring with inverses: it is decided whether rows are dependent, more rows than columns are, and the rows of a
-- square are dependent exactly if its determinant is 0.
--   Step m n A               what one step of elimination leaves of a matrix whose first column is not all 0
use Rattle.std.specs.Prelude.{◌≡◌, ◌≢◌, ◌↔◌}
use Prim.Native.Nat.{ℕ, suc}
use Rattle.algebra.specs.Ring.{CommRing}
use Rattle.algebra.specs.Matrix.{Matrix}
use Rattle.algebra.specs.Det.{det}
use Rattle.algebra.specs.Dependence.{Dependent}

module _ (R : CommRing) where
  open R use {C, 𝟘, ◌⊕◌, ◌⊗◌, ⊖◌, add_neg, mul_comm, mul_one}

  infixl 60 ◌⊕◌
  infixl 70 ◌⊗◌
  infix 80 ⊖◌
  -- A matrix with a row and a column less, dependent exactly if the whole is, and whose determinant is that of the whole up to a
  -- factor other than 0.
  pub record Step (m n : ℕ) (A : Matrix R) : Type 0 where
    pub rest : Matrix R
    pub same_dependence : Dependent R (suc m) (suc n) A ↔ Dependent R m n rest
    pub factor : C
    pub factor_nonzero : factor ≢ 𝟘
    pub same_determinant : det R (suc m) A ≡ factor ⊗ det R m rest
