-- One step of the basis iteration, by order steps: some rows of P are pivots, each other row has a combination of pivot rows subtracted
-- by which its residual vanishes, and the pivots are multiplied by X. Rows keep their places, and pivot rows do not change before the
-- step's end, so that all subtractions of a step are one matrix of constants w.
--   once b                   1 where b holds, and else 0: by how much a step raises a degree or an order
--   cleared, next            M less w·M, and that with the pivots multiplied by X
--   Choice                   what pivots and constants a step may take
use Rattle.std.specs.Prelude.{◌≡◌, ◌≢◌, Bool, true, false, ℤ}
use Prim.Native.Nat.{ℕ, ◌<◌}
use Rattle.algebra.specs.Ring.{CommRing}
use Rattle.algebra.specs.Integer.{More}
use Rattle.algebra.specs.Series.{shift}
use Rattle.algebra.specs.Matrix.{Row, Matrix, vmul}
use Rattle.algebra.specs.Clearing.{Clears}

-- 1 where b holds, and else 0.
abbrev pub once : Bool → ℕ
once true = 1
once false = 0

module _ (R : CommRing) where
  open R use {C, 𝟘, ◌⊕◌, ◌⊗◌, ⊖◌}

  infixl 60 ◌⊕◌
  infixl 70 ◌⊗◌
  infix 80 ⊖◌
  -- M less w·M, coefficient by coefficient …
  unfoldable pub cleared : ℕ → Matrix R → (ℕ → ℕ → ℕ → C) → ℕ → ℕ → ℕ → C
  cleared m w M i j k = M i j k ⊕ ⊖ vmul R m (w i) (λ q j. M q j k) j

  -- … and that with the rows of the pivots multiplied by X.
  unfoldable pub next : ℕ → (ℕ → Bool) → Matrix R → (ℕ → ℕ → ℕ → C) → ℕ → ℕ → ℕ → C
  next m pivot w M i j = shift R (once (pivot i)) (cleared m w M i j)

  -- What pivots and constants a step may take, by the row degrees r and the residuals A of the active columns.
  pub record Choice (m n : ℕ) (active : ℕ → Bool) (r : ℕ → ℤ) (A : Matrix R) (pivot : ℕ → Bool) (w : Matrix R) : Type 0 where
    -- Pivots stay, and only pivots are subtracted, …
    pub clears : Clears R m pivot w
    -- … none that is higher.
    pub none_higher : (i q : ℕ) → i < m → q < m → w i q ≢ 𝟘 → More (r q) (r i)
    -- The residuals of the other rows are cleared.
    pub clean : (i j : ℕ) → i < m → j < n → pivot i ≡ false → active j ≡ true → A i j ⊕ ⊖ vmul R m (w i) A j ≡ 𝟘
    -- Those of the pivots are independent.
    pub independent : (u : Row R) → ((i : ℕ) → i < m → pivot i ≡ false → u i ≡ 𝟘)
        → ((j : ℕ) → j < n → active j ≡ true → vmul R m u A j ≡ 𝟘) → (i : ℕ) → i < m → u i ≡ 𝟘
