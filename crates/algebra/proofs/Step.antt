-- One step of the basis iteration, by order steps: some rows of P are pivots, each other row has a combination of pivot rows subtracted
-- by which its residual vanishes, and the pivots are multiplied by X. Rows keep their places, and pivot rows do not change before the
-- step's end, so that all subtractions of a step are one matrix of constants w.
--   residuals                the coefficients of P·F at the orders
--   Basis                    what holds of P after each step, for the orders reached and the row degrees
--   cleared_is, next_product         a step is a product with constants, and may be made on the product with F
use Rattle.std.specs.Prelude.{◌≡◌, refl, ◌≢◌, Bool, ℤ, pos}
use Rattle.std.proofs.Math.Path.{sym, ap, ap₂}
use Rattle.std.proofs.Common.{◌∙◌}
use Prim.Native.Nat.{ℕ, zero, ◌+◌, ◌<◌}
use Rattle.algebra.specs.Ring.{CommRing, power}
use Rattle.algebra.specs.Sum.{sum_cong}
use Rattle.algebra.specs.Series.{series_ext, constant, X}
use Rattle.algebra.proofs.Series.{Series, constant_mul, shift_power}
use Rattle.algebra.specs.Matrix.{Row, Matrix, beside, unit, vmul, mmul, unit_vmul, vmul_cong, vmul_add, vmul_scale, vmul_assoc}
use Rattle.algebra.specs.Det.{det}
use Rattle.algebra.specs.Dependence.{Independent}
use Rattle.algebra.specs.Degree.{coefficient}
use Rattle.algebra.proofs.Degree.{leading, EntriesAtMost, coefficient_sum}
use Rattle.algebra.specs.OrderBasis.{Monomial}
use Rattle.algebra.proofs.OrderBasis.{Vanishes}
use Rattle.algebra.specs.Clearing.{vmul_neg, less}
use Rattle.algebra.specs.Step.{once, cleared, next}

module _ (R : CommRing) where
  open R use {C, 𝟘, ◌⊕◌, ◌⊗◌, ⊖◌}
  open Series R use {◌⊕◌ as ◌⊞ₛ◌, ◌⊗◌ as ◌⊠ₛ◌, ⊖◌ as ⊟ₛ◌}

  infixl 60 ◌⊕◌
  infixl 70 ◌⊗◌
  infix 80 ⊖◌
  infixl 60 ◌⊞ₛ◌
  infixl 70 ◌⊠ₛ◌
  infix 80 ⊟ₛ◌
  -- The coefficients of P·F at the orders e: of row i and column j that at e j.
  abbrev pub residuals : ℕ → Matrix (Series R) → (ℕ → ℕ) → Matrix (Series R) → Matrix R
  residuals m F e P i j = vmul (Series R) m (P i) F j (e j)

  -- What holds of P for the orders e and the row degrees r: the entries obey the degrees, with a nonsingular leading matrix; the
  -- determinant is a nonzero constant times a power of X; P·F vanishes below the orders; and the rows of [P(0) C], where C holds the
  -- coefficients at the orders, are independent.
  pub record Basis (m n : ℕ) (F : Matrix (Series R)) (s : ℕ → ℤ) (e : ℕ → ℕ) (r : ℕ → ℤ) (P : Matrix (Series R)) : Type 0 where
    pub bounded : EntriesAtMost R m m r s P
    pub nonsingular : det R m (leading R r s P) ≢ 𝟘
    pub monomial : Monomial R (det (Series R) m P)
    pub vanishes : (i : ℕ) → i < m → Vanishes R m n F e (P i)
    pub full_rank : Independent R m (m + n) (beside m (λ i j. P i j zero) (residuals m F e P))

  -- COEFFICIENTS

  -- A row of constants times a matrix, coefficient by coefficient.
  vmul_constants : (m : ℕ) (v : Row R) (M : Matrix (Series R)) (j k : ℕ)
      → vmul (Series R) m (λ q. constant R (v q)) M j k ≡ vmul R m v (λ q j. M q j k) j
  unfolding vmul coefficient
  vmul_constants m v M j k =
      coefficient_sum R (pos k) m (λ q. constant R (v q) ⊠ₛ M q j)
      ∙ sum_cong R m (λ q. (constant R (v q) ⊠ₛ M q j) k) (λ q. v q ⊗ M q j k) (λ q b. constant_mul R (v q) (M q j) k)

  -- The identity less w, over the series.
  abbrev pub lessₛ : Matrix R → Matrix (Series R)
  lessₛ w = less (Series R) (λ i q. constant R (w i q))

  -- M less w·M is the product of I − w and M …
  pub cleared_is : (m : ℕ) (w : Matrix R) (M : Matrix (Series R)) (i j : ℕ) → i < m → cleared R m w M i j ≡ mmul (Series R) m (lessₛ w) M i j
  unfolding cleared less mmul
  cleared_is m w M i j hi =
      series_ext R (λ k. ap (λ x. M i j k ⊕ ⊖ x) (sym (vmul_constants m (w i) M j k)))
      ∙ sym (vmul_add (Series R) m (unit (Series R) i) (λ q. ⊟ₛ constant R (w i q)) M j
      ∙ ap₂ (λ x y. x ⊞ₛ y) (unit_vmul (Series R) m i M hi j) (vmul_neg (Series R) m (λ q. constant R (w i q)) M j))

  -- … so that the step may be made on the product with F.
  cleared_product : (m : ℕ) (w : Matrix R) (P F : Matrix (Series R)) (i j : ℕ) → i < m
      → vmul (Series R) m (cleared R m w P i) F j ≡ cleared R m w (mmul (Series R) m P F) i j
  unfolding mmul
  cleared_product m w P F i j hi =
      vmul_cong (Series R) m (cleared R m w P i) (vmul (Series R) m (lessₛ w i) P) F F j (λ k b. cleared_is m w P i k hi) (λ k b. refl)
      ∙ vmul_assoc (Series R) m m (lessₛ w i) P F j
      ∙ sym (cleared_is m w (mmul (Series R) m P F) i j hi)

  -- The product of the next matrix and F is the next of the product.
  pub next_product : (m : ℕ) (pivot : ℕ → Bool) (w : Matrix R) (P F : Matrix (Series R)) (i j : ℕ) → i < m
      → vmul (Series R) m (next R m pivot w P i) F j ≡ next R m pivot w (mmul (Series R) m P F) i j
  unfolding next
  next_product m pivot w P F i j hi =
      vmul_cong (Series R) m (next R m pivot w P i) (λ k. raise ⊠ₛ cleared R m w P i k) F F j
      (λ k b. shift_power R (once (pivot i)) (cleared R m w P i k)) (λ k b. refl)
      ∙ vmul_scale (Series R) m raise (cleared R m w P i) F j
      ∙ ap (λ x. raise ⊠ₛ x) (cleared_product m w P F i j hi)
      ∙ sym (shift_power R (once (pivot i)) (cleared R m w (mmul (Series R) m P F) i j))
    where
      raise : ℕ → C
      raise = power (Series R) (X R) (once (pivot i))
