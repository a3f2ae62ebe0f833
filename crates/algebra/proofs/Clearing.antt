-- Determinants of a matrix whose rows are multiplied by factors, and of the identity less constants that clear some rows by others.
--   det_less                 its determinant is not 0
use Rattle.std.specs.Prelude.{◌≡◌, ◌≢◌, Bool, true, false}
use Rattle.std.proofs.Math.Path.{refl, sym, ap, ap₂}
use Rattle.std.proofs.Common.{◌∙◌}
use Prim.Native.Nat.{ℕ, ◌<◌}
use Rattle.algebra.specs.Ring as Ring
use Rattle.algebra.specs.Ring.{CommRing, Nontrivial, Inverts}
use Rattle.algebra.specs.Sum.{sum_cong}
use Rattle.algebra.specs.Matrix.{Matrix, unit, vmul, mmul, vmul_unit, unit_vmul, vmul_add}
use Rattle.algebra.specs.Det.{det, det_local}
use Rattle.algebra.proofs.Det.{det_unit}
use Rattle.algebra.proofs.ProductRule.{det_mul}
use Rattle.algebra.specs.Clearing.{Clears, less}

module _ (R : CommRing) where
  open R use {C, 𝟘, 𝟙, ◌⊕◌, ◌⊗◌, ⊖◌, add_zero, add_neg, mul_assoc, mul_one}

  infixl 60 ◌⊕◌
  infixl 70 ◌⊗◌
  infix 80 ⊖◌
  module _ (m : ℕ) (pivot : ℕ → Bool) (w : Matrix R) (clears : Clears R m pivot w) where
    -- Then w·w is 0 …
    twice : (i q k : ℕ) → i < m → q < m → k < m → w i q ⊗ w q k ≡ 𝟘
    twice i q k hi hq hk = by (pivot q) refl
      where
        by : (b : Bool) → pivot q ≡ b → w i q ⊗ w q k ≡ 𝟘
        by true e = ap (λ x. w i q ⊗ x) (clears.pivots_stay q k hq hk e) ∙ Ring.mul_zero R (w i q)
        by false e = ap (λ x. x ⊗ w q k) (clears.pivots_alone i q hi hq e) ∙ Ring.zero_mul R (w q k)

    -- … and I − w and I + w are inverses, …
    inverse : (i k : ℕ) → i < m → k < m → mmul R m (less R w) (less R (λ i q. ⊖ w i q)) i k ≡ unit R i k
    unfolding mmul vmul less
    inverse i k hi hk =
        vmul_add R m (unit R i) (λ q. ⊖ w i q) (less R (λ i q. ⊖ w i q)) k
        ∙ ap₂ (λ x y. x ⊕ y) (unit_vmul R m i (less R (λ i q. ⊖ w i q)) hi k)
        (sum_cong R m (λ q. ⊖ w i q ⊗ (unit R q k ⊕ ⊖ ⊖ w q k)) (λ q. ⊖ w i q ⊗ unit R q k)
        (λ q hq. R.mul_add (⊖ w i q) (unit R q k) (⊖ ⊖ w q k)
        ∙ ap (λ x. ⊖ w i q ⊗ unit R q k ⊕ x)
        (Ring.neg_mul R (w i q) (⊖ ⊖ w q k)
        ∙ ap (λ x. ⊖ (w i q ⊗ x)) (Ring.neg_neg R (w q k))
        ∙ ap (λ x. ⊖ x) (twice i q k hi hq hk)
        ∙ Ring.neg_zero R)
        ∙ add_zero (⊖ w i q ⊗ unit R q k))
        ∙ vmul_unit R m (λ q. ⊖ w i q) k hk)
        ∙ R.add_assoc (unit R i k) (⊖ ⊖ w i k) (⊖ w i k)
        ∙ ap (λ x. unit R i k ⊕ x) (Ring.neg_add R (⊖ w i k))
        ∙ add_zero (unit R i k)

    -- … so that the determinant of I − w is not 0.
    pub det_less : Nontrivial R → det R m (less R w) ≢ 𝟘
    det_less nontrivial z =
        nontrivial (sym (det_unit R m)
        ∙ sym (det_local R m (mmul R m (less R w) (less R (λ i q. ⊖ w i q))) (unit R) inverse)
        ∙ det_mul R m (less R w) (less R (λ i q. ⊖ w i q))
        ∙ ap (λ x. x ⊗ det R m (less R (λ i q. ⊖ w i q))) z
        ∙ Ring.zero_mul R (det R m (less R (λ i q. ⊖ w i q))))
