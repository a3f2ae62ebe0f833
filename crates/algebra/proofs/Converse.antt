-- The converse of `Generation`: if the rows of P generate every row v for which each entry of v·F is a multiple of the modulus of its
-- column, and each modulus is a product of linear factors, then the determinant of P is a unit times a product of such factors, and
-- [P(a) Q(a)] has full rank at every point a.
use Rattle.std.specs.Prelude.{◌≡◌, refl, ◌≢◌, List, [], ◌∷◌}
use Rattle.std.proofs.Math.Path.{sym, ap}
use Rattle.std.proofs.Common.{ap₂, subst, ◌∙◌}
use Prim.Native.Nat.{ℕ, ◌<◌}
use Rattle.algebra.specs.Ring as Ring
use Rattle.algebra.specs.Ring.{CommRing, Decides, Cancels, Nontrivial}
use Rattle.algebra.specs.Solver.{◌⊞◌, ◌⊠◌, ⊟◌, ⓪, v0, v1, ring}
use Rattle.algebra.specs.Series.{constant}
use Rattle.algebra.proofs.Series.{Series}
use Rattle.algebra.specs.Polynomial.{Poly, poly_constant}
use Rattle.algebra.proofs.Polynomial.{poly_mul, Series_cancels}
use Rattle.algebra.specs.Evaluation.{Evaluates, evaluates_value}
use Rattle.algebra.proofs.Evaluation.{evaluates_unique, evaluates_constant}
use Rattle.algebra.specs.Root.{lin}
use Rattle.algebra.proofs.Root.{poly_quo, divide_root, root_of_multiple, cancel_lin}
use Rattle.algebra.specs.Linears.{All, all_of, joined, all_joined}
use Rattle.algebra.proofs.Linears.{linears, poly_linears, linears_joined, linears_power, Splits, splits_ne_zero}
use Rattle.algebra.proofs.Linears.{factor_of_linears}
use Rattle.algebra.specs.Matrix.{vmul, mmul, unit, vmul_cong, vmul_scale, vmul_add}
use Rattle.algebra.specs.Det.{det, det_local}
use Rattle.algebra.proofs.Det.{det_scalar}
use Rattle.algebra.proofs.ProductRule.{det_mul}
use Rattle.algebra.proofs.Adjugate.{kernel_zero}
use Rattle.algebra.specs.PolyMatrix.{values}
use Rattle.algebra.proofs.PolyMatrix.{coordinates, entries, poly_vmul, poly_det, poly_unit, evaluates_vmul}
use Rattle.algebra.specs.Dependence.{Independent, combines_beside}
use Rattle.algebra.specs.Generation.{FullRank}
use Rattle.algebra.proofs.Generation.{IsRelation, Generated, Generates, Quotients, product_quotients}

module _ (R : CommRing) where
  open R use {C, 𝟘}
  open Series R use {◌⊕◌, ◌⊗◌, ⊖◌, mul_assoc, mul_comm}

  infixl 60 ◌⊕◌
  infixl 70 ◌⊗◌
  infix 80 ⊖◌
  module _ (m n : ℕ) (P F : ℕ → ℕ → Poly R) (roots : ℕ → List C) where
    -- The product of all moduli, in place i of a row of zeros, is a relation.
    multiple : ℕ → ℕ → Poly R
    multiple i k = poly_mul R (poly_linears R (joined R n roots)) (poly_unit R i k)

    multiple_relation : (i : ℕ) → IsRelation R m n (entries R F) (λ j. linears R (roots j)) (multiple i)
    unfolding IsRelation multiple
    multiple_relation i j h =
        let (q, e) = linears_joined R n roots j h in (
          poly_mul R q (poly_vmul R m (poly_unit R i) F j),
          vmul_scale (Series R) m (linears R (joined R n roots)) (unit (Series R) i) (entries R F) j
              ∙ ap (λ x. x ⊗ vmul (Series R) m (unit (Series R) i) (entries R F) j) e
              ∙ mul_assoc (linears R (roots j)) q.series (vmul (Series R) m (unit (Series R) i) (entries R F) j),
        )

    module _ (decides : Decides R) (cancels : Cancels R) (nontrivial : Nontrivial R)
        (generates : Generates R m n P (entries R F) (λ j. linears R (roots j)))
      where
        -- Complete, the determinant: it is a unit times a product of linear factors, whose roots are roots of the moduli.
        pub generation_determinant : (Q : C → Type 0) → ((j : ℕ) → j < n → All Q (roots j)) → Splits R Q (det (Series R) m (entries R P))
        unfolding Generates Generated multiple mmul
        generation_determinant Q all =
            factor_of_linears R decides cancels nontrivial Q (poly_det R m P) (poly_det R m W) (joined R m (λ j. joined R n roots))
            (all_joined R Q m (λ j. joined R n roots) (λ j h. all_joined R Q n roots all))
            (mul_comm (det (Series R) m (entries R P)) (det (Series R) m (entries R W))
            ∙ sym (det_mul (Series R) m (entries R W) (entries R P))
            ∙ det_local (Series R) m (mmul (Series R) m (entries R W) (entries R P)) (λ i j. linears R (joined R n roots) ⊗ unit (Series R) i j)
            (λ i j hi hj. sym ((generates (multiple i) (multiple_relation i)).1 j hj))
            ∙ det_scalar (Series R) m (linears R (joined R n roots))
            ∙ sym (linears_power R m (joined R n roots)))
          where
            W : ℕ → ℕ → Poly R
            W i = (generates (multiple i) (multiple_relation i)).0

        -- Complete, the rank, at every point.
        pub generation_rank : (Q : ℕ → ℕ → Poly R) → Quotients R m n P (entries R F) (λ j. linears R (roots j)) Q → (a : C) → FullRank R m n P Q a
        unfolding Independent IsRelation Generates Generated
        generation_rank Q quotients a u zero_sums i h =
            evaluates_unique R a (constant R (u i)) (evaluates_constant R a (u i))
            (subst (λ f. Evaluates R a f 𝟘) (sym (same i h)) (root_of_multiple R a (w i).series (w i).below))
          where
            constants : ℕ → Poly R
            constants i = poly_constant R (u i)

            -- The products with constants evaluate to the sums that are 0, so X − a divides them.
            divided : (A : ℕ → ℕ → Poly R) (j : ℕ) → vmul R m u (values R a A) j ≡ 𝟘
                → vmul (Series R) m (coordinates R constants) (entries R A) j ≡ lin R a ⊗ (poly_quo R a (poly_vmul R m constants A j)).series
            divided A j z =
                divide_root R a (poly_vmul R m constants A j).series (poly_vmul R m constants A j).below
                (evaluates_unique R a (poly_vmul R m constants A j).series (evaluates_value R a (poly_vmul R m constants A j))
                (evaluates_vmul R m a constants u A j (λ i b. evaluates_constant R a (u i))) ∙ z)

            in_P : (j : ℕ) → j < m → vmul R m u (values R a P) j ≡ 𝟘
            in_P = ((combines_beside R m m n (values R a P) (values R a Q) u).0 zero_sums).0

            in_Q : (j : ℕ) → j < n → vmul R m u (values R a Q) j ≡ 𝟘
            in_Q = ((combines_beside R m m n (values R a P) (values R a Q) u).0 zero_sums).1

            -- The quotient of u·P is a relation, so it is w·P …
            v : ℕ → Poly R
            v j = poly_quo R a (poly_vmul R m constants P j)

            relation : (j : ℕ) → j < n → (q : Poly R) × (vmul (Series R) m (coordinates R v) (entries R F) j ≡ linears R (roots j) ⊗ q.series)
            relation j h = (
              poly_quo R a (poly_vmul R m constants Q j),
              cancel_lin R decides cancels nontrivial a (vmul (Series R) m (coordinates R v) (entries R F) j)
                  (linears R (roots j) ⊗ (poly_quo R a (poly_vmul R m constants Q j)).series)
                  (sym (vmul_scale (Series R) m (lin R a) (coordinates R v) (entries R F) j)
                  ∙ vmul_cong (Series R) m (λ k. lin R a ⊗ (v k).series)
                  (vmul (Series R) m (coordinates R constants) (entries R P)) (entries R F) (entries R F) j
                  (λ k b. sym (divided P k (in_P k b))) (λ k b. refl)
                  ∙ product_quotients R m n P Q (entries R F) (λ j. linears R (roots j)) quotients constants j h
                  ∙ ap (λ x. linears R (roots j) ⊗ x) (divided Q j (in_Q j h))
                  ∙ Ring.mul_left_comm (Series R) (linears R (roots j)) (lin R a) (poly_quo R a (poly_vmul R m constants Q j)).series),
            )

            w : ℕ → Poly R
            w = (generates v relation).0

            -- … and u = (X − a)·w, since P is nonsingular.
            nonsingular : det (Series R) m (entries R P) ≢ (Series R).𝟘
            nonsingular =
                splits_ne_zero R nontrivial (λ b. Unit {0}) (det (Series R) m (entries R P))
                (generation_determinant (λ b. Unit {0}) (λ j h. all_of (λ b. Unit {0}) (λ b. tt) (roots j)))

            kernel : (j : ℕ) → j < m → vmul (Series R) m (λ i. constant R (u i) ⊕ ⊖ lin R a ⊗ (w i).series) (entries R P) j ≡ (Series R).𝟘
            kernel j b =
                vmul_add (Series R) m (coordinates R constants) (λ i. ⊖ lin R a ⊗ (w i).series) (entries R P) j
                ∙ ap₂ (λ x y. x ⊕ y) (divided P j (in_P j b))
                (vmul_scale (Series R) m (⊖ lin R a) (coordinates R w) (entries R P) j ∙ ap (λ x. ⊖ lin R a ⊗ x) (sym ((generates v relation).1 j b)))
                ∙ ring (Series R) (lin R a ∷ (v j).series ∷ []) (v0 ⊠ v1 ⊞ ⊟ v0 ⊠ v1) ⓪ refl

            same : (i : ℕ) → i < m → constant R (u i) ≡ lin R a ⊗ (w i).series
            same i b =
                Ring.eq_of_sub (Series R) (constant R (u i)) (lin R a ⊗ (w i).series)
                (ap (λ x. constant R (u i) ⊕ x) (sym (Ring.neg_mul (Series R) (lin R a) (w i).series))
                ∙ kernel_zero (Series R) (Series_cancels R decides cancels) m (entries R P) nonsingular
                (λ i. constant R (u i) ⊕ ⊖ lin R a ⊗ (w i).series) kernel i b)
