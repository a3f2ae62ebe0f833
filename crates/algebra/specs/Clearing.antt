-- Determinants of a matrix whose rows are multiplied by factors, and of the identity less constants that clear some rows by others.
--   factors                  a product of several elements
--   det_factors              the determinant where each row has a factor
--   vmul_neg                 the product of the negative of a row
--   Clears, less             constants that subtract pivot rows from the other rows, and the identity less them
--   row_of_others            a row that has a constant other than 0 in a combination to zero is a combination of the others
use Rattle.std.specs.Prelude.{◌≡◌, ◌≢◌, Bool, true, false, [], ◌∷◌}
use Rattle.std.proofs.Math.Path.{refl, sym, ap}
use Rattle.std.proofs.Common.{◌∙◌}
use Prim.Native.Nat.{ℕ, zero, suc, ◌<◌}
use Rattle.std.proofs.Math.Decide.{ℕ_discrete}
use Rattle.algebra.specs.Ring as Ring
use Rattle.algebra.specs.Ring.{CommRing, Nontrivial, Inverts}
use Rattle.algebra.specs.Solver.{v0, v1, v2, ◌⊞◌, ◌⊠◌, ⊟◌, ring}
use Rattle.algebra.specs.Sum.{sum, sum_cong, mul_sum, neg_sum, sum_replace, skip, replace, replace_at, replace_other}
use Rattle.algebra.specs.Matrix.{Row, Matrix, unit, vmul, vmul_scale}
use Rattle.algebra.specs.Det.{minor, det}

module _ (R : CommRing) where
  open R use {C, 𝟘, 𝟙, ◌⊕◌, ◌⊗◌, ⊖◌, add_zero, add_neg, mul_assoc, mul_one}

  infixl 60 ◌⊕◌
  infixl 70 ◌⊗◌
  infix 80 ⊖◌
  -- c 0 · … · c (n − 1).
  unfoldable pub factors : ℕ → (ℕ → C) → C
  factors zero c = 𝟙
  factors (suc n) c = c zero ⊗ factors n (λ i. c (suc i))

  regroup : (s c a f d : C) → s ⊗ (c ⊗ a) ⊗ (f ⊗ d) ≡ c ⊗ f ⊗ (s ⊗ a ⊗ d)
  regroup s c a f d = simp (mul_assoc, Ring.mul_left_comm R)

  -- Where each row is multiplied by a factor, so is the determinant by all of them.
  pub det_factors : (n : ℕ) (c : ℕ → C) (A : Matrix R) → det R n (λ i j. c i ⊗ A i j) ≡ factors n c ⊗ det R n A
  unfolding det factors skip
  det_factors zero c A = sym (mul_one 𝟙)
  det_factors (suc n) c A =
      sum_cong R (suc n) (λ j. Ring.sign R j ⊗ (c zero ⊗ A zero j) ⊗ det R n (minor zero j (λ i j. c i ⊗ A i j)))
      (λ j. c zero ⊗ factors n (λ i. c (suc i)) ⊗ (Ring.sign R j ⊗ A zero j ⊗ det R n (minor zero j A)))
      (λ j b. ap (λ x. Ring.sign R j ⊗ (c zero ⊗ A zero j) ⊗ x) (det_factors n (λ i. c (suc i)) (minor zero j A))
      ∙ regroup (Ring.sign R j) (c zero) (A zero j) (factors n (λ i. c (suc i))) (det R n (minor zero j A)))
      ∙ sym (mul_sum R (suc n) (c zero ⊗ factors n (λ i. c (suc i))) (λ j. Ring.sign R j ⊗ A zero j ⊗ det R n (minor zero j A)))

  -- The product of the negative of a row.
  pub vmul_neg : (m : ℕ) (v : Row R) (M : Matrix R) (j : ℕ) → vmul R m (λ q. ⊖ v q) M j ≡ ⊖ vmul R m v M j
  unfolding vmul
  vmul_neg m v M j =
      sum_cong R m (λ q. ⊖ v q ⊗ M q j) (λ q. ⊖ (v q ⊗ M q j)) (λ q b. Ring.neg_mul R (v q) (M q j)) ∙ sym (neg_sum R m (λ q. v q ⊗ M q j))

  -- The constants w are 0 in the rows of pivots and in the columns of the other rows.
  pub record Clears (m : ℕ) (pivot : ℕ → Bool) (w : Matrix R) : Type 0 where
    pub pivots_stay : (i q : ℕ) → i < m → q < m → pivot i ≡ true → w i q ≡ 𝟘
    pub pivots_alone : (i q : ℕ) → i < m → q < m → pivot q ≡ false → w i q ≡ 𝟘

  -- The identity less w.
  unfoldable pub less : Matrix R → Matrix R
  less w i q = unit R i q ⊕ ⊖ w i q

  -- A row that has a constant other than 0 in a combination of rows to zero is a combination of the others.
  pub row_of_others : (inv : C → C) → Inverts R inv → (m i : ℕ) → i < m → (u : Row R) (A : Matrix R) (j : ℕ) → u i ≢ 𝟘 → vmul R m u A j ≡ 𝟘
      → A i j ⊕ ⊖ vmul R m (λ q. ⊖ inv (u i) ⊗ replace i 𝟘 u q) A j ≡ 𝟘
  unfolding vmul
  row_of_others inv inverts m i hi u A j ne combined =
      ap (λ x. A i j ⊕ ⊖ x) (vmul_scale R m (⊖ inv (u i)) (replace i 𝟘 u) A j ∙ ap (λ x. ⊖ inv (u i) ⊗ x) rest)
      ∙ ring R (A i j ∷ inv (u i) ∷ u i ∷ []) (v0 ⊞ ⊟ (⊟ v1 ⊠ ⊟ (v2 ⊠ v0))) (v0 ⊞ ⊟ (v2 ⊠ v1 ⊠ v0)) refl
      ∙ ap (λ x. A i j ⊕ ⊖ (x ⊗ A i j)) (inverts (u i) ne)
      ∙ ap (λ x. A i j ⊕ ⊖ x) (Ring.one_mul R (A i j))
      ∙ add_neg (A i j)
    where
      term : ℕ → C
      term q = u q ⊗ A q j

      at : (q : ℕ) → Dec (q ≡ i) → replace i 𝟘 u q ⊗ A q j ≡ replace i 𝟘 term q
      at q (yes e) =
          ap (λ x. x ⊗ A q j) (ap (replace i 𝟘 u) e ∙ replace_at i 𝟘 u) ∙ Ring.zero_mul R (A q j) ∙ sym (ap (replace i 𝟘 term) e ∙ replace_at i 𝟘 term)
      at q (no nq) = ap (λ x. x ⊗ A q j) (replace_other i 𝟘 u q nq) ∙ sym (replace_other i 𝟘 term q nq)

      rest : vmul R m (replace i 𝟘 u) A j ≡ ⊖ (u i ⊗ A i j)
      rest =
          Ring.neg_unique R (vmul R m (replace i 𝟘 u) A j) (u i ⊗ A i j)
          (ap (λ x. x ⊕ term i) (sum_cong R m (λ q. replace i 𝟘 u q ⊗ A q j) (replace i 𝟘 term) (λ q b. at q (ℕ_discrete q i)))
          ∙ sum_replace R m i 𝟘 term hi
          ∙ add_zero (sum R m term)
          ∙ combined)
