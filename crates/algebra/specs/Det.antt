-- The determinant, by expansion along the first row, for every size and over every commutative ring.
--   minor k j A              A without row k and column j
--   det n A                  the determinant of the first n rows and columns of A
-- Here: it depends on that square alone, what is built of related entries is related, expansion along the first column, the
-- transpose, and that it vanishes where the first two rows are equal. The laws that rest on these are in `Alternating`, `Rows` and `Adjugate`.
use Rattle.std.specs.Prelude.{◌≡◌}
use Rattle.std.proofs.Math.Path.{refl, sym, ap, ap₂}
use Rattle.std.proofs.Common.{◌∙◌, zero-lt-suc}
use Prim.Native.Nat.{ℕ, zero, suc, suc-le-suc}
use Rattle.algebra.specs.Ring as Ring
use Rattle.algebra.specs.Ring.{CommRing, RingRelation, sign, sign_related, power}
use Rattle.algebra.specs.Sum.{skip, skip_below, sum, sum_cong, mul_sum, sum_swap}
use Rattle.algebra.specs.Matrix.{Matrix, Same}

-- A without row k and column j.
abbrev pub minor : {A : Type 0} → ℕ → ℕ → (ℕ → ℕ → A) → ℕ → ℕ → A
minor k j A r c = A (skip k r) (skip j c)

module _ (R : CommRing) where
  open R use {C, 𝟘, 𝟙, ◌⊕◌, ◌⊗◌, ⊖◌, add_assoc, add_zero, add_neg, mul_assoc, mul_one}

  infixl 60 ◌⊕◌
  infixl 70 ◌⊗◌
  infix 80 ⊖◌
  -- The signed sum of the first row's entries times the determinants of the squares left.
  unfoldable pub det : ℕ → Matrix R → C
  det zero A = 𝟙
  det (suc n) A = sum R (suc n) (λ j. sign R j ⊗ A zero j ⊗ det n (minor zero j A))

  -- The determinant depends on the first n rows and columns alone.
  pub det_local : (n : ℕ) (A B : Matrix R) → Same R n n A B → det n A ≡ det n B
  unfolding det skip
  det_local zero A B h = refl
  det_local (suc n) A B h =
      sum_cong R (suc n) (λ j. sign R j ⊗ A zero j ⊗ det n (minor zero j A)) (λ j. sign R j ⊗ B zero j ⊗ det n (minor zero j B))
      (λ j b. ap₂ (λ x y. sign R j ⊗ x ⊗ y) (h zero j (zero-lt-suc n) b)
      (det_local n (minor zero j A) (minor zero j B) (λ r c hr hc. h (suc r) (skip j c) (suc-le-suc hr) (skip_below n j c hc))))

  cross_terms : (x a y b d : C) → ⊖ x ⊗ a ⊗ (y ⊗ b ⊗ d) ≡ ⊖ y ⊗ b ⊗ (x ⊗ a ⊗ d)
  cross_terms x a y b d = simp (Ring.neg_mul R, mul_assoc, Ring.mul_left_comm R)

  -- Expansion along the first column.
  pub det_first_column : (n : ℕ) (A : Matrix R)
      → det (suc n) A ≡ sum R (suc n) (λ i. sign R i ⊗ A i zero ⊗ det n (minor i zero A))
  unfolding det skip sum sign
  det_first_column zero A = refl
  det_first_column (suc n) A =
      ap (λ x. 𝟙 ⊗ A zero zero ⊗ det (suc n) (minor zero zero A) ⊕ x)
      (sum_cong R (suc n)
      (λ j. ⊖ sign R j ⊗ A zero (suc j) ⊗ det (suc n) (minor zero (suc j) A))
      (λ j. sum R (suc n) (λ i. ⊖ sign R j ⊗ A zero (suc j) ⊗ (sign R i ⊗ A (suc i) zero ⊗ det n (rest i j))))
      (λ j b. ap (λ x. ⊖ sign R j ⊗ A zero (suc j) ⊗ x) (det_first_column n (minor zero (suc j) A))
      ∙ mul_sum R (suc n) (⊖ sign R j ⊗ A zero (suc j)) (λ i. sign R i ⊗ A (suc i) zero ⊗ det n (rest i j)))
      ∙ sum_swap R (suc n) (suc n) (λ j i. ⊖ sign R j ⊗ A zero (suc j) ⊗ (sign R i ⊗ A (suc i) zero ⊗ det n (rest i j)))
      ∙ sum_cong R (suc n)
      (λ i. sum R (suc n) (λ j. ⊖ sign R j ⊗ A zero (suc j) ⊗ (sign R i ⊗ A (suc i) zero ⊗ det n (rest i j))))
      (λ i. ⊖ sign R i ⊗ A (suc i) zero ⊗ det (suc n) (minor (suc i) zero A))
      (λ i b. sum_cong R (suc n)
      (λ j. ⊖ sign R j ⊗ A zero (suc j) ⊗ (sign R i ⊗ A (suc i) zero ⊗ det n (rest i j)))
      (λ j. ⊖ sign R i ⊗ A (suc i) zero ⊗ (sign R j ⊗ A zero (suc j) ⊗ det n (rest i j)))
      (λ j b. cross_terms (sign R j) (A zero (suc j)) (sign R i) (A (suc i) zero) (det n (rest i j)))
      ∙ sym (mul_sum R (suc n) (⊖ sign R i ⊗ A (suc i) zero) (λ j. sign R j ⊗ A zero (suc j) ⊗ det n (rest i j)))))
    where
      rest : ℕ → ℕ → Matrix R
      rest i j = λ r c. A (suc (skip i r)) (suc (skip j c))
