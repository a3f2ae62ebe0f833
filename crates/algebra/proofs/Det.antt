-- The determinant, by expansion along the first row, for every size and over every commutative ring.
-- Here: it depends on that square alone, what is built of related entries is related, expansion along the first column, the
-- transpose, and that it vanishes where the first two rows are equal. The laws that rest on these are in `Alternating`, `Rows` and `Adjugate`.
use Rattle.std.specs.Prelude.{◌≡◌}
use Rattle.std.proofs.Math.Path.{refl, sym, ap, ap₂}
use Rattle.std.proofs.Common.{◌∙◌, zero-lt-suc}
use Prim.Native.Nat.{ℕ, zero, suc, ◌<◌, suc-le-suc}
use Rattle.algebra.specs.Ring as Ring
use Rattle.algebra.specs.Ring.{CommRing, RingRelation, sign, sign_related, power}
use Rattle.algebra.specs.Sum.{skip, skip_below, sum, sum_cong, sum_zero, sum_related}
use Rattle.algebra.specs.Matrix.{Row, Matrix, Same, cons, unit, transpose}
use Rattle.algebra.specs.Det.{minor, det, det_local, det_first_column}

module _ (R : CommRing) where
  open R use {C, 𝟘, 𝟙, ◌⊕◌, ◌⊗◌, ⊖◌, add_assoc, add_zero, add_neg, mul_assoc, mul_one}

  infixl 60 ◌⊕◌
  infixl 70 ◌⊗◌
  infix 80 ⊖◌
  -- A matrix and its transpose have the same determinant.
  pub det_transpose : (n : ℕ) (A : Matrix R) → det R n (transpose A) ≡ det R n A
  unfolding det
  det_transpose zero A = refl
  det_transpose (suc n) A =
      sum_cong R (suc n) (λ j. sign R j ⊗ A j zero ⊗ det R n (minor zero j (transpose A))) (λ j. sign R j ⊗ A j zero ⊗ det R n (minor j zero A))
      (λ j b. ap (λ x. sign R j ⊗ A j zero ⊗ x) (det_transpose n (minor j zero A)))
      ∙ sym (det_first_column R n A)

  -- The first two terms of the expansion cancel where the first two columns are equal.
  first_terms : (n : ℕ) (A : Matrix R) → ((i : ℕ) → i < suc (suc n) → A i zero ≡ A i (suc zero))
      → 𝟙 ⊗ A zero zero ⊗ det R (suc n) (minor zero zero A) ⊕ ⊖ 𝟙 ⊗ A zero (suc zero) ⊗ det R (suc n) (minor zero (suc zero) A) ≡ 𝟘
  unfolding skip
  first_terms n A h =
      ap (λ x. 𝟙 ⊗ A zero zero ⊗ det R (suc n) (minor zero zero A) ⊕ x)
      (ap₂ (λ x y. ⊖ 𝟙 ⊗ x ⊗ y) (sym (h zero (zero-lt-suc (suc n)))) (det_local R (suc n) (minor zero (suc zero) A) (minor zero zero A) same)
      ∙ ap (λ x. x ⊗ det R (suc n) (minor zero zero A)) (Ring.neg_mul R 𝟙 (A zero zero))
      ∙ Ring.neg_mul R (𝟙 ⊗ A zero zero) (det R (suc n) (minor zero zero A)))
      ∙ add_neg (𝟙 ⊗ A zero zero ⊗ det R (suc n) (minor zero zero A))
    where
      same : Same R (suc n) (suc n) (minor zero (suc zero) A) (minor zero zero A)
      same r zero hr hc = h (suc r) (suc-le-suc hr)
      same r (suc c) hr hc = refl

  -- A matrix whose first two columns are equal has the determinant 0.
  pub det_first_columns : (n : ℕ) (A : Matrix R) → ((i : ℕ) → i < suc (suc n) → A i zero ≡ A i (suc zero)) → det R (suc (suc n)) A ≡ 𝟘
  unfolding det skip sum sign
  det_first_columns zero A h = sym (add_assoc _ _ _) ∙ ap (λ x. x ⊕ 𝟘) (first_terms zero A h) ∙ add_zero 𝟘
  det_first_columns (suc n) A h =
      sym (add_assoc _ _ _)
      ∙ ap₂ (λ x y. x ⊕ y) (first_terms (suc n) A h)
      (sum_zero R (suc n) (λ j. sign R (suc (suc j)) ⊗ A zero (suc (suc j)) ⊗ det R (suc (suc n)) (minor zero (suc (suc j)) A))
      (λ j b. ap (λ x. sign R (suc (suc j)) ⊗ A zero (suc (suc j)) ⊗ x) (det_first_columns n (minor zero (suc (suc j)) A) (λ i hi. h (suc i) (suc-le-suc hi)))
      ∙ Ring.mul_zero R (sign R (suc (suc j)) ⊗ A zero (suc (suc j)))))
      ∙ add_zero 𝟘

  -- A matrix whose first two rows are equal has the determinant 0.
  pub det_first_rows : (n : ℕ) (r : Row R) (A : Matrix R) → det R (suc (suc n)) (cons r (cons r A)) ≡ 𝟘
  unfolding cons
  det_first_rows n r A =
      sym (det_transpose (suc (suc n)) (cons r (cons r A))) ∙ det_first_columns n (transpose (cons r (cons r A))) (λ i b. refl)

  -- Where the first column is 0 below its first entry, that entry is a factor.
  pub det_pivot : (n : ℕ) (A : Matrix R) → ((i : ℕ) → i < n → A (suc i) zero ≡ 𝟘) → det R (suc n) A ≡ A zero zero ⊗ det R n (minor zero zero A)
  unfolding sum sign
  det_pivot n A h =
      (det_first_column R) n A
      ∙ ap₂ (λ x y. x ⊗ det R n (minor zero zero A) ⊕ y) (Ring.one_mul R (A zero zero))
      (sum_zero R n (λ i. sign R (suc i) ⊗ A (suc i) zero ⊗ det R n (minor (suc i) zero A))
      (λ i b. ap (λ x. sign R (suc i) ⊗ x ⊗ det R n (minor (suc i) zero A)) (h i b)
      ∙ ap (λ x. x ⊗ det R n (minor (suc i) zero A)) (Ring.mul_zero R (sign R (suc i)))
      ∙ Ring.zero_mul R (det R n (minor (suc i) zero A))))
      ∙ add_zero (A zero zero ⊗ det R n (minor zero zero A))

  -- The determinant of a multiple of the identity is a power …
  pub det_scalar : (n : ℕ) (d : C) → det R n (λ i j. d ⊗ unit R i j) ≡ power R d n
  unfolding det unit skip power
  det_scalar zero d = refl
  det_scalar (suc n) d =
      det_pivot n (λ i j. d ⊗ unit R i j) (λ i b. Ring.mul_zero R d) ∙ ap₂ (λ x y. x ⊗ y) (mul_one d) (det_scalar n d)

  -- … and that of the identity is 1.
  pub det_unit : (n : ℕ) → det R n (unit R) ≡ 𝟙
  unfolding det unit skip
  det_unit zero = refl
  det_unit (suc n) = det_pivot n (unit R) (λ i b. refl) ∙ Ring.one_mul R (det R n (unit R)) ∙ det_unit n

module _ (R S : CommRing) (Rel : R.C → S.C → Type 0) (keeps : RingRelation R S Rel) where
  -- Determinants of related entries are related: a homomorphism takes the determinant of a matrix to that of its images, and the
  -- determinant of a matrix of polynomials evaluates to that of the values.
  pub det_related : (n : ℕ) (A : Matrix R) (B : Matrix S) → ((i j : ℕ) → i < n → j < n → Rel (A i j) (B i j)) → Rel (det R n A) (det S n B)
  unfolding det skip
  det_related zero A B h = keeps.rel_one
  det_related (suc n) A B h =
      sum_related R S Rel keeps (suc n) _ _
      (λ j b. keeps.rel_mul (keeps.rel_mul (sign_related R S Rel keeps j) (h zero j (zero-lt-suc n) b))
      (det_related n (minor zero j A) (minor zero j B) (λ r c hr hc. h (suc r) (skip j c) (suc-le-suc hr) (skip_below n j c hc))))
