-- The adjugate matrix, and what a determinant says of a system of linear equations.
--   kernel_times_det, kernel_zero, det_zero_row      rows that A takes to 0; a row of zeros
use Rattle.std.specs.Prelude.{◌≡◌, ◌≢◌}
use Rattle.std.proofs.Math.Path.{refl, sym, ap, ap₂}
use Rattle.std.proofs.Common.{◌∙◌, not-suc-le-zero, add_comm as nat_add_comm}
use Prim.Native.Nat.{ℕ, zero, suc, ◌+◌, ◌<◌}
use Rattle.std.proofs.Math.Decide.{ℕ_discrete}
use Rattle.algebra.specs.Ring as Ring
use Rattle.algebra.specs.Ring.{CommRing, RingRelation, Cancels, sign, sign_related}
use Rattle.algebra.specs.Sum.{skip, sum, sum_cong}
use Rattle.algebra.specs.Matrix.{Row, Matrix, transpose, unit, unit_diagonal, unit_off, unit_transpose, vmul, mmul, vmul_assoc, vmul_cong}
use Rattle.algebra.specs.Matrix.{vmul_unit, unit_vmul, vmul_zero}
use Rattle.algebra.specs.Det.{minor, det}
use Rattle.algebra.proofs.Det.{det_transpose, det_related}
use Rattle.algebra.proofs.Rows.{expand_row, det_row, det_twice}
use Rattle.algebra.specs.Adjugate.{adjugate}

module _ (R : CommRing) where
  open R use {C, 𝟘, ◌⊗◌, mul_assoc, mul_comm, mul_one}

  infixl 70 ◌⊗◌
  -- A·adj(A) = det(A)·I.
  pub mul_adjugate : (n : ℕ) (A : Matrix R) (i k : ℕ) → i < n → k < n → mmul R n A (adjugate R n A) i k ≡ det R n A ⊗ unit R i k
  unfolding mmul vmul adjugate
  mul_adjugate zero A i k hi hk = absurd (not-suc-le-zero hi)
  mul_adjugate (suc n) A i k hi hk = go (ℕ_discrete i k)
    where
      go : Dec (i ≡ k) → sum R (suc n) (λ j. A i j ⊗ (sign R (k + j) ⊗ det R n (minor k j A))) ≡ det R (suc n) A ⊗ unit R i k
      go (yes e) =
          ap (λ a. sum R (suc n) (λ j. A a j ⊗ (sign R (k + j) ⊗ det R n (minor k j A)))) e
          ∙ sym (det_row R n k A hk)
          ∙ sym (mul_one (det R (suc n) A))
          ∙ ap (λ x. det R (suc n) A ⊗ x) (sym (ap (λ a. unit R a k) e ∙ unit_diagonal R k))
      go (no ne) =
          expand_row R n k (A i) A
          ∙ ap (λ x. sign R k ⊗ x) (det_twice R n k i A hk hi ne)
          ∙ Ring.mul_zero R (sign R k)
          ∙ sym (Ring.mul_zero R (det R (suc n) A))
          ∙ ap (λ x. det R (suc n) A ⊗ x) (sym (unit_off R i k ne))

  adjugate_transpose : (n : ℕ) (A : Matrix R) (i j : ℕ) → adjugate R n (transpose A) i j ≡ adjugate R n A j i
  unfolding adjugate
  adjugate_transpose zero A i j = refl
  adjugate_transpose (suc n) A i j = ap₂ (λ x y. sign R x ⊗ y) (nat_add_comm j i) (det_transpose R n (minor i j A))

  -- adj(A)·A = det(A)·I.
  pub adjugate_mul : (n : ℕ) (A : Matrix R) (i k : ℕ) → i < n → k < n → mmul R n (adjugate R n A) A i k ≡ det R n A ⊗ unit R i k
  unfolding mmul vmul
  adjugate_mul n A i k hi hk =
      sum_cong R n (λ j. adjugate R n A i j ⊗ A j k) (λ j. A j k ⊗ adjugate R n (transpose A) j i)
      (λ j b. mul_comm (adjugate R n A i j) (A j k) ∙ ap (λ x. A j k ⊗ x) (sym (adjugate_transpose n A j i)))
      ∙ mul_adjugate n (transpose A) k i hk hi
      ∙ ap₂ (λ x y. x ⊗ y) (det_transpose R n A) (unit_transpose R k i)

  -- A row times a multiple of the identity.
  vmul_scalar : (n : ℕ) (v : Row R) (d : C) (j : ℕ) → j < n → vmul R n v (λ i k. d ⊗ unit R i k) j ≡ d ⊗ v j
  unfolding vmul
  vmul_scalar n v d j h =
      sum_cong R n (λ i. v i ⊗ (d ⊗ unit R i j)) (λ i. d ⊗ v i ⊗ unit R i j)
      (λ i b. Ring.mul_left_comm R (v i) d (unit R i j) ∙ sym (mul_assoc d (v i) (unit R i j)))
      ∙ vmul_unit R n (λ i. d ⊗ v i) j h

  -- (v·adj(A))·A = det(A)·v, for every row v.
  pub row_adjugate_mul : (n : ℕ) (A : Matrix R) (v : Row R) (j : ℕ) → j < n → vmul R n (vmul R n v (adjugate R n A)) A j ≡ det R n A ⊗ v j
  row_adjugate_mul n A v j h =
      vmul_assoc R n n v (adjugate R n A) A j
      ∙ vmul_cong R n v v (mmul R n (adjugate R n A) A) (λ i k. det R n A ⊗ unit R i k) j (λ i b. refl) (λ i b. adjugate_mul n A i j b h)
      ∙ vmul_scalar n v (det R n A) j h

  -- u·A = 0 gives det(A)·u = 0 …
  pub kernel_times_det : (n : ℕ) (A : Matrix R) (u : Row R) → ((j : ℕ) → j < n → vmul R n u A j ≡ 𝟘) → (i : ℕ) → i < n → det R n A ⊗ u i ≡ 𝟘
  kernel_times_det n A u h i b =
      sym (vmul_scalar n u (det R n A) i b)
      ∙ sym (vmul_cong R n u u (mmul R n A (adjugate R n A)) (λ i k. det R n A ⊗ unit R i k) i (λ i b. refl) (λ k hk. mul_adjugate n A k i hk b))
      ∙ sym (vmul_assoc R n n u A (adjugate R n A) i)
      ∙ vmul_zero R n (vmul R n u A) (adjugate R n A) i h

  -- … so over a ring without zero divisors a row that a nonsingular matrix takes to 0 is 0.
  pub kernel_zero : Cancels R → (n : ℕ) (A : Matrix R) → det R n A ≢ 𝟘 → (u : Row R) → ((j : ℕ) → j < n → vmul R n u A j ≡ 𝟘) → (i : ℕ) → i < n → u i ≡ 𝟘
  kernel_zero cancels n A nz u h i b = cancels (det R n A) (u i) nz (kernel_times_det n A u h i b)

  -- A row of zeros makes the determinant 0.
  pub det_zero_row : (n : ℕ) (A : Matrix R) (i : ℕ) → i < n → ((j : ℕ) → j < n → A i j ≡ 𝟘) → det R n A ≡ 𝟘
  det_zero_row n A i b zeros =
      sym (mul_one (det R n A))
      ∙ ap (λ x. det R n A ⊗ x) (sym (unit_diagonal R i))
      ∙ kernel_times_det n A (unit R i) (λ j h. unit_vmul R n i A b j ∙ zeros j h) i b

module _ (R S : CommRing) (Rel : R.C → S.C → Type 0) (keeps : RingRelation R S Rel) where
  -- The adjugates of related matrices are related.
  pub adjugate_related : (n : ℕ) (A : Matrix R) (B : Matrix S) → ((i j : ℕ) → Rel (A i j) (B i j)) → (i j : ℕ) → Rel (adjugate R n A i j) (adjugate S n B i j)
  unfolding adjugate
  adjugate_related zero A B h i j = keeps.rel_zero
  adjugate_related (suc n) A B h i j =
      keeps.rel_mul (sign_related R S Rel keeps (j + i)) (det_related R S Rel keeps n (minor j i A) (minor j i B) (λ r c hr hc. h (skip j r) (skip i c)))
