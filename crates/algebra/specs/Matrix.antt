-- Matrices over a commutative ring: functions of a row number and a column number, the size a separate argument.
--   Row, Matrix              ℕ → C, ℕ → ℕ → C
--   cons r A                 the matrix with the row r above the rows of A
--   unit i                   the row with 1 at i and 0 elsewhere; `unit` itself is the identity matrix
--   vmul m v A               the row v times the m rows of A:  (v·A) j = Σ_{i<m} v i · A i j
--   mmul m A B               the product: row i is (row i of A)·B
--   transpose A
--   beside m A B             the m columns of A, and to their right those of B
use Rattle.std.specs.Prelude.{◌≡◌, ◌≢◌}
use Rattle.std.proofs.Math.Path.{refl, sym, ap, ap₂, fun_ext}
use Rattle.std.proofs.Common.{subst, ◌∙◌, le_of_suc-le-suc, not-suc-le-zero, zero-lt-suc, zero-add, suc-add}
use Prim.Native.Nat.{ℕ, zero, suc, ◌+◌, ◌<◌, suc-le-suc}
use Rattle.algebra.specs.Ring as Ring
use Rattle.algebra.specs.Ring.{CommRing, RingRelation}
use Rattle.algebra.specs.Sum.{sum, sum_cong, sum_zero, sum_add, mul_sum, sum_mul, sum_swap, sum_one_term, sum_related}

-- A row above the rows of a matrix.
unfoldable pub cons : {A : Type 0} → A → (ℕ → A) → ℕ → A
cons r A zero = r
cons r A (suc i) = A i

-- A matrix is its first row above the others.
pub cons_eta : {A : Type 0} (M : ℕ → A) → cons (M zero) (λ i. M (suc i)) ≡ M
unfolding cons
cons_eta M = fun_ext (λ i. elim i as (λ k. cons (M zero) (λ j. M (suc j)) k ≡ M k) [ zero ↦ refl | suc k ↦ refl ])

-- Rows and columns change places.
abbrev pub transpose : {A : Type 0} → (ℕ → ℕ → A) → ℕ → ℕ → A
transpose A i j = A j i

-- The m columns of A, and to their right those of B.
unfoldable pub beside : {A : Type 0} → ℕ → (ℕ → ℕ → A) → (ℕ → ℕ → A) → ℕ → ℕ → A
beside zero A B i j = B i j
beside (suc m) A B i zero = A i zero
beside (suc m) A B i (suc j) = beside m (λ i j. A i (suc j)) B i j

-- The columns of A …
pub beside_left : {A : Type 0} (m : ℕ) (P Q : ℕ → ℕ → A) (i j : ℕ) → j < m → beside m P Q i j ≡ P i j
unfolding beside
beside_left zero P Q i j h = absurd (not-suc-le-zero h)
beside_left (suc m) P Q i zero h = refl
beside_left (suc m) P Q i (suc j) h = beside_left m (λ i j. P i (suc j)) Q i j (le_of_suc-le-suc h)

-- … and those of B.
pub beside_right : {A : Type 0} (m : ℕ) (P Q : ℕ → ℕ → A) (i j : ℕ) → beside m P Q i (m + j) ≡ Q i j
unfolding beside
beside_right zero P Q i j = ap (Q i) (zero-add j)
beside_right (suc m) P Q i j = ap (beside (suc m) P Q i) (suc-add m j) ∙ beside_right m (λ i j. P i (suc j)) Q i j

module _ (R : CommRing) where
  open R use {C, 𝟘, 𝟙, ◌⊕◌, ◌⊗◌, mul_assoc, mul_one}

  infixl 60 ◌⊕◌
  infixl 70 ◌⊗◌
  -- A row: an entry for each column number.
  abbrev pub Row : Type 0
  Row = ℕ → C

  -- A matrix: an entry for each row number and column number.
  abbrev pub Matrix : Type 0
  Matrix = ℕ → ℕ → C

  -- Two rows agree in the first n columns.
  abbrev pub SameRow : ℕ → Row → Row → Type 0
  SameRow n r s = (j : ℕ) → j < n → r j ≡ s j

  -- Two matrices agree in the first m rows and n columns.
  abbrev pub Same : ℕ → ℕ → Matrix → Matrix → Type 0
  Same m n A B = (i j : ℕ) → i < m → j < n → A i j ≡ B i j

  -- The identity matrix.
  unfoldable pub unit : Matrix
  unit zero zero = 𝟙
  unit zero (suc j) = 𝟘
  unit (suc i) zero = 𝟘
  unit (suc i) (suc j) = unit i j

  -- It has 1 on the diagonal …
  pub unit_diagonal : (i : ℕ) → unit i i ≡ 𝟙
  unfolding unit
  unit_diagonal zero = refl
  unit_diagonal (suc i) = unit_diagonal i

  -- … and 0 elsewhere …
  pub unit_off : (i j : ℕ) → i ≢ j → unit i j ≡ 𝟘
  unfolding unit
  unit_off zero zero h = absurd (h refl)
  unit_off zero (suc j) h = refl
  unit_off (suc i) zero h = refl
  unit_off (suc i) (suc j) h = unit_off i j (λ e. h (ap suc e))

  -- … and is its own transpose.
  pub unit_transpose : (i j : ℕ) → unit i j ≡ unit j i
  unfolding unit
  unit_transpose zero zero = refl
  unit_transpose zero (suc j) = refl
  unit_transpose (suc i) zero = refl
  unit_transpose (suc i) (suc j) = unit_transpose i j

  -- Matrices that agree stand beside matrices that agree.
  pub beside_same : (k m n : ℕ) (A A' B B' : Matrix) → Same k m A A' → Same k n B B' → Same k (m + n) (beside m A B) (beside m A' B')
  unfolding beside
  beside_same k zero n A A' B B' hA hB i j hi hj = hB i j hi (subst (λ x. j < x) (zero-add n) hj)
  beside_same k (suc m) n A A' B B' hA hB i zero hi hj = hA i zero hi (zero-lt-suc m)
  beside_same k (suc m) n A A' B B' hA hB i (suc j) hi hj =
      beside_same k m n (λ i j. A i (suc j)) (λ i j. A' i (suc j)) B B' (λ i j a b. hA i (suc j) a (suc-le-suc b)) hB i j hi
      (le_of_suc-le-suc (subst (λ x. suc j < x) (suc-add m n) hj))

  -- A row times the first m rows of a matrix.
  unfoldable pub vmul : ℕ → Row → Matrix → Row
  vmul m v A j = sum R m (λ i. v i ⊗ A i j)

  -- The product of a matrix with m columns and one with m rows.
  unfoldable pub mmul : ℕ → Matrix → Matrix → Matrix
  mmul m A B i = vmul m (A i) B

  -- A row times the identity is the row.
  pub vmul_unit : (m : ℕ) (v : Row) → SameRow m (vmul m v unit) v
  unfolding vmul
  vmul_unit m v j h =
      sum_one_term R m j (λ i. v i ⊗ unit i j) h (λ i b ne. ap (λ x. v i ⊗ x) (unit_off i j ne) ∙ Ring.mul_zero R (v i))
      ∙ ap (λ x. v j ⊗ x) (unit_diagonal j)
      ∙ mul_one (v j)

  -- The unit row at i times a matrix is the row i.
  pub unit_vmul : (m i : ℕ) (A : Matrix) → i < m → (j : ℕ) → vmul m (unit i) A j ≡ A i j
  unfolding vmul
  unit_vmul m i A h j =
      sum_one_term R m i (λ k. unit i k ⊗ A k j) h
      (λ k b ne. ap (λ x. x ⊗ A k j) (unit_off i k (λ e. ne (sym e))) ∙ Ring.zero_mul R (A k j))
      ∙ ap (λ x. x ⊗ A i j) (unit_diagonal i)
      ∙ Ring.one_mul R (A i j)

  -- A product depends on the first m entries of the row and the first m rows of the matrix alone.
  pub vmul_cong : (m : ℕ) (v w : Row) (A B : Matrix) (j : ℕ) → SameRow m v w → ((i : ℕ) → i < m → A i j ≡ B i j) → vmul m v A j ≡ vmul m w B j
  unfolding vmul
  vmul_cong m v w A B j h k = sum_cong R m (λ i. v i ⊗ A i j) (λ i. w i ⊗ B i j) (λ i b. ap₂ (λ x y. x ⊗ y) (h i b) (k i b))

  -- The product of a sum of rows.
  pub vmul_add : (m : ℕ) (v w : Row) (A : Matrix) (j : ℕ) → vmul m (λ i. v i ⊕ w i) A j ≡ vmul m v A j ⊕ vmul m w A j
  unfolding vmul
  vmul_add m v w A j =
      sum_cong R m (λ i. (v i ⊕ w i) ⊗ A i j) (λ i. v i ⊗ A i j ⊕ w i ⊗ A i j) (λ i b. Ring.add_mul R (v i) (w i) (A i j))
      ∙ sum_add R m (λ i. v i ⊗ A i j) (λ i. w i ⊗ A i j)

  -- The product of a multiple of a row.
  pub vmul_scale : (m : ℕ) (c : C) (v : Row) (A : Matrix) (j : ℕ) → vmul m (λ i. c ⊗ v i) A j ≡ c ⊗ vmul m v A j
  unfolding vmul
  vmul_scale m c v A j =
      sum_cong R m (λ i. c ⊗ v i ⊗ A i j) (λ i. c ⊗ (v i ⊗ A i j)) (λ i b. mul_assoc c (v i) (A i j))
      ∙ sym (mul_sum R m c (λ i. v i ⊗ A i j))

  -- The product of a row of zeros.
  pub vmul_zero : (m : ℕ) (v : Row) (A : Matrix) (j : ℕ) → ((i : ℕ) → i < m → v i ≡ 𝟘) → vmul m v A j ≡ 𝟘
  unfolding vmul
  vmul_zero m v A j h = sum_zero R m (λ i. v i ⊗ A i j) (λ i b. ap (λ x. x ⊗ A i j) (h i b) ∙ Ring.zero_mul R (A i j))

  -- (v·A)·B = v·(A·B).
  pub vmul_assoc : (m n : ℕ) (v : Row) (A B : Matrix) (j : ℕ) → vmul n (vmul m v A) B j ≡ vmul m v (mmul n A B) j
  unfolding vmul mmul
  vmul_assoc m n v A B j =
      sum_cong R n (λ k. sum R m (λ i. v i ⊗ A i k) ⊗ B k j) (λ k. sum R m (λ i. v i ⊗ (A i k ⊗ B k j)))
      (λ k b. sum_mul R m (λ i. v i ⊗ A i k) (B k j)
      ∙ sum_cong R m (λ i. v i ⊗ A i k ⊗ B k j) (λ i. v i ⊗ (A i k ⊗ B k j)) (λ i b. mul_assoc (v i) (A i k) (B k j)))
      ∙ sum_swap R n m (λ k i. v i ⊗ (A i k ⊗ B k j))
      ∙ sum_cong R m (λ i. sum R n (λ k. v i ⊗ (A i k ⊗ B k j))) (λ i. v i ⊗ sum R n (λ k. A i k ⊗ B k j))
      (λ i b. sym (mul_sum R n (v i) (λ k. A i k ⊗ B k j)))

module _ (R S : CommRing) (Rel : R.C → S.C → Type 0) (keeps : RingRelation R S Rel) where
  -- Products of related rows and matrices are related.
  pub vmul_related : (m : ℕ) (v : Row R) (w : Row S) (A : Matrix R) (B : Matrix S) (j : ℕ)
      → ((i : ℕ) → i < m → Rel (v i) (w i)) → ((i : ℕ) → i < m → Rel (A i j) (B i j)) → Rel (vmul R m v A j) (vmul S m w B j)
  unfolding vmul
  vmul_related m v w A B j h k = sum_related R S Rel keeps m _ _ (λ i b. keeps.rel_mul (h i b) (k i b))

  -- The identity matrices are related.
  pub unit_related : (i j : ℕ) → Rel (unit R i j) (unit S i j)
  unfolding unit
  unit_related zero zero = keeps.rel_one
  unit_related zero (suc j) = keeps.rel_zero
  unit_related (suc i) zero = keeps.rel_zero
  unit_related (suc i) (suc j) = unit_related i j
