-- The determinant is alternating, and every alternating function of n rows with n entries is the determinant times its value at the
-- identity. So det(A·B) = det A · det B, since both sides are alternating functions of the rows of A.
--   det_alternating, alternating_unique, det_mul   these three
use Rattle.std.specs.Prelude.{◌≡◌}
use Rattle.std.proofs.Math.Path.{refl, sym, ap, subst, fun_ext}
use Rattle.std.proofs.Common.{◌∙◌, le_of_suc-le-suc, not-suc-le-zero, zero-lt-suc}
use Prim.Native.Nat.{ℕ, zero, suc, ◌<◌, suc-le-suc}
use Rattle.algebra.specs.Ring as Ring
use Rattle.algebra.specs.Ring.{CommRing, sign}
use Rattle.algebra.specs.Sum.{skip, skip_below, sum_cong, sum_mul}
use Rattle.algebra.specs.Matrix.{Row, Matrix, SameRow, cons, cons_eta, unit, vmul, mmul, unit_vmul, vmul_cong, vmul_add, vmul_scale}
use Rattle.algebra.specs.Det.{minor, det, det_local}
use Rattle.algebra.proofs.Det.{det_first_rows}
use Rattle.algebra.specs.Alternating as Alt
use Rattle.algebra.specs.Alternating.{Linear, LinearMap, FirstTwo, Alternating}

module _ (R : CommRing) where
  open R use {C, 𝟘, 𝟙, ◌⊕◌, ◌⊗◌, add_zero, mul_assoc, mul_comm, mul_one}

  infixl 60 ◌⊕◌
  infixl 70 ◌⊗◌
  entry_linear : (N j : ℕ) → j < N → Linear R N (λ r. r j)
  entry_linear N j h = record { local = λ r s e. e j h; additive = λ r s. refl; homogeneous = λ c r. refl }

  skip_linear : (n j : ℕ) → LinearMap R (suc n) n (λ r c. r (skip j c))
  skip_linear n j =
      record {
        map_local = λ r s e c h. e (skip j c) (skip_below n j c h);
        map_additive = λ r s c h. refl;
        map_homogeneous = λ a r c h. refl;
      }

  det_first_two : (n : ℕ) → FirstTwo R n (det R (suc n))
  det_first_two zero = tt
  det_first_two (suc n) = det_first_rows R n

  swap_factors : (s a d : C) → s ⊗ d ⊗ a ≡ s ⊗ a ⊗ d
  swap_factors s a d = mul_assoc s d a ∙ ap (λ x. s ⊗ x) (mul_comm d a) ∙ sym (mul_assoc s a d)

  -- The determinant is alternating.
  pub det_alternating : (n : ℕ) → Alternating R n n (det R n)
  unfolding det cons skip
  det_alternating zero = λ A B. refl
  det_alternating (suc n) = (
    λ A. subst (Linear R (suc n))
        (fun_ext (λ r. sum_cong R (suc n)
        (λ j. sign R j ⊗ det R n (λ a c. A a (skip j c)) ⊗ r j)
        (λ j. sign R j ⊗ r j ⊗ det R n (λ a c. A a (skip j c)))
        (λ j b. swap_factors (sign R j) (r j) (det R n (λ a c. A a (skip j c))))))
        (Alt.linear_combination R (suc n) (suc n) (λ j. sign R j ⊗ det R n (λ a c. A a (skip j c))) (λ j r. r j) (entry_linear (suc n))),
    det_first_two n,
    λ r. Alt.alternating_combination R (suc n) n (suc n) (λ j. sign R j ⊗ r j) (λ j A. det R n (λ a c. A a (skip j c)))
        (λ j b. Alt.alternating_map R (suc n) n n (λ s c. s (skip j c)) (det R n) (skip_linear n j) (det_alternating n)),
  )

  -- The row with 0 at column j and the entries of b in the other columns.
  insert : ℕ → Row R → Row R
  insert zero b zero = 𝟘
  insert zero b (suc c) = b c
  insert (suc j) b zero = b zero
  insert (suc j) b (suc c) = insert j (λ k. b (suc k)) c

  insert_zeros : (j c : ℕ) → insert j (λ k. 𝟘) c ≡ 𝟘
  unfolding insert
  insert_zeros zero zero = refl
  insert_zeros zero (suc c) = refl
  insert_zeros (suc j) zero = refl
  insert_zeros (suc j) (suc c) = insert_zeros j c

  insert_local : (n j : ℕ) (r s : Row R) → j < suc n → SameRow R n r s → SameRow R (suc n) (insert j r) (insert j s)
  unfolding insert
  insert_local n zero r s hj e zero hc = refl
  insert_local n zero r s hj e (suc c) hc = e c (le_of_suc-le-suc hc)
  insert_local zero (suc j) r s hj e c hc = absurd (not-suc-le-zero (le_of_suc-le-suc hj))
  insert_local (suc n) (suc j) r s hj e zero hc = e zero (zero-lt-suc n)
  insert_local (suc n) (suc j) r s hj e (suc c) hc =
      insert_local n j (λ k. r (suc k)) (λ k. s (suc k)) (le_of_suc-le-suc hj) (λ k b. e (suc k) (suc-le-suc b)) c (le_of_suc-le-suc hc)

  insert_add : (j : ℕ) (r s : Row R) (c : ℕ) → insert j (λ k. r k ⊕ s k) c ≡ insert j r c ⊕ insert j s c
  unfolding insert
  insert_add zero r s zero = sym (add_zero 𝟘)
  insert_add zero r s (suc c) = refl
  insert_add (suc j) r s zero = refl
  insert_add (suc j) r s (suc c) = insert_add j (λ k. r (suc k)) (λ k. s (suc k)) c

  insert_scale : (j : ℕ) (a : C) (r : Row R) (c : ℕ) → insert j (λ k. a ⊗ r k) c ≡ a ⊗ insert j r c
  unfolding insert
  insert_scale zero a r zero = sym (Ring.mul_zero R a)
  insert_scale zero a r (suc c) = refl
  insert_scale (suc j) a r zero = refl
  insert_scale (suc j) a r (suc c) = insert_scale j a (λ k. r (suc k)) c

  insert_linear : (n j : ℕ) → j < suc n → LinearMap R n (suc n) (insert j)
  insert_linear n j h =
      record {
        map_local = λ r s e. insert_local n j r s h e;
        map_additive = λ r s c b. insert_add j r s c;
        map_homogeneous = λ a r c b. insert_scale j a r c;
      }

  -- A row is its entry at j times the unit row there and the rest.
  insert_split : (j : ℕ) (b : Row R) (c : ℕ) → insert j (λ k. b (skip j k)) c ⊕ b j ⊗ unit R j c ≡ b c
  unfolding insert skip unit
  insert_split zero b zero = Ring.zero_add R (b zero ⊗ 𝟙) ∙ mul_one (b zero)
  insert_split zero b (suc c) = ap (λ x. b (suc c) ⊕ x) (Ring.mul_zero R (b zero)) ∙ add_zero (b (suc c))
  insert_split (suc j) b zero = ap (λ x. b zero ⊕ x) (Ring.mul_zero R (b (suc j))) ∙ add_zero (b zero)
  insert_split (suc j) b (suc c) = insert_split j (λ k. b (suc k)) c

  insert_unit : (j i c : ℕ) → insert j (unit R i) c ≡ unit R (skip j i) c
  unfolding insert skip unit
  insert_unit zero i zero = refl
  insert_unit zero i (suc c) = refl
  insert_unit (suc j) zero zero = refl
  insert_unit (suc j) zero (suc c) = insert_zeros j c
  insert_unit (suc j) (suc i) zero = refl
  insert_unit (suc j) (suc i) (suc c) = insert_unit j i c

  gather : (s a d u : C) → a ⊗ (d ⊗ (s ⊗ u)) ≡ s ⊗ a ⊗ d ⊗ u
  gather s a d u = simp (mul_assoc, Ring.mul_left_comm R)

  -- Below the unit row at j, what stands in column j does not count.
  alternating_below_unit : (N n : ℕ) (D : Matrix R → C) → Alternating R N (suc n) D → (A : Matrix R) (j : ℕ)
      → D (cons (unit R j) A) ≡ D (cons (unit R j) (λ i. insert j (λ k. A i (skip j k))))
  alternating_below_unit N n D alt A j =
      ap (λ M. D (cons (unit R j) M)) (fun_ext (λ i. fun_ext (λ c. sym (insert_split j (A i) c))))
      ∙ Alt.alternating_clear R N n D alt (unit R j) (λ i. A i j) (λ i. insert j (λ k. A i (skip j k)))

  -- The unit row at j above the other unit rows, in their order.
  alternating_units : (N n : ℕ) (D : Matrix R → C) → Alternating R N (suc n) D → (j : ℕ) → j < suc n
      → D (cons (unit R j) (λ i. insert j (unit R i))) ≡ sign R j ⊗ D (unit R)
  alternating_units N n D alt j h =
      ap (λ M. D (cons (unit R j) M)) (fun_ext (λ i. fun_ext (λ c. insert_unit j i c))) ∙ Alt.alternating_front R N n D alt (unit R) j h

  -- An alternating function of n rows with n entries is the determinant times its value at the identity.
  pub alternating_unique : (n : ℕ) (D : Matrix R → C) → Alternating R n n D → (A : Matrix R) → D A ≡ det R n A ⊗ D (unit R)
  unfolding det skip
  alternating_unique zero D alt A = alt A (unit R) ∙ sym (Ring.one_mul R (D (unit R)))
  alternating_unique (suc n) D alt A =
      ap D (sym (cons_eta A))
      ∙ Alt.linear_expand R (suc n) (λ r. D (cons r (λ i. A (suc i)))) (alt.0 (λ i. A (suc i))) (A zero)
      ∙ sum_cong R (suc n) (λ j. A zero j ⊗ D (cons (unit R j) (λ i. A (suc i)))) (λ j. sign R j ⊗ A zero j ⊗ det R n (minor zero j A) ⊗ D (unit R))
      (λ j h. ap (λ x. A zero j ⊗ x)
      (alternating_below_unit (suc n) n D alt (λ i. A (suc i)) j
      ∙ alternating_unique n (λ M. D (cons (unit R j) (λ i. insert j (M i))))
      (Alt.alternating_map R n (suc n) n (insert j) (λ M. D (cons (unit R j) M)) (insert_linear n j h) (alt.2 (unit R j)))
      (minor zero j A)
      ∙ ap (λ x. det R n (minor zero j A) ⊗ x) (alternating_units (suc n) n D alt j h))
      ∙ gather (sign R j) (A zero j) (det R n (minor zero j A)) (D (unit R)))
      ∙ sym (sum_mul R (suc n) (λ j. sign R j ⊗ A zero j ⊗ det R n (minor zero j A)) (D (unit R)))

  row_times_linear : (n : ℕ) (B : Matrix R) → LinearMap R n n (λ r. vmul R n r B)
  row_times_linear n B =
      record {
        map_local = λ r s e j b. vmul_cong R n r s B B j e (λ i b. refl);
        map_additive = λ r s j b. vmul_add R n r s B j;
        map_homogeneous = λ c r j b. vmul_scale R n c r B j;
      }

  -- The product rule: det(A·B) = det A · det B.
  pub det_mul : (n : ℕ) (A B : Matrix R) → det R n (mmul R n A B) ≡ det R n A ⊗ det R n B
  unfolding mmul
  det_mul n A B =
      alternating_unique n (λ M. det R n (λ i. vmul R n (M i) B))
      (Alt.alternating_map R n n n (λ r. vmul R n r B) (det R n) (row_times_linear n B) (det_alternating n)) A
      ∙ ap (λ x. det R n A ⊗ x) (det_local R n (λ i. vmul R n (unit R i) B) B (λ i j hi hj. unit_vmul R n i B hi j))
