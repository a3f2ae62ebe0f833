-- Alternating functions of the rows of a matrix: what follows for every function that is linear in each row and 0 where two
-- neighbouring rows are equal.
--   Linear N D               D is a linear function of the first N entries of a row
--   LinearMap N N' L         L takes rows with N entries to rows with N' entries, linearly
--   Alternating N n D        D is a function of n rows with N entries, linear in each, 0 where two neighbours are equal
use Rattle.std.specs.Prelude.{◌≡◌}
use Rattle.std.proofs.Math.Path.{refl, sym, ap, ap₂, fun_ext}
use Rattle.std.proofs.Common.{subst, ◌∙◌, le_of_suc-le-suc, not-suc-le-zero}
use Prim.Native.Nat.{ℕ, zero, suc, ◌<◌}
use Rattle.algebra.specs.Ring as Ring
use Rattle.algebra.specs.Ring.{CommRing, sign}
use Rattle.algebra.specs.Sum.{skip, sum, sum_cong, sum_zero, sum_add, mul_sum}
use Rattle.algebra.specs.Matrix.{Row, Matrix, SameRow, cons, cons_eta, unit, vmul, vmul_unit}

module _ (R : CommRing) where
  open R use {C, 𝟘, ◌⊕◌, ◌⊗◌, ⊖◌, add_zero, mul_add}

  infixl 60 ◌⊕◌
  infixl 70 ◌⊗◌
  infix 80 ⊖◌
  -- D is a linear function of the first N entries of a row.
  pub record Linear (N : ℕ) (D : Row R → C) : Type 0 where
    pub local : (r s : Row R) → SameRow R N r s → D r ≡ D s
    pub additive : (r s : Row R) → D (λ j. r j ⊕ s j) ≡ D r ⊕ D s
    pub homogeneous : (c : C) (r : Row R) → D (λ j. c ⊗ r j) ≡ c ⊗ D r

  -- L takes rows with N entries to rows with N' entries, linearly.
  pub record LinearMap (N N' : ℕ) (L : Row R → Row R) : Type 0 where
    pub map_local : (r s : Row R) → SameRow R N r s → SameRow R N' (L r) (L s)
    pub map_additive : (r s : Row R) → SameRow R N' (L (λ j. r j ⊕ s j)) (λ j. L r j ⊕ L s j)
    pub map_homogeneous : (c : C) (r : Row R) → SameRow R N' (L (λ j. c ⊗ r j)) (λ j. c ⊗ L r j)

  -- D is 0 where the first two of its rows are equal, if it has two.
  abbrev pub FirstTwo : ℕ → (Matrix R → C) → Type 0
  FirstTwo zero D = Unit {0}
  FirstTwo (suc n) D = (r : Row R) (A : Matrix R) → D (cons r (cons r A)) ≡ 𝟘

  -- D is a function of the first n rows, linear in each, and 0 where two neighbours are equal.
  abbrev pub Alternating : ℕ → ℕ → (Matrix R → C) → Type 0
  Alternating N zero D = (A B : Matrix R) → D A ≡ D B
  Alternating N (suc n) D =
      ((A : Matrix R) → Linear N (λ r. D (cons r A))) × FirstTwo n D × ((r : Row R) → Alternating N n (λ A. D (cons r A)))

  -- A linear function of no row is 0, and of a combination of rows it is the combination.
  linear_zero : (N : ℕ) (D : Row R → C) → Linear N D → D (λ j. 𝟘) ≡ 𝟘
  linear_zero N D lin =
      lin.local (λ j. 𝟘) (λ j. 𝟘 ⊗ 𝟘) (λ j b. sym (mul_zero𝟘)) ∙ lin.homogeneous 𝟘 (λ j. 𝟘) ∙ Ring.zero_mul R (D (λ j. 𝟘))
    where
      mul_zero𝟘 : 𝟘 ⊗ 𝟘 ≡ 𝟘
      mul_zero𝟘 = Ring.zero_mul R 𝟘

  -- A linear function of a combination of rows is the combination of its values.
  pub linear_sum : (N : ℕ) (D : Row R → C) → Linear N D → (m : ℕ) (v : Row R) (A : Matrix R)
      → D (vmul R m v A) ≡ sum R m (λ i. v i ⊗ D (A i))
  unfolding vmul sum
  linear_sum N D lin zero v A = linear_zero N D lin
  linear_sum N D lin (suc m) v A =
      lin.additive (λ j. v zero ⊗ A zero j) (λ j. sum R m (λ i. v (suc i) ⊗ A (suc i) j))
      ∙ ap₂ (λ x y. x ⊕ y) (lin.homogeneous (v zero) (A zero)) (linear_sum N D lin m (λ i. v (suc i)) (λ i. A (suc i)))

  -- A linear function is the sum of the entries times its values at the unit rows.
  pub linear_expand : (N : ℕ) (D : Row R → C) → Linear N D → (r : Row R) → D r ≡ sum R N (λ j. r j ⊗ D (unit R j))
  linear_expand N D lin r =
      lin.local r (vmul R N r (unit R)) (λ j b. sym (vmul_unit R N r j b)) ∙ linear_sum N D lin N r (unit R)

  -- Two neighbouring rows that change places change the sign.
  pub alternating_swap : (N n : ℕ) (D : Matrix R → C) → Alternating N (suc (suc n)) D → (r s : Row R) (A : Matrix R)
      → D (cons r (cons s A)) ≡ ⊖ D (cons s (cons r A))
  alternating_swap N n D alt r s A =
      Ring.neg_unique R (D (cons r (cons s A))) (D (cons s (cons r A)))
      (sym ((alt.0 (cons t A)).additive r s
      ∙ ap₂ (λ x y. x ⊕ y)
      (((alt.2 r).0 A).additive r s ∙ ap (λ x. x ⊕ D (cons r (cons s A))) (alt.1 r A) ∙ Ring.zero_add R (D (cons r (cons s A))))
      (((alt.2 s).0 A).additive r s ∙ ap (λ x. D (cons s (cons r A)) ⊕ x) (alt.1 s A) ∙ add_zero (D (cons s (cons r A)))))
      ∙ alt.1 t A)
    where
      t : Row R
      t j = r j ⊕ s j

  -- A first row that stands again below makes the function 0.
  pub alternating_twice : (N n : ℕ) (D : Matrix R → C) → Alternating N (suc n) D → (A : Matrix R) (i : ℕ) → i < n
      → D (cons (A i) A) ≡ 𝟘
  alternating_twice N zero D alt A i h = absurd (not-suc-le-zero h)
  alternating_twice N (suc n) D alt A zero h = ap (λ B. D (cons (A zero) B)) (sym (cons_eta A)) ∙ alt.1 (A zero) (λ i. A (suc i))
  alternating_twice N (suc n) D alt A (suc i) h =
      ap (λ B. D (cons (A (suc i)) B)) (sym (cons_eta A))
      ∙ alternating_swap N n D alt (A (suc i)) (A zero) (λ i. A (suc i))
      ∙ ap (λ x. ⊖ x) (alternating_twice N n (λ B. D (cons (A zero) B)) (alt.2 (A zero)) (λ i. A (suc i)) i (le_of_suc-le-suc h))
      ∙ Ring.neg_zero R

  -- Multiples of the first row may be added to the rows below.
  pub alternating_clear : (N n : ℕ) (D : Matrix R → C) → Alternating N (suc n) D → (r c : Row R) (A : Matrix R)
      → D (cons r (λ i j. A i j ⊕ c i ⊗ r j)) ≡ D (cons r A)
  alternating_clear N zero D alt r c A = alt.2 r (λ i j. A i j ⊕ c i ⊗ r j) A
  alternating_clear N (suc n) D alt r c A =
      ap (λ M. D (cons r M)) (sym (cons_eta B))
      ∙ alternating_swap N n D alt r (B zero) (λ i. B (suc i))
      ∙ ap (λ x. ⊖ x) (alternating_clear N n (λ M. D (cons (B zero) M)) (alt.2 (B zero)) r (λ i. c (suc i)) (λ i. A (suc i)))
      ∙ sym (alternating_swap N n D alt r (B zero) (λ i. A (suc i)))
      ∙ ((alt.2 r).0 (λ i. A (suc i))).additive (A zero) (λ j. c zero ⊗ r j)
      ∙ ap₂ (λ x y. x ⊕ y) (ap (λ M. D (cons r M)) (cons_eta A))
      (((alt.2 r).0 (λ i. A (suc i))).homogeneous (c zero) r
      ∙ ap (λ x. c zero ⊗ x) (alt.1 r (λ i. A (suc i)))
      ∙ Ring.mul_zero R (c zero))
      ∙ add_zero (D (cons r A))
    where
      B : Matrix R
      B i j = A i j ⊕ c i ⊗ r j

  -- The row j moved to the front, the others in their order: the sign is (−1)^j.
  pub alternating_front : (N n : ℕ) (D : Matrix R → C) → Alternating N (suc n) D → (A : Matrix R) (j : ℕ) → j < suc n
      → D (cons (A j) (λ i. A (skip j i))) ≡ sign R j ⊗ D A
  unfolding skip sign
  alternating_front N n D alt A zero h = ap D (cons_eta A) ∙ sym (Ring.one_mul R (D A))
  alternating_front N zero D alt A (suc j) h = absurd (not-suc-le-zero (le_of_suc-le-suc h))
  alternating_front N (suc n) D alt A (suc j) h =
      ap (λ M. D (cons (A (suc j)) M)) (sym (cons_eta (λ i. A (skip (suc j) i))))
      ∙ alternating_swap N n D alt (A (suc j)) (A zero) (λ i. A (suc (skip j i)))
      ∙ ap (λ x. ⊖ x) (alternating_front N n (λ M. D (cons (A zero) M)) (alt.2 (A zero)) (λ i. A (suc i)) j (le_of_suc-le-suc h))
      ∙ sym (Ring.neg_mul R (sign R j) (D (cons (A zero) (λ i. A (suc i)))))
      ∙ ap (λ M. ⊖ sign R j ⊗ D M) (cons_eta A)

  -- A linear function of the image of a linear map is linear.
  linear_map : (N N' : ℕ) (L : Row R → Row R) (D : Row R → C) → LinearMap N N' L → Linear N' D → Linear N (λ r. D (L r))
  linear_map N N' L D map lin =
      record {
        local = λ r s e. lin.local (L r) (L s) (map.map_local r s e);
        additive = λ r s. lin.local (L (λ j. r j ⊕ s j)) (λ j. L r j ⊕ L s j) (map.map_additive r s) ∙ lin.additive (L r) (L s);
        homogeneous = λ c r. lin.local (L (λ j. c ⊗ r j)) (λ j. c ⊗ L r j) (map.map_homogeneous c r) ∙ lin.homogeneous c (L r);
      }

  cons_map : (L : Row R → Row R) (r : Row R) (A : Matrix R) → ◌≡◌ {A = Matrix R} (cons (L r) (λ i. L (A i))) (λ i. L (cons r A i))
  unfolding cons
  cons_map L r A = fun_ext (λ i. elim i as (λ k. cons (L r) (λ j. L (A j)) k ≡ L (cons r A k)) [ zero ↦ refl | suc k ↦ refl ])

  first_two_map : (n : ℕ) (L : Row R → Row R) (D : Matrix R → C) → FirstTwo n D → FirstTwo n (λ A. D (λ i. L (A i)))
  first_two_map zero L D h = tt
  first_two_map (suc n) L D h = λ r A.
      ap D (sym (cons_map L r (cons r A)) ∙ ap (λ M. cons (L r) M) (sym (cons_map L r A))) ∙ h (L r) (λ i. L (A i))

  -- An alternating function of the images of the rows under a linear map is alternating.
  pub alternating_map : (N N' n : ℕ) (L : Row R → Row R) (D : Matrix R → C) → LinearMap N N' L → Alternating N' n D
      → Alternating N n (λ A. D (λ i. L (A i)))
  alternating_map N N' zero L D map alt = λ A B. alt (λ i. L (A i)) (λ i. L (B i))
  alternating_map N N' (suc n) L D map alt = (
    λ A. subst (Linear N) (fun_ext (λ r. ap D (cons_map L r A))) (linear_map N N' L (λ r. D (cons r (λ i. L (A i)))) map (alt.0 (λ i. L (A i)))),
    first_two_map n L D alt.1,
    λ r. subst (Alternating N n) (fun_ext (λ A. ap D (cons_map L r A))) (alternating_map N N' n L (λ A. D (cons (L r) A)) map (alt.2 (L r))),
  )

  -- Combinations of linear functions are linear.
  pub linear_combination : (N k : ℕ) (c : ℕ → C) (D : ℕ → Row R → C) → ((j : ℕ) → j < k → Linear N (D j)) → Linear N (λ r. sum R k (λ j. c j ⊗ D j r))
  linear_combination N k c D lin =
      record {
        local = λ r s e. sum_cong R k (λ j. c j ⊗ D j r) (λ j. c j ⊗ D j s) (λ j b. ap (λ x. c j ⊗ x) ((lin j b).local r s e));
        additive = λ r s.
            sum_cong R k (λ j. c j ⊗ D j (λ i. r i ⊕ s i)) (λ j. c j ⊗ D j r ⊕ c j ⊗ D j s)
            (λ j b. ap (λ x. c j ⊗ x) ((lin j b).additive r s) ∙ mul_add (c j) (D j r) (D j s))
            ∙ sum_add R k (λ j. c j ⊗ D j r) (λ j. c j ⊗ D j s);
        homogeneous = λ a r.
            sum_cong R k (λ j. c j ⊗ D j (λ i. a ⊗ r i)) (λ j. a ⊗ (c j ⊗ D j r))
            (λ j b. ap (λ x. c j ⊗ x) ((lin j b).homogeneous a r) ∙ Ring.mul_left_comm R (c j) a (D j r))
            ∙ sym (mul_sum R k a (λ j. c j ⊗ D j r));
      }

  first_two_combination : (n k : ℕ) (c : ℕ → C) (D : ℕ → Matrix R → C) → ((j : ℕ) → j < k → FirstTwo n (D j)) → FirstTwo n (λ A. sum R k (λ j. c j ⊗ D j A))
  first_two_combination zero k c D h = tt
  first_two_combination (suc n) k c D h = λ r A.
      sum_zero R k (λ j. c j ⊗ D j (cons r (cons r A))) (λ j b. ap (λ x. c j ⊗ x) (h j b r A) ∙ Ring.mul_zero R (c j))

  -- Combinations of alternating functions are alternating.
  pub alternating_combination : (N n k : ℕ) (c : ℕ → C) (D : ℕ → Matrix R → C) → ((j : ℕ) → j < k → Alternating N n (D j))
      → Alternating N n (λ A. sum R k (λ j. c j ⊗ D j A))
  alternating_combination N zero k c D alt =
      λ A B. sum_cong R k (λ j. c j ⊗ D j A) (λ j. c j ⊗ D j B) (λ j b. ap (λ x. c j ⊗ x) (alt j b A B))
  alternating_combination N (suc n) k c D alt = (
    λ A. linear_combination N k c (λ j r. D j (cons r A)) (λ j b. (alt j b).0 A),
    first_two_combination n k c D (λ j b. (alt j b).1),
    λ r. alternating_combination N n k c (λ j A. D j (cons r A)) (λ j b. (alt j b).2 r),
  )
