-- Dependent and independent rows of a matrix with m rows and n columns.
--   Dependent m n A          some constants, not all 0, combine the rows to zero
--   Independent m n A        only zeros do
-- Elimination: exchanging two rows and adding multiples of the first row to the others keep dependence, and so does leaving out a
-- column of zeros, or the first row and column where that column is 0 below a first entry that is not.
use Rattle.std.specs.Prelude.{◌≡◌, refl, ◌≢◌, ◌⊎◌, ◌↔◌, [], ◌∷◌}
use Rattle.std.proofs.Math.Path.{sym, ap, fun_ext}
use Rattle.std.proofs.Common.{subst, ◌∙◌, inl, inr, le_of_suc-le-suc, add-sub_of_le, arith}
use Prim.Native.Nat.{ℕ, zero, suc, ◌+◌, ◌-◌, ◌<◌, suc-le-suc}
use Rattle.std.proofs.Math.Nat.{not-suc-le-zero, zero-lt-suc}
use Rattle.std.proofs.Math.Decide.{dec_lt}
use Rattle.algebra.specs.Ring as Ring
use Rattle.algebra.specs.Ring.{CommRing, Decides, Cancels, Nontrivial}
use Rattle.algebra.specs.Solver.{v0, v1, v2, v3, ◌⊞◌, ◌⊠◌, ⊟◌, ring}
use Rattle.algebra.specs.Sum.{sum, sum_cong, sum_zero, sum_add, sum_mul, zeros_or_not, swap, swap_below, swap_twice, exchange, sum_exchange}
use Rattle.algebra.specs.Matrix.{Row, Matrix, Same, cons, beside, beside_left, beside_right, vmul, vmul_cong}

module _ (R : CommRing) where
  open R use {C, 𝟘, 𝟙, ◌⊕◌, ◌⊗◌, ⊖◌, add_zero, mul_comm}

  infixl 60 ◌⊕◌
  infixl 70 ◌⊗◌
  infix 80 ⊖◌
  -- One of the first m entries is not 0.
  abbrev pub NotAllZero : ℕ → Row R → Type 0
  NotAllZero m u = (i : ℕ) × (i < m) × (u i ≢ 𝟘)

  -- u combines the first m rows to zero, in the first n columns.
  abbrev pub Combines : ℕ → ℕ → Matrix R → Row R → Type 0
  Combines m n A u = (j : ℕ) → j < n → vmul R m u A j ≡ 𝟘

  -- Some constants, not all 0, combine the rows to zero.
  unfoldable pub Dependent : ℕ → ℕ → Matrix R → Type 0
  Dependent m n A = (u : Row R) × NotAllZero m u × Combines m n A u

  -- Only zeros combine the rows to zero.
  unfoldable pub Independent : ℕ → ℕ → Matrix R → Type 0
  Independent m n A = (u : Row R) → Combines m n A u → (i : ℕ) → i < m → u i ≡ 𝟘

  -- What combines the rows of two matrices beside each other to zero combines those of each.
  pub combines_beside : (k m n : ℕ) (A B : Matrix R) (u : Row R) → Combines k (m + n) (beside m A B) u ↔ (Combines k m A u × Combines k n B u)
  unfolding vmul
  combines_beside k m n A B u = (
    λ c. (λ j h. sym (left j h) ∙ c j (omega arith), λ j h. sym (right j) ∙ c (m + j) (omega arith)),
    λ (a, b) j h. column a b j h (dec_lt j m),
  )
    where
      left : (j : ℕ) → j < m → vmul R k u (beside m A B) j ≡ vmul R k u A j
      left j h = vmul_cong R k u u (beside m A B) A j (λ i b. refl) (λ i b. beside_left m A B i j h)

      right : (j : ℕ) → vmul R k u (beside m A B) (m + j) ≡ vmul R k u B j
      right j = sum_cong R k (λ i. u i ⊗ beside m A B i (m + j)) (λ i. u i ⊗ B i j) (λ i b. ap (λ x. u i ⊗ x) (beside_right m A B i j))

      column : Combines k m A u → Combines k n B u → (j : ℕ) → j < m + n → Dec (j < m) → vmul R k u (beside m A B) j ≡ 𝟘
      column a b j h (yes l) = left j l ∙ a j l
      column a b j h (no nl) = ap (vmul R k u (beside m A B)) (sym (add-sub_of_le {n = j} {m = m} (omega arith))) ∙ right (j - m) ∙ b (j - m) (omega arith)

  combines_local : (m n : ℕ) (A B : Matrix R) (u : Row R) → Same R m n A B → Combines m n A u → Combines m n B u
  combines_local m n A B u same c j h = sym (vmul_cong R m u u A B j (λ i b. refl) (λ i b. same i j b h)) ∙ c j h

  -- Dependence is a matter of the first m rows and n columns alone …
  pub dependent_local : (m n : ℕ) (A B : Matrix R) → Same R m n A B → Dependent m n A → Dependent m n B
  unfolding Dependent
  dependent_local m n A B same (u, ne, c) = (u, ne, combines_local m n A B u same c)

  -- … and so is independence.
  pub independent_local : (m n : ℕ) (A B : Matrix R) → Same R m n A B → Independent m n A → Independent m n B
  unfolding Independent
  independent_local m n A B same ind u c = ind u (combines_local m n B A u (λ i j hi hj. sym (same i j hi hj)) c)

  -- Independent rows are not dependent.
  pub independent_not_dependent : (m n : ℕ) (A : Matrix R) → Independent m n A → ¬ Dependent m n A
  unfolding Dependent Independent
  independent_not_dependent m n A ind (u, (i, h, ne), c) = ne (ind u c i h)

  -- Where it can be told what is 0, not dependent means independent.
  pub not_dependent_independent : Decides R → (m n : ℕ) (A : Matrix R) → ¬ Dependent m n A → Independent m n A
  unfolding Dependent Independent
  not_dependent_independent decides m n A no_dep u c i h = elim (decides (u i)) [ yes z ↦ z | no ne ↦ absurd (no_dep (u, (i, h, ne), c)) ]

  -- Dependence passes from B to A where combining B is combining A by other constants, not all 0 if the first ones were not.
  transfer : (m n : ℕ) (A B : Matrix R) (T : Row R → Row R)
      → ((u : Row R) → NotAllZero m u → NotAllZero m (T u))
      → ((u : Row R) (j : ℕ) → vmul R m u B j ≡ vmul R m (T u) A j)
      → Dependent m n B → Dependent m n A
  unfolding Dependent
  transfer m n A B T nz same (u, ne, c) = (T u, nz u ne, λ j h. sym (same u j) ∙ c j h)

  -- No rows are dependent …
  pub no_rows : (n : ℕ) (A : Matrix R) → ¬ Dependent zero n A
  unfolding Dependent
  no_rows n A (u, (i, h, ne), c) = not-suc-le-zero h

  -- … and rows with no entries are.
  pub no_columns : Nontrivial R → (m : ℕ) (A : Matrix R) → Dependent (suc m) zero A
  unfolding Dependent
  no_columns nontrivial m A = ((λ i. 𝟙), (zero, zero-lt-suc m, nontrivial), λ j h. absurd (not-suc-le-zero h))

  -- A first column of zeros does not count.
  pub zero_column : (m n : ℕ) (A : Matrix R) → ((i : ℕ) → i < m → A i zero ≡ 𝟘) → Dependent m (suc n) A ↔ Dependent m n (λ i j. A i (suc j))
  unfolding Dependent vmul
  zero_column m n A z = (
    λ (u, ne, c). (u, ne, λ j h. c (suc j) (suc-le-suc h)),
    λ (u, ne, c). (u, ne, columns u c),
  )
    where
      columns : (u : Row R) → Combines m n (λ i j. A i (suc j)) u → Combines m (suc n) A u
      columns u c zero h = sum_zero R m (λ i. u i ⊗ A i zero) (λ i b. ap (λ x. u i ⊗ x) (z i b) ∙ Ring.mul_zero R (u i))
      columns u c (suc j) h = c j (le_of_suc-le-suc h)

  -- Where the first column is 0 below a first entry that is not, the first row and column do not count.
  pub pivot : Cancels R → (m n : ℕ) (A : Matrix R) → A zero zero ≢ 𝟘 → ((i : ℕ) → i < m → A (suc i) zero ≡ 𝟘)
      → Dependent (suc m) (suc n) A ↔ Dependent m n (λ i j. A (suc i) (suc j))
  unfolding Dependent vmul sum cons
  pivot cancels m n A p z = (
    λ (u, ne, c).
        let first = first_zero u (c zero (zero-lt-suc n)) in
        ((λ i. u (suc i)), later u first ne, λ j h. without u first j (c (suc j) (suc-le-suc h))),
    λ (u, (i, h, ne), c). (cons 𝟘 u, (suc i, suc-le-suc h, ne), columns u c),
  )
    where
      below : (u : Row R) → sum R m (λ i. u (suc i) ⊗ A (suc i) zero) ≡ 𝟘
      below u = sum_zero R m (λ i. u (suc i) ⊗ A (suc i) zero) (λ i b. ap (λ x. u (suc i) ⊗ x) (z i b) ∙ Ring.mul_zero R (u (suc i)))

      first_zero : (u : Row R) → u zero ⊗ A zero zero ⊕ sum R m (λ i. u (suc i) ⊗ A (suc i) zero) ≡ 𝟘 → u zero ≡ 𝟘
      first_zero u e =
          cancels (A zero zero) (u zero) p
          (mul_comm (A zero zero) (u zero)
          ∙ sym (add_zero (u zero ⊗ A zero zero))
          ∙ ap (λ x. u zero ⊗ A zero zero ⊕ x) (sym (below u))
          ∙ e)

      later : (u : Row R) → u zero ≡ 𝟘 → NotAllZero (suc m) u → NotAllZero m (λ i. u (suc i))
      later u e (zero, h, ne) = absurd (ne e)
      later u e (suc i, h, ne) = (i, le_of_suc-le-suc h, ne)

      without : (u : Row R) → u zero ≡ 𝟘 → (j : ℕ) → u zero ⊗ A zero (suc j) ⊕ sum R m (λ i. u (suc i) ⊗ A (suc i) (suc j)) ≡ 𝟘
          → sum R m (λ i. u (suc i) ⊗ A (suc i) (suc j)) ≡ 𝟘
      without u e j h =
          sym (Ring.zero_add R (sum R m (λ i. u (suc i) ⊗ A (suc i) (suc j))))
          ∙ ap (λ x. x ⊕ sum R m (λ i. u (suc i) ⊗ A (suc i) (suc j))) (sym (ap (λ x. x ⊗ A zero (suc j)) e ∙ Ring.zero_mul R (A zero (suc j))))
          ∙ h

      columns : (u : Row R) → Combines m n (λ i j. A (suc i) (suc j)) u → Combines (suc m) (suc n) A (cons 𝟘 u)
      columns u c zero h =
          ap (λ x. x ⊕ sum R m (λ i. u i ⊗ A (suc i) zero)) (Ring.zero_mul R (A zero zero))
          ∙ Ring.zero_add R (sum R m (λ i. u i ⊗ A (suc i) zero))
          ∙ below (cons 𝟘 u)
      columns u c (suc j) h =
          ap (λ x. x ⊕ sum R m (λ i. u i ⊗ A (suc i) (suc j))) (Ring.zero_mul R (A zero (suc j)))
          ∙ Ring.zero_add R (sum R m (λ i. u i ⊗ A (suc i) (suc j)))
          ∙ c j (le_of_suc-le-suc h)

  dependent_exchanged : (m n i k : ℕ) (A : Matrix R) → i < m → k < m → Dependent m n (exchange i k A) → Dependent m n A
  unfolding vmul
  dependent_exchanged m n i k A hi hk =
      transfer m n A (exchange i k A) (exchange i k)
      (λ u (a, h, ne). (swap i k a, swap_below m i k a hi hk h, λ z. ne (ap u (sym (swap_twice i k a)) ∙ z)))
      (λ u j. sum_cong R m (λ a. u a ⊗ A (swap i k a) j) (λ a. u (swap i k (swap i k a)) ⊗ A (swap i k a) j)
      (λ a b. ap (λ c. u c ⊗ A (swap i k a) j) (sym (swap_twice i k a)))
      ∙ sum_exchange R m i k (λ a. u (swap i k a) ⊗ A a j) hi hk)

  -- Exchanging two rows keeps dependence.
  pub dependent_exchange : (m n i k : ℕ) (A : Matrix R) → i < m → k < m → Dependent m n (exchange i k A) ↔ Dependent m n A
  dependent_exchange m n i k A hi hk = (
    dependent_exchanged m n i k A hi hk,
    λ d. dependent_exchanged m n i k (exchange i k A) hi hk (subst (Dependent m n) (fun_ext (λ a. ap A (sym (swap_twice i k a)))) d),
  )

  dependent_cleared : Decides R → (m n : ℕ) (r c : Row R) (A : Matrix R)
      → Dependent (suc m) n (cons r (λ i j. A i j ⊕ c i ⊗ r j)) → Dependent (suc m) n (cons r A)
  unfolding vmul sum cons
  dependent_cleared decides m n r c A =
      transfer (suc m) n (cons r A) (cons r (λ i j. A i j ⊕ c i ⊗ r j)) (λ u. cons (u zero ⊕ extra u) (λ i. u (suc i)))
      (λ u ne. kept u ne (zeros_or_not R decides m (λ i. u (suc i))))
      (λ u j. ap (λ x. u zero ⊗ r j ⊕ x)
      (sum_cong R m (λ i. u (suc i) ⊗ (A i j ⊕ c i ⊗ r j)) (λ i. u (suc i) ⊗ A i j ⊕ u (suc i) ⊗ c i ⊗ r j)
      (λ i b. ring R (u (suc i) ∷ A i j ∷ c i ∷ r j ∷ []) (v0 ⊠ (v1 ⊞ v2 ⊠ v3)) (v0 ⊠ v1 ⊞ v0 ⊠ v2 ⊠ v3) refl)
      ∙ sum_add R m (λ i. u (suc i) ⊗ A i j) (λ i. u (suc i) ⊗ c i ⊗ r j)
      ∙ ap (λ x. sum R m (λ i. u (suc i) ⊗ A i j) ⊕ x) (sym (sum_mul R m (λ i. u (suc i) ⊗ c i) (r j))))
      ∙ ring R (u zero ∷ r j ∷ sum R m (λ i. u (suc i) ⊗ A i j) ∷ extra u ∷ []) (v0 ⊠ v1 ⊞ (v2 ⊞ v3 ⊠ v1)) ((v0 ⊞ v3) ⊠ v1 ⊞ v2) refl)
    where
      extra : Row R → C
      extra u = sum R m (λ i. u (suc i) ⊗ c i)

      kept : (u : Row R) → NotAllZero (suc m) u → ((i : ℕ) → i < m → u (suc i) ≡ 𝟘) ⊎ NotAllZero m (λ i. u (suc i))
          → NotAllZero (suc m) (cons (u zero ⊕ extra u) (λ i. u (suc i)))
      kept u ne (inr (i, h, nz)) = (suc i, suc-le-suc h, nz)
      kept u (suc i, h, nz) (inl z) = absurd (nz (z i (le_of_suc-le-suc h)))
      kept u (zero, h, nz) (inl z) = (
        zero,
        zero-lt-suc m,
        λ e. nz (sym (add_zero (u zero))
            ∙ ap (λ x. u zero ⊕ x) (sym (sum_zero R m (λ i. u (suc i) ⊗ c i) (λ i b. ap (λ x. x ⊗ c i) (z i b) ∙ Ring.zero_mul R (c i))))
            ∙ e),
      )

  -- Adding multiples of the first row to the others keeps dependence.
  pub dependent_clear : Decides R → (m n : ℕ) (r c : Row R) (A : Matrix R)
      → Dependent (suc m) n (cons r (λ i j. A i j ⊕ c i ⊗ r j)) ↔ Dependent (suc m) n (cons r A)
  dependent_clear decides m n r c A = (
    dependent_cleared decides m n r c A,
    λ d. dependent_cleared decides m n r (λ i. ⊖ c i) (λ i j. A i j ⊕ c i ⊗ r j)
        (subst (λ M. Dependent (suc m) n (cons r M))
        (fun_ext (λ i. fun_ext (λ j. ring R (A i j ∷ c i ∷ r j ∷ []) v0 (v0 ⊞ v1 ⊠ v2 ⊞ ⊟ v1 ⊠ v2) refl))) d),
  )
