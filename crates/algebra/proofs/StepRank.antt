-- After a step the product with F vanishes below the orders that it raises, and the rows of [P(0) C] are independent again.
--   vmul_zeros, vmul_sum     a row of constants times a column of zeros, and times a sum of matrices
--   next_below               the entries are at most one coefficient longer
--   next_vanishes            the product
--   next_full_rank           the rank
use Rattle.std.specs.Prelude.{◌≡◌, Bool, ℤ}
use Rattle.std.proofs.Math.Path.{refl, sym, ap, ap₂}
use Rattle.std.proofs.Common.{subst, ◌∙◌, le_refl, le_of_lt, le_of_suc-le-suc, arith}
use Rattle.std.proofs.Math.Bool.{true, false}
use Prim.Native.Nat.{ℕ, zero, suc, ◌+◌, ◌≤◌, ◌<◌, zero-le}
use Rattle.std.proofs.Math.Nat.{add-zero as nat_add_zero}
use Rattle.std.proofs.Math.Numerals.{add-one}
use Rattle.std.proofs.Math.Decide.{dec_lt}
use Rattle.algebra.specs.Ring as Ring
use Rattle.algebra.specs.Ring.{CommRing}
use Rattle.algebra.specs.Sum.{sum, sum_cong, sum_zero, sum_add}
use Rattle.algebra.specs.Series.{shift}
use Rattle.algebra.proofs.Series.{Series}
use Rattle.algebra.specs.Polynomial.{Below}
use Rattle.algebra.specs.Matrix.{Row, Matrix, beside, unit, vmul, mmul, vmul_unit, unit_vmul, vmul_add, vmul_zero, vmul_assoc}
use Rattle.algebra.specs.Dependence.{Combines, Independent, combines_beside}
use Rattle.algebra.proofs.OrderBasis.{Vanishes}
use Rattle.algebra.specs.Clearing.{vmul_neg, less}
use Rattle.algebra.specs.Step.{once, cleared, next, Choice}
use Rattle.algebra.proofs.Step.{residuals, next_product}

-- A step raises by 1 at most.
once_most : (b : Bool) → once b ≤ 1
once_most true = le_refl 1
once_most false = zero-le

module _ (R : CommRing) where
  open R use {C, 𝟘, ◌⊕◌, ◌⊗◌, ⊖◌, add_zero, add_neg}

  infixl 60 ◌⊕◌
  infixl 70 ◌⊗◌
  infix 80 ⊖◌
  -- A row of constants times a column of zeros, and times a sum of matrices.
  pub vmul_zeros : (m : ℕ) (v : Row R) (A : Matrix R) (j : ℕ) → ((i : ℕ) → i < m → A i j ≡ 𝟘) → vmul R m v A j ≡ 𝟘
  unfolding vmul
  vmul_zeros m v A j zeros = sum_zero R m (λ i. v i ⊗ A i j) (λ i hi. ap (λ x. v i ⊗ x) (zeros i hi) ∙ Ring.mul_zero R (v i))

  pub vmul_sum : (m : ℕ) (v : Row R) (A B : Matrix R) (j : ℕ) → vmul R m v (λ i j. A i j ⊕ B i j) j ≡ vmul R m v A j ⊕ vmul R m v B j
  unfolding vmul
  vmul_sum m v A B j =
      sum_cong R m (λ i. v i ⊗ (A i j ⊕ B i j)) (λ i. v i ⊗ A i j ⊕ v i ⊗ B i j) (λ i hi. R.mul_add (v i) (A i j) (B i j))
      ∙ sum_add R m (λ i. v i ⊗ A i j) (λ i. v i ⊗ B i j)

  -- Where M has zeros in a column at a power, so has M less w·M.
  cleared_zero : (m : ℕ) (w : Matrix R) (M : Matrix (Series R)) (i j k : ℕ) → i < m → ((q : ℕ) → q < m → M q j k ≡ 𝟘) → cleared R m w M i j k ≡ 𝟘
  unfolding cleared
  cleared_zero m w M i j k hi zeros = ap₂ (λ x y. x ⊕ ⊖ y) (zeros i hi) (vmul_zeros m (w i) (λ q j. M q j k) j zeros) ∙ add_neg 𝟘

  -- A step makes the entries at most one coefficient longer.
  pub next_below : (m : ℕ) (pivot : ℕ → Bool) (w : Matrix R) (M : Matrix (Series R)) (d j : ℕ) → ((i : ℕ) → i < m → Below R d (M i j))
      → (i : ℕ) → i < m → Below R (suc d) (next R m pivot w M i j)
  unfolding next shift
  next_below m pivot w M d j below i hi = by (pivot i)
    where
      by : (p : Bool) → Below R (suc d) (shift R (once p) (cleared R m w M i j))
      by true zero h = refl
      by true (suc k) h = cleared_zero m w M i j k hi (λ q hq. below q hq k (le_of_suc-le-suc h))
      by false k h = cleared_zero m w M i j k hi (λ q hq. below q hq k (le_of_lt h))

  -- A row of constants times M less w·M, for any matrix of constants.
  vmul_less : (m : ℕ) (u : Row R) (w M : Matrix R) (j : ℕ) → vmul R m (vmul R m u (less R w)) M j ≡ sum R m (λ i. u i ⊗ (M i j ⊕ ⊖ vmul R m (w i) M j))
  unfolding mmul less vmul
  vmul_less m u w M j =
      vmul_assoc R m m u (less R w) M j
      ∙ sum_cong R m (λ i. u i ⊗ vmul R m (less R w i) M j) (λ i. u i ⊗ (M i j ⊕ ⊖ vmul R m (w i) M j))
      (λ i hi. ap (λ x. u i ⊗ x)
      (vmul_add R m (unit R i) (λ q. ⊖ w i q) M j ∙ ap₂ (λ x y. x ⊕ y) (unit_vmul R m i M hi j) (vmul_neg R m (w i) M j)))

  -- The constants of the rows that are no pivots.
  keep : Bool → C → C
  keep true x = 𝟘
  keep false x = x

  module _ (m n : ℕ) (F : Matrix (Series R)) (e : ℕ → ℕ) (r : ℕ → ℤ) (P : Matrix (Series R)) (active pivot : ℕ → Bool) (w : Matrix R)
      (vanishes : (i : ℕ) → i < m → Vanishes R m n F e (P i)) (choice : Choice R m n active r (residuals R m F e P) pivot w)
    where
      -- The product.
      abbrev Q : Matrix (Series R)
      Q = mmul (Series R) m P F

      -- Below the orders the product less w times it is 0, …
      low : (i j k : ℕ) → i < m → j < n → k < e j → cleared R m w Q i j k ≡ 𝟘
      unfolding mmul
      low i j k hi hj hk = cleared_zero m w Q i j k hi (λ q hq. vanishes q hq j k hj hk)

      -- … and at the order it is 0 in the active columns for a row that is no pivot.
      clean_at : (i j : ℕ) → i < m → j < n → pivot i ≡ false → active j ≡ true → cleared R m w Q i j (e j) ≡ 𝟘
      unfolding mmul cleared vmul
      clean_at i j hi hj p a = choice.clean i j hi hj p a

      -- What stands below a pivot's place moved up.
      pivot_low : (i j k : ℕ) → i < m → j < n → pivot i ≡ true → k < suc (e j) → next R m pivot w Q i j k ≡ 𝟘
      unfolding next shift
      pivot_low i j k hi hj p hk = ap (λ b. shift R (once b) (cleared R m w Q i j) k) p ∙ at k hk
        where
          at : (k : ℕ) → k < suc (e j) → shift R 1 (cleared R m w Q i j) k ≡ 𝟘
          at zero h = refl
          at (suc k) h = low i j k hi hj (le_of_suc-le-suc h)

      other_next : (i j k : ℕ) → pivot i ≡ false → next R m pivot w Q i j k ≡ cleared R m w Q i j k
      unfolding next shift
      other_next i j k p = ap (λ b. shift R (once b) (cleared R m w Q i j) k) p

      -- The product of the next matrix vanishes below the next orders.
      pub next_vanishes : (i : ℕ) → i < m → Vanishes R m n F (λ j. e j + once (active j)) (next R m pivot w P i)
      next_vanishes i hi j k hj hk = ap (λ f. f k) (next_product R m pivot w P F i j hi) ∙ by (pivot i) refl (active j) refl (dec_lt k (e j))
        where
          by : (p : Bool) → pivot i ≡ p → (a : Bool) → active j ≡ a → Dec (k < e j) → next R m pivot w Q i j k ≡ 𝟘
          by true p a q d = pivot_low i j k hi hj p (omega (arith, once_most a, subst (λ a. k < e j + once a) q hk))
          by false p a q (yes l) = other_next i j k p ∙ low i j k hi hj l
          by false p true q (no nl) =
              let here : k ≡ e j = omega (arith, subst (λ a. k < e j + once a) q hk) in
              other_next i j k p ∙ ap (cleared R m w Q i j) here ∙ clean_at i j hi hj p q
          by false p false q (no nl) = absurd (omega (arith, subst (λ a. k < e j + once a) q hk))

      -- The rank: where u combines the next rows to zero, …
      module _ (u : Row R) (at_zero : Combines R m m (λ i j. next R m pivot w P i j zero) u)
          (at_order : Combines R m n (residuals R m F (λ j. e j + once (active j)) (next R m pivot w P)) u)
        where
          u° : Row R
          u° i = keep (pivot i) (u i)

          v : Row R
          v = vmul R m u° (less R w)

          -- … v combines the rows of P(0) …
          v_zero : Combines R m m (λ i j. P i j zero) v
          unfolding v u° next cleared shift keep vmul
          v_zero j hj = vmul_less m u° w (λ i j. P i j zero) j ∙ sum_cong R m _ _ (λ i hi. by i (pivot i) refl) ∙ at_zero j hj
            where
              by : (i : ℕ) (p : Bool) → pivot i ≡ p → keep (pivot i) (u i) ⊗ cleared R m w P i j zero ≡ u i ⊗ next R m pivot w P i j zero
              by i true p =
                  ap (λ b. keep b (u i) ⊗ cleared R m w P i j zero) p
                  ∙ Ring.zero_mul R (cleared R m w P i j zero)
                  ∙ sym (ap (λ b. u i ⊗ shift R (once b) (cleared R m w P i j) zero) p ∙ Ring.mul_zero R (u i))
              by i false p =
                  ap (λ b. keep b (u i) ⊗ cleared R m w P i j zero) p
                  ∙ sym (ap (λ b. u i ⊗ shift R (once b) (cleared R m w P i j) zero) p)

          -- … and those of the residuals, …
          v_residual : (j : ℕ) → j < n → (a : Bool) → active j ≡ a → sum R m (λ i. u° i ⊗ cleared R m w Q i j (e j)) ≡ 𝟘
          unfolding u° keep vmul
          v_residual j hj true a = sum_zero R m _ (λ i hi. by i hi (pivot i) refl)
            where
              by : (i : ℕ) → i < m → (p : Bool) → pivot i ≡ p → keep (pivot i) (u i) ⊗ cleared R m w Q i j (e j) ≡ 𝟘
              by i hi true p = ap (λ b. keep b (u i) ⊗ cleared R m w Q i j (e j)) p ∙ Ring.zero_mul R (cleared R m w Q i j (e j))
              by i hi false p = ap (λ x. u° i ⊗ x) (clean_at i j hi hj p a) ∙ Ring.mul_zero R (u° i)
          v_residual j hj false a = sum_cong R m _ _ (λ i hi. by i hi (pivot i) refl) ∙ at_order j hj
            where
              order : e j + once (active j) ≡ e j
              order = ap (λ a. e j + once a) a ∙ nat_add_zero (e j)

              by : (i : ℕ) → i < m → (p : Bool) → pivot i ≡ p
                  → keep (pivot i) (u i) ⊗ cleared R m w Q i j (e j) ≡ u i ⊗ residuals R m F (λ j. e j + once (active j)) (next R m pivot w P) i j
              by i hi p q = by' p q ∙ ap (λ x. u i ⊗ x) (sym (ap₂ (λ f k. f k) (next_product R m pivot w P F i j hi) order))
                where
                  by' : (p : Bool) → pivot i ≡ p → keep (pivot i) (u i) ⊗ cleared R m w Q i j (e j) ≡ u i ⊗ next R m pivot w Q i j (e j)
                  by' true p =
                      ap (λ b. keep b (u i) ⊗ cleared R m w Q i j (e j)) p
                      ∙ Ring.zero_mul R (cleared R m w Q i j (e j))
                      ∙ sym (ap (λ x. u i ⊗ x) (pivot_low i j (e j) hi hj p (omega arith)) ∙ Ring.mul_zero R (u i))
                  by' false p = ap₂ (λ b x. keep b (u i) ⊗ x) p (sym (other_next i j (e j) p))

          v_zero_at_order : Combines R m n (residuals R m F e P) v
          unfolding v cleared mmul vmul
          v_zero_at_order j hj = vmul_less m u° w (residuals R m F e P) j ∙ v_residual j hj (active j) refl

          -- … so that v is 0, and u in the rows that are no pivots; …
          others_zero : Independent R m (m + n) (beside m (λ i j. P i j zero) (residuals R m F e P)) → (i : ℕ) → i < m → pivot i ≡ false → u i ≡ 𝟘
          unfolding Independent v u° keep less vmul
          others_zero full i hi p =
              sym (ap (λ b. keep b (u i)) p)
              ∙ sym (vmul_unit R m u° i hi)
              ∙ sum_cong R m (λ k. u° k ⊗ unit R k i) (λ k. u° k ⊗ less R w k i)
              (λ k hk. ap (λ x. u° k ⊗ x)
              (sym (ap (λ x. unit R k i ⊕ ⊖ x) (choice.clears.pivots_alone k i hk hi p) ∙ ap (λ x. unit R k i ⊕ x) (Ring.neg_zero R) ∙ add_zero (unit R k i))))
              ∙ full v ((combines_beside R m m n (λ i j. P i j zero) (residuals R m F e P) v).1 (v_zero, v_zero_at_order)) i hi

          -- … and in the active columns u combines the residuals of the pivots.
          pivots_combined : ((i : ℕ) → i < m → pivot i ≡ false → u i ≡ 𝟘) → (j : ℕ) → j < n → active j ≡ true → vmul R m u (residuals R m F e P) j ≡ 𝟘
          unfolding vmul mmul next cleared shift
          pivots_combined others j hj a = sum_cong R m _ _ (λ i hi. by i hi (pivot i) refl) ∙ at_order j hj
            where
              order : e j + once (active j) ≡ suc (e j)
              order = ap (λ a. e j + once a) a ∙ add-one (e j)

              by : (i : ℕ) → i < m → (p : Bool) → pivot i ≡ p
                  → u i ⊗ residuals R m F e P i j ≡ u i ⊗ residuals R m F (λ j. e j + once (active j)) (next R m pivot w P) i j
              by i hi true p =
                  ap (λ x. u i ⊗ x)
                  (sym (ap₂ (λ f k. f k) (next_product R m pivot w P F i j hi) order
                  ∙ ap (λ b. shift R (once b) (cleared R m w Q i j) (suc (e j))) p
                  ∙ ap (λ x. Q i j (e j) ⊕ ⊖ x) (vmul_zero R m (w i) (λ q j. Q q j (e j)) j (λ q hq. choice.clears.pivots_stay i q hi hq p))
                  ∙ ap (λ x. Q i j (e j) ⊕ x) (Ring.neg_zero R)
                  ∙ add_zero (Q i j (e j))))
              by i hi false p = ap₂ (λ x y. x ⊗ y) (others i hi p) refl ∙ Ring.zero_mul R _ ∙ sym (ap₂ (λ x y. x ⊗ y) (others i hi p) refl ∙ Ring.zero_mul R _)

      -- So u is 0: the rows of [P(0) C] are independent after the step as before.
      pub next_full_rank : Independent R m (m + n) (beside m (λ i j. P i j zero) (residuals R m F e P))
          → Independent R m (m + n) (beside m (λ i j. next R m pivot w P i j zero) (residuals R m F (λ j. e j + once (active j)) (next R m pivot w P)))
      unfolding Independent
      next_full_rank full u combines =
          let (at_zero, at_order) =
          (combines_beside R m m n (λ i j. next R m pivot w P i j zero) (residuals R m F (λ j. e j + once (active j)) (next R m pivot w P)) u).0 combines in
          let others : (i : ℕ) → i < m → pivot i ≡ false → u i ≡ 𝟘 = others_zero u at_zero at_order full in
          choice.independent u others (pivots_combined u at_zero at_order others)
