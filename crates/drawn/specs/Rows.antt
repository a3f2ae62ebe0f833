-- Rows that are combined before the product, and the value of a combined row that is cut, in any commutative ring.
--   ev_sum                   the value of a sum of series
--   rows_first               rows of products combined: the rows of the first factors may be combined first
--   cut_value                the value of combined rows, less a number of each row at the last power
use Rattle.std.specs.Prelude.{◌≡◌, refl}
use Rattle.std.proofs.Common.{sym, ◌∙◌}
use Rattle.std.proofs.Math.Path.{ap, ap₂}
use Prim.Native.Nat.{ℕ, zero, suc, ◌<◌}
use Rattle.algebra.specs.Ring as Ring
use Rattle.algebra.specs.Ring.{CommRing, power}
use Rattle.algebra.specs.Sum.{sum, sum_cong, sum_add, sum_last, sum_swap, mul_sum, neg_sum}
use Rattle.algebra.specs.Series.{convolve, convolve_add, convolve_scale, convolve_vanishes}
use Rattle.algebra.proofs.Series.{convolve_comm}
use Rattle.algebra.specs.Evaluation.{ev, ev_vanishes, ev_powers}
use Rattle.algebra.proofs.Evaluation.{ev_add}

module _ (R : CommRing) where
  open R use {C, 𝟘, ◌⊕◌, ◌⊗◌, ⊖◌, add_assoc, mul_comm, mul_add}

  infixl 60 ◌⊕◌
  infixl 70 ◌⊗◌
  infix 80 ⊖◌
  pub ev_sum : (d m : ℕ) (a : C) (f : ℕ → ℕ → C) → ev R d a (λ k. sum R m (λ l. f l k)) ≡ sum R m (λ l. ev R d a (f l))
  unfolding sum
  ev_sum d zero a f = ev_vanishes R d a (λ k. 𝟘) (λ k. refl)
  ev_sum d (suc m) a f =
      ev_add R d a (f zero) (λ k. sum R m (λ l. f (suc l) k)) ∙ ap (λ x. ev R d a (f zero) ⊕ x) (ev_sum d m a (λ l. f (suc l)))

  -- A product with a combination is the combination of the products.
  combined_product : (m : ℕ) (u : ℕ → C) (g : ℕ → ℕ → C) (f : ℕ → C) (k : ℕ)
      → convolve R f (λ t. sum R m (λ i. u i ⊗ g i t)) k ≡ sum R m (λ i. u i ⊗ convolve R (g i) f k)
  unfolding sum
  combined_product zero u g f k = convolve_vanishes R f (λ t. 𝟘) k (λ i j e. Ring.mul_zero R (f i))
  combined_product (suc m) u g f k =
      convolve_add R f (λ t. u zero ⊗ g zero t) (λ t. sum R m (λ i. u (suc i) ⊗ g (suc i) t)) k
      ∙ ap₂ (λ x y. x ⊕ y) (convolve_comm R f (λ t. u zero ⊗ g zero t) k ∙ convolve_scale R (u zero) (g zero) f k)
      (combined_product m (λ i. u (suc i)) (λ i. g (suc i)) f k)

  pub rows_first : (m n : ℕ) (u : ℕ → C) (g : ℕ → ℕ → ℕ → C) (f : ℕ → ℕ → C) (k : ℕ)
      → sum R m (λ i. u i ⊗ sum R n (λ l. convolve R (g i l) (f l) k)) ≡ sum R n (λ l. convolve R (f l) (λ t. sum R m (λ i. u i ⊗ g i l t)) k)
  rows_first m n u g f k =
      sum_cong R m (λ i. u i ⊗ sum R n (λ l. convolve R (g i l) (f l) k)) (λ i. sum R n (λ l. u i ⊗ convolve R (g i l) (f l) k))
      (λ i h. mul_sum R n (u i) (λ l. convolve R (g i l) (f l) k))
      ∙ sum_swap R m n (λ i l. u i ⊗ convolve R (g i l) (f l) k)
      ∙ sum_cong R n (λ l. sum R m (λ i. u i ⊗ convolve R (g i l) (f l) k)) (λ l. convolve R (f l) (λ t. sum R m (λ i. u i ⊗ g i l t)) k)
      (λ l h. sym (combined_product m u (λ i. g i l) (f l) k))

  -- The terms of a combination at one power, less those of e.
  less : (m : ℕ) (u w e : ℕ → C) → sum R m (λ i. u i ⊗ (w i ⊕ ⊖ e i)) ≡ sum R m (λ i. u i ⊗ w i) ⊕ ⊖ sum R m (λ i. u i ⊗ e i)
  less m u w e =
      sum_cong R m (λ i. u i ⊗ (w i ⊕ ⊖ e i)) (λ i. u i ⊗ w i ⊕ ⊖ (u i ⊗ e i))
      (λ i h. mul_add (u i) (w i) (⊖ e i) ∙ ap (λ x. u i ⊗ w i ⊕ x) (Ring.mul_neg R (u i) (e i)))
      ∙ sum_add R m (λ i. u i ⊗ w i) (λ i. ⊖ (u i ⊗ e i))
      ∙ ap (λ x. sum R m (λ i. u i ⊗ w i) ⊕ x) (sym (neg_sum R m (λ i. u i ⊗ e i)))

  pub cut_value : (m d : ℕ) (a : C) (u e : ℕ → C) (w v : ℕ → ℕ → C)
      → ((i k : ℕ) → i < m → k < d → v i k ≡ w i k) → ((i : ℕ) → i < m → v i d ≡ w i d ⊕ ⊖ e i)
      → sum R (suc d) (λ k. sum R m (λ i. u i ⊗ v i k) ⊗ power R a k)
      ≡ ev R (suc d) a (λ k. sum R m (λ i. u i ⊗ w i k)) ⊕ ⊖ (power R a d ⊗ sum R m (λ i. u i ⊗ e i))
  cut_value m d a u e w v low at =
      sum_last R d (term v)
      ∙ ap₂ (λ x y. x ⊕ y ⊗ power R a d) (sum_cong R d (term v) (term w) below)
      (sum_cong R m (λ i. u i ⊗ v i d) (λ i. u i ⊗ (w i d ⊕ ⊖ e i)) (λ i h. ap (λ x. u i ⊗ x) (at i h)) ∙ less m u (λ i. w i d) e)
      ∙ ap (λ x. sum R d (term w) ⊕ x)
      (Ring.add_mul R (row w d) (⊖ row_e) (power R a d)
      ∙ ap (λ x. term w d ⊕ x) (Ring.neg_mul R row_e (power R a d) ∙ ap (λ x. ⊖ x) (mul_comm row_e (power R a d))))
      ∙ sym (add_assoc (sum R d (term w)) (term w d) (⊖ (power R a d ⊗ row_e)))
      ∙ ap (λ x. x ⊕ ⊖ (power R a d ⊗ row_e)) (sym (sum_last R d (term w)) ∙ sym (ev_powers R (suc d) a (row w)))
    where
      row : (ℕ → ℕ → C) → ℕ → C
      row w k = sum R m (λ i. u i ⊗ w i k)

      term : (ℕ → ℕ → C) → ℕ → C
      term w k = row w k ⊗ power R a k

      row_e : C
      row_e = sum R m (λ i. u i ⊗ e i)

      below : (k : ℕ) → k < d → term v k ≡ term w k
      below k h =
          ap (λ x. x ⊗ power R a k) (sum_cong R m (λ i. u i ⊗ v i k) (λ i. u i ⊗ w i k) (λ i hi. ap (λ x. u i ⊗ x) (low i k hi h)))
