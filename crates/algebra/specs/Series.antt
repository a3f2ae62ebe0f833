-- The ring of formal power series over a commutative ring: a series is its coefficients, and the product is the Cauchy product.
--   series_ext               two series with the same coefficients are the same
--   tail f                   the coefficients from 1 on
--   convolve f g             the product, by recursion on the coefficient
--   constant c, X            the series c and the variable
--   shift d f                X^d · f
use Rattle.std.specs.Prelude.{◌≡◌}
use Rattle.std.proofs.Math.Path.{refl, sym, ap, ap₂, fun_ext}
use Rattle.std.proofs.Common.{◌∙◌, le_of_suc-le-suc, not-suc-le-zero}
use Prim.Native.Nat.{ℕ, zero, suc, ◌+◌, ◌-◌, ◌<◌}
use Rattle.std.proofs.Math.Nat as Nat
use Rattle.algebra.specs.Ring.{CommRing}
use Rattle.algebra.specs.Sum.{sum}

module _ (R : CommRing) where
  open R use {C, is_set, 𝟘, 𝟙, ◌⊕◌, ◌⊗◌, ⊖◌, add_assoc, add_comm, add_zero, add_neg, mul_assoc, mul_comm, mul_one, mul_add}

  infixl 60 ◌⊕◌
  infixl 70 ◌⊗◌
  infix 80 ⊖◌
  -- The coefficients from 1 on.
  abbrev pub tail : (ℕ → C) → ℕ → C
  tail f n = f (suc n)

  -- The coefficients of the product.
  unfoldable pub convolve : (ℕ → C) → (ℕ → C) → ℕ → C
  convolve f g zero = f zero ⊗ g zero
  convolve f g (suc n) = f zero ⊗ g (suc n) ⊕ convolve (tail f) g n

  -- The series c.
  unfoldable pub constant : C → ℕ → C
  constant c zero = c
  constant c (suc n) = 𝟘

  -- The variable.
  unfoldable pub X : ℕ → C
  X zero = 𝟘
  X (suc n) = constant 𝟙 n

  -- The series X^d · f: zero below d, then the coefficients of f.
  unfoldable pub shift : ℕ → (ℕ → C) → ℕ → C
  shift zero f n = f n
  shift (suc d) f zero = 𝟘
  shift (suc d) f (suc n) = shift d f n

  -- Two series with the same coefficients are the same.
  pub series_ext : {f g : ℕ → C} → ((n : ℕ) → f n ≡ g n) → f ≡ g
  series_ext h = fun_ext h

  -- The product by its last coefficients in place of its first.
  pub convolve_suc_right : (f g : ℕ → C) (n : ℕ) → convolve f g (suc n) ≡ convolve f (tail g) n ⊕ f (suc n) ⊗ g zero
  unfolding convolve
  convolve_suc_right f g zero = refl
  convolve_suc_right f g (suc n) = ap (λ y. f zero ⊗ g (suc (suc n)) ⊕ y) (convolve_suc_right (tail f) g n) ∙ sym (add_assoc _ _ _)

  -- The product distributes over sums.
  pub convolve_add : (f g h : ℕ → C) (n : ℕ) → convolve f (λ k. g k ⊕ h k) n ≡ convolve f g n ⊕ convolve f h n
  unfolding convolve
  convolve_add f g h zero = mul_add (f zero) (g zero) (h zero)
  convolve_add f g h (suc n) =
      ap₂ (λ x y. x ⊕ y) (mul_add (f zero) (g (suc n)) (h (suc n))) (convolve_add (tail f) g h n) ∙ simp (add_assoc, add_comm)

  -- A factor comes out of the product.
  pub convolve_scale : (c : C) (f g : ℕ → C) (n : ℕ) → convolve (λ k. c ⊗ f k) g n ≡ c ⊗ convolve f g n
  unfolding convolve
  convolve_scale c f g zero = mul_assoc c (f zero) (g zero)
  convolve_scale c f g (suc n) =
      ap₂ (λ x y. x ⊕ y) (mul_assoc c (f zero) (g (suc n))) (convolve_scale c (tail f) g n) ∙ sym (mul_add c _ _)

  -- A product in which every term f i · g j of the coefficient is 0.
  pub convolve_vanishes : (f g : ℕ → C) (n : ℕ) → ((i j : ℕ) → i + j ≡ n → f i ⊗ g j ≡ 𝟘) → convolve f g n ≡ 𝟘
  unfolding convolve
  convolve_vanishes f g zero h = h zero zero refl
  convolve_vanishes f g (suc n) h =
      ap₂ (λ x y. x ⊕ y) (h zero (suc n) (Nat.zero-add (suc n))) (convolve_vanishes (tail f) g n (λ i j e. h (suc i) j (Nat.suc-add i j ∙ ap suc e)))
      ∙ add_zero 𝟘

  -- The coefficient n of a product is the sum of f i · g (n − i) over the i up to n.
  pub convolve_sum : (f g : ℕ → C) (n : ℕ) → convolve f g n ≡ sum R (suc n) (λ i. f i ⊗ g (n - i))
  unfolding convolve sum
  convolve_sum f g zero = sym (add_zero _)
  convolve_sum f g (suc n) =
      ap₂ (λ x y. x ⊕ y) (ap (λ k. f zero ⊗ g k) (sym (Nat.sub-zero (suc n))))
      (convolve_sum (tail f) g n ∙ ap (λ t. sum R (suc n) t) (fun_ext (λ i. ap (λ k. f (suc i) ⊗ g k) (sym (Nat.suc-sub-suc n i)))))

module _ (R : CommRing) where
  open R use {C, 𝟘, 𝟙, ◌⊕◌, ◌⊗◌, ⊖◌, add_zero}

  infixl 60 ◌⊕◌
  infixl 70 ◌⊗◌
  infix 80 ⊖◌
  -- The shift has no coefficient below d …
  pub shift_below : (d : ℕ) (f : ℕ → C) (k : ℕ) → k < d → shift R d f k ≡ 𝟘
  unfolding shift
  shift_below zero f k h = absurd (not-suc-le-zero h)
  shift_below (suc d) f zero h = refl
  shift_below (suc d) f (suc k) h = shift_below d f k (le_of_suc-le-suc h)

  -- … and from d on those of f.
  pub shift_above : (d : ℕ) (f : ℕ → C) (k : ℕ) → shift R d f (d + k) ≡ f k
  unfolding shift
  shift_above zero f k = ap f (Nat.zero-add k)
  shift_above (suc d) f k = ap (shift R (suc d) f) (Nat.suc-add d k) ∙ shift_above d f k
