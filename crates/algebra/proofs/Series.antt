-- The ring of formal power series over a commutative ring: a series is its coefficients, and the product is the Cauchy product.
--   Series R                 the ring: carrier ℕ → C, pointwise sum, Cauchy product
use Rattle.std.specs.Prelude.{◌≡◌, ◌≢◌}
use Rattle.std.proofs.Math.Path.{refl, sym, ap, ap₂}
use Rattle.std.proofs.Common.{◌∙◌, arith}
use mathlib.Core.HLevel.{→_set}
use Prim.Native.Nat.{ℕ, zero, suc, ◌+◌}
use Rattle.std.proofs.Math.Nat as Nat
use Rattle.algebra.specs.Ring as Ring
use Rattle.algebra.specs.Ring.{CommRing, power}
use Rattle.algebra.specs.Series.{tail, convolve, constant, X, shift, series_ext, convolve_suc_right, convolve_add, convolve_scale, convolve_vanishes}

module _ (R : CommRing) where
  open R use {C, is_set, 𝟘, 𝟙, ◌⊕◌, ◌⊗◌, ⊖◌, add_assoc, add_comm, add_zero, add_neg, mul_assoc, mul_comm, mul_one, mul_add}

  infixl 60 ◌⊕◌
  infixl 70 ◌⊗◌
  infix 80 ⊖◌
  -- The product is commutative.
  pub convolve_comm : (f g : ℕ → C) (n : ℕ) → convolve R f g n ≡ convolve R g f n
  unfolding convolve
  convolve_comm f g zero = mul_comm (f zero) (g zero)
  convolve_comm f g (suc n) =
      ap₂ (λ x y. x ⊕ y) (mul_comm (f zero) (g (suc n))) (convolve_comm (tail R f) g n) ∙ add_comm _ _ ∙ sym (convolve_suc_right R g f n)

  add_convolve : (f g h : ℕ → C) (n : ℕ) → convolve R (λ k. f k ⊕ g k) h n ≡ convolve R f h n ⊕ convolve R g h n
  add_convolve f g h n =
      convolve_comm (λ k. f k ⊕ g k) h n ∙ convolve_add R h f g n ∙ ap₂ (λ x y. x ⊕ y) (convolve_comm h f n) (convolve_comm h g n)

  -- The coefficient n = a + b of a product in which the terms f i · g j with i other than a are 0.
  pub convolve_single : (f g : ℕ → C) (a b n : ℕ) → a + b ≡ n → ((i j : ℕ) → i + j ≡ n → i ≢ a → f i ⊗ g j ≡ 𝟘) → convolve R f g n ≡ f a ⊗ g b
  unfolding convolve
  convolve_single f g zero b zero e h = ap (λ j. f zero ⊗ g j) (sym e ∙ Nat.zero-add b)
  convolve_single f g zero b (suc n) e h =
      ap₂ (λ j y. f zero ⊗ g j ⊕ y) (sym e ∙ Nat.zero-add b)
      (convolve_vanishes R (tail R f) g n (λ i j d. h (suc i) j (Nat.suc-add i j ∙ ap suc d) (Nat.suc-ne-zero i)))
      ∙ add_zero _
  convolve_single f g (suc a) b zero e h = absurd (omega arith)
  convolve_single f g (suc a) b (suc n) e h =
      ap₂ (λ x y. x ⊕ y) (h zero (suc n) (Nat.zero-add (suc n)) (λ d. Nat.suc-ne-zero a (sym d)))
      (convolve_single (tail R f) g a b n (omega arith) (λ i j d ne. h (suc i) j (Nat.suc-add i j ∙ ap suc d) (λ p. ne (Nat.suc_inj p))))
      ∙ Ring.zero_add R _

  -- The product is associative.
  pub convolve_assoc : (f g h : ℕ → C) (n : ℕ) → convolve R (convolve R f g) h n ≡ convolve R f (convolve R g h) n
  unfolding convolve
  convolve_assoc f g h zero = mul_assoc (f zero) (g zero) (h zero)
  convolve_assoc f g h (suc n) =
      ap₂ (λ x y. x ⊕ y) (mul_assoc (f zero) (g zero) (h (suc n))) (spread ∙ ap (λ y. f zero ⊗ convolve R (tail R g) h n ⊕ y) (convolve_assoc (tail R f) g h n))
      ∙ sym (add_assoc _ _ _)
      ∙ ap (λ y. y ⊕ convolve R (tail R f) (convolve R g h) n) (sym (mul_add (f zero) _ _))
    where
      spread : convolve R (λ k. f zero ⊗ g (suc k) ⊕ convolve R (tail R f) g k) h n ≡ f zero ⊗ convolve R (tail R g) h n ⊕ convolve R (convolve R (tail R f) g) h n
      spread =
          add_convolve (λ k. f zero ⊗ g (suc k)) (convolve R (tail R f) g) h n
          ∙ ap (λ y. y ⊕ convolve R (convolve R (tail R f) g) h n) (convolve_scale R (f zero) (tail R g) h n)

  -- The product with a constant is coefficient by coefficient.
  pub constant_mul : (c : C) (f : ℕ → C) (n : ℕ) → convolve R (constant R c) f n ≡ c ⊗ f n
  unfolding convolve constant
  constant_mul c f zero = refl
  constant_mul c f (suc n) = ap (λ y. c ⊗ f (suc n) ⊕ y) (convolve_vanishes R (λ k. 𝟘) f n (λ i j e. Ring.zero_mul R (f j))) ∙ add_zero _

  -- The ring of formal power series.
  abbrev pub Series : CommRing
  Series = record {
    C = ℕ → C;
    is_set = →_set is_set;
    𝟘 = λ n. 𝟘;
    𝟙 = constant R 𝟙;
    ◌⊕◌ = λ f g n. f n ⊕ g n;
    ◌⊗◌ = (convolve R);
    ⊖◌ = λ f n. ⊖ f n;
    add_assoc = λ f g h. series_ext R (λ n. add_assoc (f n) (g n) (h n));
    add_comm = λ f g. series_ext R (λ n. add_comm (f n) (g n));
    add_zero = λ f. series_ext R (λ n. add_zero (f n));
    add_neg = λ f. series_ext R (λ n. add_neg (f n));
    mul_assoc = λ f g h. series_ext R (convolve_assoc f g h);
    mul_comm = λ f g. series_ext R (convolve_comm f g);
    mul_one = λ f. series_ext R (λ n. convolve_comm f (constant R 𝟙) n ∙ constant_mul 𝟙 f n ∙ Ring.one_mul R (f n));
    mul_add = λ f g h. series_ext R (convolve_add R f g h);
  }

module _ (R : CommRing) where
  open R use {C, 𝟘, 𝟙, ◌⊕◌, ◌⊗◌, ⊖◌, add_zero}
  open Series R use {◌⊕◌ as ◌⊞◌, ◌⊗◌ as ◌⊠◌, ⊖◌ as ⊟◌, 𝟘 as 𝟘ₛ, 𝟙 as 𝟙ₛ, mul_assoc as mul_assocₛ}

  infixl 60 ◌⊕◌
  infixl 70 ◌⊗◌
  infix 80 ⊖◌
  infixl 60 ◌⊞◌
  infixl 70 ◌⊠◌
  infix 80 ⊟◌
  -- The constants are a copy of the ring: 0, 1, sums, products and negatives are those of the coefficients.
  pub constant_zero : constant R 𝟘 ≡ 𝟘ₛ
  unfolding constant
  constant_zero = series_ext R (elim [ zero ↦ refl | suc n ↦ refl ])

  -- The constant 1 is the 1 of the ring.
  pub constant_one : constant R 𝟙 ≡ 𝟙ₛ
  constant_one = refl

  -- The constant of a sum.
  pub constant_add : (a b : C) → constant R (a ⊕ b) ≡ constant R a ⊞ constant R b
  unfolding constant
  constant_add a b = series_ext R (elim [ zero ↦ refl | suc n ↦ sym (add_zero 𝟘) ])

  -- The constant of a product.
  pub constant_product : (a b : C) → constant R (a ⊗ b) ≡ constant R a ⊠ constant R b
  unfolding constant
  constant_product a b =
      series_ext R (elim [ zero ↦ sym (constant_mul R a (constant R b) zero) | suc n ↦ sym (constant_mul R a (constant R b) (suc n) ∙ Ring.mul_zero R a) ])

  -- The constant of a negative.
  pub constant_neg : (a : C) → constant R (⊖ a) ≡ ⊟ constant R a
  unfolding constant
  constant_neg a = series_ext R (elim [ zero ↦ refl | suc n ↦ sym (Ring.neg_zero R) ])

  -- The product with X moves every coefficient one place up: nothing stands at 0 …
  pub X_mul_zero : (f : ℕ → C) → (X R ⊠ f) zero ≡ 𝟘
  unfolding convolve X
  X_mul_zero f = Ring.zero_mul R (f zero)

  -- … and at n + 1 what stood at n.
  pub X_mul_suc : (f : ℕ → C) (n : ℕ) → (X R ⊠ f) (suc n) ≡ f n
  unfolding convolve X
  X_mul_suc f n = ap₂ (λ x y. x ⊕ y) (Ring.zero_mul R (f (suc n))) (constant_mul R 𝟙 f n ∙ Ring.one_mul R (f n)) ∙ Ring.zero_add R (f n)

  -- One more step is one more factor X.
  pub shift_suc : (d : ℕ) (f : ℕ → C) → shift R (suc d) f ≡ X R ⊠ shift R d f
  unfolding shift
  shift_suc d f = series_ext R (elim [ zero ↦ sym (X_mul_zero (shift R d f)) | suc n ↦ sym (X_mul_suc (shift R d f) n) ])

  -- The shift by d is the product with X^d.
  pub shift_power : (d : ℕ) (f : ℕ → C) → shift R d f ≡ power (Series R) (X R) d ⊠ f
  unfolding shift power
  shift_power zero f = sym (Ring.one_mul (Series R) f)
  shift_power (suc d) f = shift_suc d f ∙ ap (λ g. X R ⊠ g) (shift_power d f) ∙ sym (mul_assocₛ (X R) (power (Series R) (X R) d) f)
