-- The value of a polynomial at a point.
--   ev d a f                 the value at a of f, of which d is a bound, by Horner's rule
--   value a f                the value of a polynomial
--   ev_powers                it is the sum of the coefficients times the powers of the point
--   Evaluates a f y          f has a bound, and y is its value at a
use Rattle.std.specs.Prelude.{◌≡◌}
use Rattle.std.proofs.Math.Path.{refl, sym, ap, ap₂}
use Rattle.std.proofs.Common.{◌∙◌}
use Prim.Native.Nat.{ℕ, zero, suc, zero-le}
use Rattle.algebra.specs.Ring as Ring
use Rattle.algebra.specs.Ring.{CommRing, Decides, Cancels, RingRelation, power}
use Rattle.algebra.specs.Sum.{sum, sum_cong, mul_sum}
use Rattle.algebra.specs.Series.{tail}
use Rattle.algebra.specs.Polynomial.{Below, Poly}

module _ (R : CommRing) where
  open R use {C, 𝟘, 𝟙, ◌⊕◌, ◌⊗◌, ⊖◌, add_assoc, add_comm, add_zero, mul_assoc, mul_one, mul_add}

  infixl 60 ◌⊕◌
  infixl 70 ◌⊗◌
  infix 80 ⊖◌
  -- The value at a of the coefficients below d.
  unfoldable pub ev : ℕ → C → (ℕ → C) → C
  ev zero a f = 𝟘
  ev (suc d) a f = f zero ⊕ a ⊗ ev d a (tail R f)

  -- The value of a polynomial at a.
  abbrev pub value : C → Poly R → C
  value a f = ev f.bound a f.series

  -- The series f has a bound, and y is its value at a.
  abbrev pub Evaluates : C → (ℕ → C) → C → Type 0
  Evaluates a f y = (d : ℕ) × (Below R d f) × (ev d a f ≡ y)

  -- A series whose coefficients are 0 has the value 0.
  pub ev_vanishes : (d : ℕ) (a : C) (f : ℕ → C) → ((k : ℕ) → f k ≡ 𝟘) → ev d a f ≡ 𝟘
  unfolding ev
  ev_vanishes zero a f h = refl
  ev_vanishes (suc d) a f h = ap₂ (λ x y. x ⊕ a ⊗ y) (h zero) (ev_vanishes d a (tail R f) (λ k. h (suc k))) ∙ Ring.zero_add R (a ⊗ 𝟘) ∙ Ring.mul_zero R a

  -- A factor comes out of the value.
  pub ev_scale : (d : ℕ) (a c : C) (f : ℕ → C) → ev d a (λ k. c ⊗ f k) ≡ c ⊗ ev d a f
  unfolding ev
  ev_scale zero a c f = sym (Ring.mul_zero R c)
  ev_scale (suc d) a c f =
      ap (λ y. c ⊗ f zero ⊕ a ⊗ y) (ev_scale d a c (tail R f))
      ∙ ap (λ y. c ⊗ f zero ⊕ y) (Ring.mul_left_comm R a c _)
      ∙ sym (mul_add c _ _)

  -- The value is the sum of the f k · aᵏ.
  pub ev_powers : (d : ℕ) (a : C) (f : ℕ → C) → ev d a f ≡ sum R d (λ k. f k ⊗ power R a k)
  unfolding ev sum power
  ev_powers zero a f = refl
  ev_powers (suc d) a f =
      ap₂ (λ x y. x ⊕ y) (sym (mul_one (f zero)))
      (ap (λ y. a ⊗ y) (ev_powers d a (tail R f))
      ∙ mul_sum R d a (λ k. f (suc k) ⊗ power R a k)
      ∙ sum_cong R d (λ k. a ⊗ (f (suc k) ⊗ power R a k)) (λ k. f (suc k) ⊗ (a ⊗ power R a k)) (λ k b. Ring.mul_left_comm R a (f (suc k)) (power R a k)))

  -- A polynomial evaluates to its value.
  pub evaluates_value : (a : C) (f : Poly R) → Evaluates a f.series (value a f)
  evaluates_value a f = (f.bound, f.below, refl)

  -- The value at 0 is the coefficient at 0.
  pub evaluates_at_zero : (f : ℕ → C) {y : C} → Evaluates 𝟘 f y → y ≡ f zero
  unfolding ev
  evaluates_at_zero f (zero, h, p) = sym p ∙ sym (h zero zero-le)
  evaluates_at_zero f (suc d, h, p) = sym p ∙ ap (λ y. f zero ⊕ y) (Ring.zero_mul R _) ∙ add_zero (f zero)
