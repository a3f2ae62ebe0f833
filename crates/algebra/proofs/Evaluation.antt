-- The value of a polynomial at a point.
--   evaluation               every operation of the ring keeps values
--   root_of_factor           a root of a product is a root of a factor
use Rattle.std.specs.Prelude.{◌≡◌, ◌⊎◌}
use Rattle.std.proofs.Math.Path.{refl, sym, ap, ap₂}
use Rattle.std.proofs.Common.{◌∙◌, le_of_suc-le-suc, not-suc-le-zero, arith}
use Prim.Native.Nat.{ℕ, zero, suc, ◌+◌, ◌≤◌, max, zero-le, suc-le-suc}
use Rattle.std.proofs.Math.Nat as Nat
use Rattle.std.proofs.Math.Nat.{le-max_left, le-max_right}
use Rattle.algebra.specs.Ring as Ring
use Rattle.algebra.specs.Ring.{CommRing, Decides, Cancels, RingRelation, power}
use Rattle.algebra.specs.Series.{tail, convolve, convolve_vanishes, constant, X}
use Rattle.algebra.proofs.Series.{Series}
use Rattle.algebra.specs.Polynomial.{Below, below_mono, below_constant, below_X, Poly}
use Rattle.algebra.proofs.Polynomial.{below_zero, below_add, below_neg, below_mul}
use Rattle.algebra.specs.Evaluation.{ev, value, Evaluates, ev_vanishes, ev_scale, evaluates_value}

module _ (R : CommRing) where
  open R use {C, 𝟘, 𝟙, ◌⊕◌, ◌⊗◌, ⊖◌, add_assoc, add_comm, add_zero, mul_assoc, mul_one, mul_add}
  open Series R use {◌⊕◌ as ◌⊞◌, ◌⊗◌ as ◌⊠◌, ⊖◌ as ⊟◌}

  infixl 60 ◌⊕◌
  infixl 70 ◌⊗◌
  infix 80 ⊖◌
  infixl 60 ◌⊞◌
  infixl 70 ◌⊠◌
  infix 80 ⊟◌
  below_tail : {d : ℕ} (f : ℕ → C) → Below R (suc d) f → Below R d (tail R f)
  below_tail f h k b = h (suc k) (suc-le-suc b)

  -- The value does not depend on the bound.
  pub ev_mono : (d e : ℕ) (a : C) (f : ℕ → C) → d ≤ e → Below R d f → ev R e a f ≡ ev R d a f
  unfolding ev
  ev_mono zero e a f le h = ev_vanishes R e a f (λ k. h k zero-le)
  ev_mono (suc d) zero a f le h = absurd (not-suc-le-zero le)
  ev_mono (suc d) (suc e) a f le h = ap (λ y. f zero ⊕ a ⊗ y) (ev_mono d e a (tail R f) (le_of_suc-le-suc le) (below_tail f h))

  -- A series has one value at a point, whatever the bounds.
  pub evaluates_unique : (a : C) (f : ℕ → C) {y z : C} → Evaluates R a f y → Evaluates R a f z → y ≡ z
  evaluates_unique a f (d, hd, p) (e, he, q) = sym p ∙ sym (ev_mono d (max d e) a f (le-max_left d e) hd) ∙ ev_mono e (max d e) a f (le-max_right d e) he ∙ q

  -- The value of a sum.
  pub ev_add : (d : ℕ) (a : C) (f g : ℕ → C) → ev R d a (f ⊞ g) ≡ ev R d a f ⊕ ev R d a g
  unfolding ev
  ev_add zero a f g = sym (add_zero 𝟘)
  ev_add (suc d) a f g = ap (λ y. f zero ⊕ g zero ⊕ a ⊗ y) (ev_add d a (tail R f) (tail R g)) ∙ simp (mul_add, add_assoc, add_comm)

  -- The value of a negative.
  pub ev_neg : (d : ℕ) (a : C) (f : ℕ → C) → ev R d a (⊟ f) ≡ ⊖ ev R d a f
  unfolding ev
  ev_neg zero a f = sym (Ring.neg_zero R)
  ev_neg (suc d) a f = ap (λ y. ⊖ f zero ⊕ a ⊗ y) (ev_neg d a (tail R f)) ∙ ap (λ y. ⊖ f zero ⊕ y) (Ring.mul_neg R a _) ∙ sym (Ring.neg_sum R _ _)

  regroup : (x y a z u v : C) → x ⊗ y ⊕ a ⊗ (x ⊗ z ⊕ u ⊗ v) ≡ x ⊗ (y ⊕ a ⊗ z) ⊕ a ⊗ u ⊗ v
  regroup x y a z u v = simp (mul_add, mul_assoc, add_assoc, Ring.mul_left_comm R)

  -- The value of a product.
  pub ev_mul : (d e : ℕ) (a : C) (f g : ℕ → C) → Below R d f → Below R e g → ev R (d + e) a (f ⊠ g) ≡ ev R d a f ⊗ ev R e a g
  unfolding ev convolve
  ev_mul zero e a f g hf hg =
      (ev_vanishes R) (zero + e) a (f ⊠ g) (λ k. convolve_vanishes R f g k (λ i j p. ap (λ x. x ⊗ g j) (hf i zero-le) ∙ Ring.zero_mul R (g j)))
      ∙ sym (Ring.zero_mul R _)
  ev_mul (suc d) e a f g hf hg =
      ap (λ n. ev R n a (f ⊠ g)) (Nat.suc-add d e)
      ∙ ap (λ y. f zero ⊗ g zero ⊕ a ⊗ y)
      (ev_add (d + e) a (λ k. f zero ⊗ g (suc k)) (tail R f ⊠ g)
      ∙ ap₂ (λ x y. x ⊕ y) (ev_scale R (d + e) a (f zero) (tail R g)) (ev_mul d e a (tail R f) g (below_tail f hf) hg))
      ∙ regroup (f zero) (g zero) a (ev R (d + e) a (tail R g)) (ev R d a (tail R f)) (ev R e a g)
      ∙ ap (λ y. f zero ⊗ y ⊕ a ⊗ ev R d a (tail R f) ⊗ ev R e a g) (ev_mono e (suc (d + e)) a g (omega arith) hg)
      ∙ sym (Ring.add_mul R _ _ _)

  -- A constant has its own value.
  pub evaluates_constant : (a c : C) → Evaluates R a (constant R c) c
  unfolding ev constant
  evaluates_constant a c = (1, below_constant R c, ap (λ y. c ⊕ y) (Ring.mul_zero R a) ∙ add_zero c)

  -- The variable has the value a.
  pub evaluates_X : (a : C) → Evaluates R a (X R) a
  unfolding ev X evaluates_constant
  evaluates_X a = (2, below_X R, ap (λ y. 𝟘 ⊕ a ⊗ y) (evaluates_constant a 𝟙).2 ∙ Ring.zero_add R (a ⊗ 𝟙) ∙ mul_one a)

  evaluates_add : (a : C) (f g : ℕ → C) {y z : C} → Evaluates R a f y → Evaluates R a g z → Evaluates R a (f ⊞ g) (y ⊕ z)
  evaluates_add a f g (d, hd, p) (e, he, q) = (
    max d e,
    below_add R f g (below_mono R f (le-max_left d e) hd) (below_mono R g (le-max_right d e) he),
    ev_add (max d e) a f g ∙ ap₂ (λ x y. x ⊕ y) (ev_mono d (max d e) a f (le-max_left d e) hd ∙ p) (ev_mono e (max d e) a g (le-max_right d e) he ∙ q),
  )

  evaluates_mul : (a : C) (f g : ℕ → C) {y z : C} → Evaluates R a f y → Evaluates R a g z → Evaluates R a (f ⊠ g) (y ⊗ z)
  evaluates_mul a f g (d, hd, p) (e, he, q) = (d + e, below_mul R f g hd he, ev_mul d e a f g hd he ∙ ap₂ (λ x y. x ⊗ y) p q)

  -- Every operation of the ring keeps values: evaluation at a point is a homomorphism from the polynomials.
  pub evaluation : (a : C) → RingRelation (Series R) R (Evaluates R a)
  unfolding ev
  evaluation a = record {
    rel_zero = (0, below_zero R 0, refl);
    rel_one = evaluates_constant a 𝟙;
    rel_add = λ {a = f} {b = g} p q. evaluates_add a f g p q;
    rel_mul = λ {a = f} {b = g} p q. evaluates_mul a f g p q;
    rel_neg = λ {a = f} (d, h, p). (d, below_neg R f h, ev_neg d a f ∙ ap (λ x. ⊖ x) p);
  }

  -- A root of a product is a root of a factor.
  pub root_of_factor : Decides R → Cancels R → (a : C) (f g : Poly R) → Evaluates R a (f.series ⊠ g.series) 𝟘 → (value R a f ≡ 𝟘) ⊎ (value R a g ≡ 𝟘)
  root_of_factor decides cancels a f g h =
      Ring.zero_factor R decides cancels (value R a f) (value R a g)
      (evaluates_unique a (f.series ⊠ g.series) ((evaluation a).rel_mul (evaluates_value R a f) (evaluates_value R a g)) h)
