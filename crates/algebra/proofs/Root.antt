-- The division of a polynomial by X − a, and what a root is: X − a divides a polynomial exactly if its value at a is 0. Division by
-- a power of X beside it: the case of the root 0.
--   divide, divide_root      division by X − a with remainder, and at a root
--   root_of_multiple         what X − a divides has the root a
--   cancel_lin               the factor X − a can be cancelled
--   divide_power, vanishes_iff_divisible    X^d divides a series exactly if its coefficients below d are 0
use Rattle.std.specs.Prelude.{◌≡◌, ◌≢◌, ◌↔◌}
use Rattle.std.proofs.Math.Path.{refl, sym, ap, ap₂}
use Rattle.std.proofs.Common.{subst, ◌∙◌, arith}
use Prim.Native.Nat.{ℕ, zero, suc, ◌+◌, ◌<◌, pred, suc-le-suc}
use Rattle.std.proofs.Math.Nat as Nat
use Rattle.std.proofs.Math.Nat.{le-suc}
use Rattle.algebra.specs.Ring as Ring
use Rattle.algebra.specs.Ring.{CommRing, Decides, Cancels, Nontrivial, power}
use Rattle.algebra.specs.Series.{series_ext, tail, convolve, constant, X, shift, shift_below}
use Rattle.algebra.proofs.Series.{Series, constant_mul, constant_zero, shift_power}
use Rattle.algebra.specs.Polynomial.{Below, Poly}
use Rattle.algebra.proofs.Polynomial.{Series_cancels}
use Rattle.algebra.specs.Evaluation.{ev, ev_vanishes, Evaluates}
use Rattle.algebra.proofs.Evaluation.{ev_mono, evaluates_constant, evaluates_X, evaluation}
use Rattle.algebra.specs.Root.{lin, quo}

module _ (R : CommRing) where
  open R use {C, 𝟘, 𝟙, ◌⊕◌, ◌⊗◌, ⊖◌, add_zero, add_neg}
  open Series R use {◌⊕◌ as ◌⊞◌, ◌⊗◌ as ◌⊠◌, ⊖◌ as ⊟◌, 𝟘 as 𝟘ₛ, add_zero as add_zeroₛ}

  infixl 60 ◌⊕◌
  infixl 70 ◌⊗◌
  infix 80 ⊖◌
  infixl 60 ◌⊞◌
  infixl 70 ◌⊠◌
  infix 80 ⊟◌
  -- It is the difference of X and the constant a.
  pub lin_eq : (a : C) → lin R a ≡ X R ⊞ ⊟ constant R a
  unfolding lin X constant
  lin_eq a = series_ext R (elim [ zero ↦ sym (Ring.zero_add R (⊖ a)) | suc n ↦ sym (ap (λ y. constant R 𝟙 n ⊕ y) (Ring.neg_zero R) ∙ add_zero _) ])

  -- The value of X − a at b is b − a, …
  pub evaluates_lin_at : (a b : C) → Evaluates R b (lin R a) (b ⊕ ⊖ a)
  evaluates_lin_at a b =
      subst (λ f. Evaluates R b f (b ⊕ ⊖ a)) (sym (lin_eq a))
      ((evaluation R b).rel_add (evaluates_X R b) ((evaluation R b).rel_neg (evaluates_constant R b a)))

  -- … so that X − a has the root a.
  pub evaluates_lin : (a : C) → Evaluates R a (lin R a) 𝟘
  evaluates_lin a = subst (Evaluates R a (lin R a)) (add_neg a) (evaluates_lin_at a a)

  -- The product with X − a: its coefficient at 0 …
  pub lin_mul_zero : (a : C) (f : ℕ → C) → (lin R a ⊠ f) zero ≡ ⊖ (a ⊗ f zero)
  unfolding convolve lin
  lin_mul_zero a f = Ring.neg_mul R a (f zero)

  -- … and at n + 1.
  pub lin_mul_suc : (a : C) (f : ℕ → C) (n : ℕ) → (lin R a ⊠ f) (suc n) ≡ ⊖ (a ⊗ f (suc n)) ⊕ f n
  unfolding convolve lin
  lin_mul_suc a f n = ap₂ (λ x y. x ⊕ y) (Ring.neg_mul R a (f (suc n))) (constant_mul R 𝟙 f n ∙ Ring.one_mul R (f n))

  -- The quotient has a bound lower by one.
  pub below_quo : {d : ℕ} (e : ℕ) (a : C) (f : ℕ → C) → Below R d f → Below R (pred d) (quo R e a f)
  unfolding quo
  below_quo e a f h zero b = ev_vanishes R e a (tail R f) (λ k. h (suc k) (omega arith))
  below_quo {d} e a f h (suc k) b = below_quo {d = pred d} e a (tail R f) (λ i c. h (suc i) (omega arith)) k (omega arith)

  quo_step : {d : ℕ} (a : C) (f : ℕ → C) (n : ℕ) → Below R d f → quo R d a f n ≡ f (suc n) ⊕ a ⊗ quo R d a f (suc n)
  unfolding quo ev
  quo_step {d} a f zero h = sym (ev_mono R d (suc d) a (tail R f) (le-suc d) (λ k b. h (suc k) (Nat.le_step b)))
  quo_step a f (suc n) h = quo_step a (tail R f) n (λ k b. h (suc k) (Nat.le_step b))

  solve : (x y z : C) → x ≡ y ⊕ z → ⊖ z ⊕ x ≡ y
  solve x y z h = ap (λ w. ⊖ z ⊕ w) h ∙ Ring.add_left_comm R (⊖ z) y z ∙ ap (λ w. y ⊕ w) (Ring.neg_add R z) ∙ add_zero y

  -- Division by X − a: the remainder is the value at a.
  pub divide : {d : ℕ} (a : C) (f : ℕ → C) → Below R d f → f ≡ lin R a ⊠ quo R d a f ⊞ constant R (ev R d a f)
  unfolding quo ev constant
  divide {d} a f h = series_ext R (elim [
    | zero ↦
        sym (ap (λ y. y ⊕ ev R d a f) (lin_mul_zero a (quo R d a f))
        ∙ solve (ev R d a f) (f zero) (a ⊗ quo R d a f zero) (sym (ev_mono R d (suc d) a f (le-suc d) h)))
    | suc n ↦ sym (add_zero _ ∙ lin_mul_suc a (quo R d a f) n ∙ solve (quo R d a f n) (f (suc n)) (a ⊗ quo R d a f (suc n)) (quo_step a f n h))
  ])

  -- At a root nothing remains: X − a divides.
  pub divide_root : {d : ℕ} (a : C) (f : ℕ → C) → Below R d f → ev R d a f ≡ 𝟘 → f ≡ lin R a ⊠ quo R d a f
  divide_root {d} a f h p = divide a f h ∙ ap (λ s. lin R a ⊠ quo R d a f ⊞ s) (ap (constant R) p ∙ constant_zero R) ∙ add_zeroₛ _

  -- What X − a divides has the root a.
  pub root_of_multiple : {d : ℕ} (a : C) (q : ℕ → C) → Below R d q → Evaluates R a (lin R a ⊠ q) 𝟘
  root_of_multiple {d} a q h =
      let (e, b, p) = (evaluation R a).rel_mul (evaluates_lin a) (d, h, refl) in
      (e, b, p ∙ Ring.zero_mul R (ev R d a q))

  -- The quotient by X − a of a polynomial.
  abbrev pub poly_quo : C → Poly R → Poly R
  poly_quo a f = record { series = quo R f.bound a f.series; bound = pred f.bound; below = below_quo f.bound a f.series f.below }

  lin_ne_zero : Nontrivial R → (a : C) → lin R a ≢ 𝟘ₛ
  unfolding lin constant
  lin_ne_zero nontrivial a h = nontrivial (ap (λ s. s 1) h)

  -- The factor X − a can be cancelled.
  pub cancel_lin : Decides R → Cancels R → Nontrivial R → (a : C) (f g : ℕ → C) → lin R a ⊠ f ≡ lin R a ⊠ g → f ≡ g
  cancel_lin decides cancels nontrivial a f g = Ring.mul_cancel (Series R) (Series_cancels R decides cancels) (lin R a) f g (lin_ne_zero nontrivial a)

  drop_shift : (d : ℕ) (f : ℕ → C) (k : ℕ) → ((i : ℕ) → i < d → f i ≡ 𝟘) → f k ≡ shift R d (λ n. f (d + n)) k
  unfolding shift
  drop_shift zero f k h = ap f (sym (Nat.zero-add k))
  drop_shift (suc d) f zero h = h zero (Nat.zero-lt-suc d)
  drop_shift (suc d) f (suc k) h =
      drop_shift d (tail R f) k (λ i b. h (suc i) (suc-le-suc b))
      ∙ ap (λ s. shift R d s k) (series_ext R (λ n. ap f (sym (Nat.suc-add d n))))

  -- Where the coefficients below d are 0, the series is X^d times the rest of its coefficients …
  pub divide_power : (d : ℕ) (f : ℕ → C) → ((k : ℕ) → k < d → f k ≡ 𝟘) → f ≡ power (Series R) (X R) d ⊠ (λ n. f (d + n))
  divide_power d f h = series_ext R (λ k. drop_shift d f k h) ∙ shift_power R d (λ n. f (d + n))

  -- … and only there does X^d divide it.
  pub vanishes_iff_divisible : (d : ℕ) (f : ℕ → C) → ((k : ℕ) → k < d → f k ≡ 𝟘) ↔ ((q : ℕ → C) × (f ≡ power (Series R) (X R) d ⊠ q))
  vanishes_iff_divisible d f = (λ h. (λ n. f (d + n), divide_power d f h), λ (q, e) k b. ap (λ s. s k) (e ∙ sym (shift_power R d q)) ∙ shift_below R d q k b)
