-- The value at a point of products that are cut at a power, in any commutative ring, without forming the products.
--   ev_last, ev_convolve     one power more; a product that is cut, by the coefficients of one factor
--   horner m a d f g e x     what Horner's rule has after x steps, from power d down: f 0 · g 0, …, f (m − 1) · g (m − 1), less e at power d
--   horner_none, horner_more before the first step, and one step more
--   horner_all               after d steps it is the value of the products' coefficients up to power d, less e at d
use Rattle.std.specs.Prelude.{◌≡◌}
use Rattle.std.proofs.Common.{sym, ◌∙◌, arith}
use Rattle.std.proofs.Math.Path.{ap, ap₂, fun_ext}
use Prim.Native.Nat.{ℕ, zero, suc, ◌+◌, ◌-◌, ◌<◌}
use Rattle.std.proofs.Math.Nat as Nat
use Rattle.algebra.specs.Ring as Ring
use Rattle.algebra.specs.Ring.{CommRing, power}
use Rattle.algebra.specs.Sum.{sum, sum_cong, sum_zero, sum_add, sum_last, mul_sum}
use Rattle.algebra.specs.Series.{tail, convolve}
use Rattle.algebra.specs.Evaluation.{ev, ev_scale, ev_powers}
use Rattle.algebra.proofs.Evaluation.{ev_add}

module _ (R : CommRing) where
  open R use {C, 𝟘, 𝟙, ◌⊕◌, ◌⊗◌, ⊖◌, add_assoc, add_comm, add_zero, mul_assoc, mul_comm, mul_add}

  infixl 60 ◌⊕◌
  infixl 70 ◌⊗◌
  infix 80 ⊖◌
  -- One power more adds its term.
  pub ev_last : (d : ℕ) (a : C) (f : ℕ → C) → ev R (suc d) a f ≡ ev R d a f ⊕ f d ⊗ power R a d
  ev_last d a f =
      ev_powers R (suc d) a f
      ∙ sum_last R d (λ k. f k ⊗ power R a k)
      ∙ ap (λ x. x ⊕ f d ⊗ power R a d) (sym (ev_powers R d a f))

  regroup : (x y a z w : C) → x ⊗ y ⊕ a ⊗ (x ⊗ z ⊕ w) ≡ x ⊗ (y ⊕ a ⊗ z) ⊕ a ⊗ w
  regroup x y a z w = simp (mul_add, add_assoc, Ring.mul_left_comm R)

  -- A product that is cut: the first coefficient of f goes with all of g that is left, the others with one power less of it.
  pub ev_convolve : (d : ℕ) (a : C) (f g : ℕ → C)
      → ev R (suc d) a (convolve R f g) ≡ f zero ⊗ ev R (suc d) a g ⊕ a ⊗ ev R d a (convolve R (tail R f) g)
  unfolding ev convolve
  ev_convolve d a f g =
      ap (λ y. f zero ⊗ g zero ⊕ a ⊗ y)
      (ev_add R d a (λ k. f zero ⊗ g (suc k)) (convolve R (tail R f) g)
      ∙ ap (λ x. x ⊕ ev R d a (convolve R (tail R f) g)) (ev_scale R d a (f zero) (tail R g)))
      ∙ regroup (f zero) (g zero) a (ev R d a (tail R g)) (ev R d a (convolve R (tail R f) g))

  module _ (m : ℕ) (a : C) (d : ℕ) (f g : ℕ → ℕ → C) (e : C) where
    -- The coefficients of f l from power s on.
    abbrev from : ℕ → ℕ → ℕ → C
    from s l k = f l (s + k)

    -- What Horner's rule has after x steps: the coefficients of f from power d − x on, times g, up to power x, and e at power x taken off.
    unfoldable pub horner : ℕ → C
    horner x = sum R m (λ l. ev R (suc x) a (convolve R (from (d - x) l) (g l))) ⊕ ⊖ (power R a x ⊗ e)

    -- Before the first step it is −e, if f ends before power d.
    pub horner_none : ((l : ℕ) → l < m → f l d ≡ 𝟘) → horner 0 ≡ ⊖ e
    unfolding horner ev convolve power
    horner_none ends =
        ap₂ (λ x y. x ⊕ ⊖ y) (sum_zero R m (λ l. ev R 1 a (convolve R (from (d - 0) l) (g l))) nothing) (Ring.one_mul R e) ∙ Ring.zero_add R (⊖ e)
      where
        nothing : (l : ℕ) → l < m → f l (d - 0 + 0) ⊗ g l 0 ⊕ a ⊗ 𝟘 ≡ 𝟘
        nothing l h =
            ap₂ (λ x y. x ⊗ g l 0 ⊕ y) (ap (f l) (omega arith) ∙ ends l h) (Ring.mul_zero R a) ∙ add_zero (𝟘 ⊗ g l 0) ∙ Ring.zero_mul R (g l 0)

    -- A step.
    pub horner_more : (x : ℕ) → x < d → horner (suc x) ≡ a ⊗ horner x ⊕ sum R m (λ l. ev R (suc (suc x)) a (g l) ⊗ f l (d - suc x))
    unfolding horner power
    horner_more x h =
        ap₂ (λ s y. s ⊕ ⊖ y)
        (sum_cong R m (λ l. ev R (suc (suc x)) a (convolve R (from (d - suc x) l) (g l))) (λ l. top l ⊕ a ⊗ low l) (λ l b. at l)
        ∙ sum_add R m top (λ l. a ⊗ low l))
        (mul_assoc a (power R a x) e)
        ∙ together (sum R m top) (sum R m (λ l. a ⊗ low l)) (power R a x ⊗ e)
        ∙ ap (λ s. s ⊕ ⊖ (a ⊗ (power R a x ⊗ e)) ⊕ sum R m top) (sym (mul_sum R m a low))
        ∙ ap (λ s. s ⊕ sum R m top) (taken (sum R m low) (power R a x ⊗ e))
      where
        top : ℕ → C
        top l = ev R (suc (suc x)) a (g l) ⊗ f l (d - suc x)

        low : ℕ → C
        low l = ev R (suc x) a (convolve R (from (d - x) l) (g l))

        at : (l : ℕ) → ev R (suc (suc x)) a (convolve R (from (d - suc x) l) (g l)) ≡ top l ⊕ a ⊗ low l
        at l =
            ev_convolve (suc x) a (from (d - suc x) l) (g l)
            ∙ ap₂ (λ s t. s ⊕ a ⊗ ev R (suc x) a (convolve R t (g l)))
            (ap (λ k. f l k ⊗ ev R (suc (suc x)) a (g l)) (Nat.add-zero (d - suc x)) ∙ mul_comm (f l (d - suc x)) (ev R (suc (suc x)) a (g l)))
            (fun_ext (λ k. ap (f l) (omega arith)))

        together : (s t y : C) → s ⊕ t ⊕ ⊖ (a ⊗ y) ≡ t ⊕ ⊖ (a ⊗ y) ⊕ s
        together s t y = add_assoc s t (⊖ (a ⊗ y)) ∙ add_comm s (t ⊕ ⊖ (a ⊗ y))

        taken : (s y : C) → a ⊗ s ⊕ ⊖ (a ⊗ y) ≡ a ⊗ (s ⊕ ⊖ y)
        taken s y = ap (λ z. a ⊗ s ⊕ z) (sym (Ring.mul_neg R a y)) ∙ sym (mul_add a s (⊖ y))

    -- After d steps it is the value of the products up to power d, less e at power d.
    pub horner_all : horner d ≡ sum R m (λ l. ev R (suc d) a (convolve R (f l) (g l))) ⊕ ⊖ (power R a d ⊗ e)
    unfolding horner
    horner_all =
        ap (λ s. s ⊕ ⊖ (power R a d ⊗ e))
        (sum_cong R m (λ l. ev R (suc d) a (convolve R (from (d - d) l) (g l))) (λ l. ev R (suc d) a (convolve R (f l) (g l)))
        (λ l b. ap (λ t. ev R (suc d) a (convolve R t (g l))) (fun_ext (λ k. ap (f l) (omega arith)))))
