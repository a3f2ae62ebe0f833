-- Polynomials over a commutative ring: series with a bound on their degree. The ring operations are those of `Series R`; a bound is
-- kept beside a series and is not a part of it: two polynomials are the same when their series are.
--   poly_zero, poly_add, poly_mul, poly_neg
--   mul_leading              the highest coefficient of a product
--   Series_cancels           series over a ring without zero divisors have none
--   degree, Poly_decides     the degree of a polynomial, and whether it is 0
--   constant_of_unit_product the factors of a constant are constants
use Rattle.std.specs.Prelude.{◌≡◌, ◌≢◌, ◌⊎◌}
use Rattle.std.proofs.Math.Path.{refl}
use Rattle.std.proofs.Common.{sym, ap, ap₂, ◌∙◌, inl, inr, not-suc-le-zero, lt_of_not-le, arith}
use Prim.Native.Nat.{ℕ, zero, suc, ◌+◌, ◌≤◌, ◌<◌, max, zero-le}
use Rattle.std.proofs.Math.Nat.{le-max_left, le-max_right}
use Rattle.std.proofs.Math.Decide.{dec_le}
use Rattle.algebra.specs.Ring as Ring
use Rattle.algebra.specs.Ring.{CommRing, RingRelation, Decides, Cancels}
use Rattle.algebra.specs.Series.{series_ext, convolve_vanishes, constant}
use Rattle.algebra.proofs.Series.{Series, convolve_single}
use Rattle.algebra.specs.Polynomial.{Below, below_mono, below_last, constant_of_below, Poly, poly_one, Bounded, poly_bounded, bounded_poly}

-- What holds of a number whenever it holds of all smaller ones holds of every number.
strong_induction : (P : ℕ → Type 0) → ((n : ℕ) → ((m : ℕ) → m < n → P m) → P n) → (n : ℕ) → P n
strong_induction P step n = step n (below n)
  where
    below : (n m : ℕ) → m < n → P m
    below zero m h = absurd (not-suc-le-zero h)
    below (suc n) m h = step m (λ k b. below n k (omega arith))

module _ (R : CommRing) where
  open R use {C, 𝟘, 𝟙, ◌⊕◌, ◌⊗◌, ⊖◌, add_zero, mul_comm}
  open Series R use {◌⊕◌ as ◌⊞◌, ◌⊗◌ as ◌⊠◌, ⊖◌ as ⊟◌, 𝟘 as 𝟘ₛ}

  infixl 60 ◌⊕◌
  infixl 70 ◌⊗◌
  infix 80 ⊖◌
  infixl 60 ◌⊞◌
  infixl 70 ◌⊠◌
  infix 80 ⊟◌
  -- The series 0 has every bound.
  pub below_zero : (d : ℕ) → Below R d 𝟘ₛ
  below_zero d k b = refl

  -- A bound of two series is one of their sum.
  pub below_add : {d : ℕ} (f g : ℕ → C) → Below R d f → Below R d g → Below R d (f ⊞ g)
  below_add f g hf hg k b = ap₂ (λ x y. x ⊕ y) (hf k b) (hg k b) ∙ add_zero 𝟘

  -- A bound of a series is one of its negative.
  pub below_neg : {d : ℕ} (f : ℕ → C) → Below R d f → Below R d (⊟ f)
  below_neg f h k b = ap (λ x. ⊖ x) (h k b) ∙ Ring.neg_zero R

  below_term : {d e : ℕ} (f g : ℕ → C) → Below R d f → Below R e g → (i j : ℕ) → (i < d → e ≤ j) → f i ⊗ g j ≡ 𝟘
  below_term {d} f g hf hg i j h = elim (dec_le d i) [
    | yes le ↦ ap (λ x. x ⊗ g j) (hf i le) ∙ Ring.zero_mul R (g j)
    | no gt ↦ ap (λ x. f i ⊗ x) (hg j (h (lt_of_not-le gt))) ∙ Ring.mul_zero R (f i)
  ]

  -- The bounds of the factors add up to a bound of the product.
  pub below_mul : {d e : ℕ} (f g : ℕ → C) → Below R d f → Below R e g → Below R (d + e) (f ⊠ g)
  below_mul f g hf hg k b = convolve_vanishes R f g k (λ i j p. below_term f g hf hg i j (λ lt. omega arith))

  -- The bounds d + 1 and e + 1 give d + e + 1 …
  pub below_mul_suc : {d e : ℕ} (f g : ℕ → C) → Below R (suc d) f → Below R (suc e) g → Below R (suc (d + e)) (f ⊠ g)
  below_mul_suc f g hf hg k b = convolve_vanishes R f g k (λ i j p. below_term f g hf hg i j (λ lt. omega arith))

  -- … and the highest coefficients are multiplied.
  pub mul_leading : {d e : ℕ} (f g : ℕ → C) → Below R (suc d) f → Below R (suc e) g → (f ⊠ g) (d + e) ≡ f d ⊗ g e
  mul_leading {d} {e} f g hf hg = convolve_single R f g d e (d + e) refl (λ i j p ne. below_term f g hf hg i j (λ lt. omega arith))

  -- A series over a ring without zero divisors that is not 0 can be cancelled. Where g k is the first coefficient of g other than 0,
  -- the first coefficient of f other than 0 would leave one in the product.
  pub Series_cancels : Decides R → Cancels R → Cancels (Series R)
  Series_cancels decides cancels f g nf h = series_ext R (strong_induction (λ k. g k ≡ 𝟘) (λ k lower. elim (decides (g k)) [
    | yes p ↦ p
    | no nk ↦
        absurd (nf (series_ext R (strong_induction (λ n. f n ≡ 𝟘)
        (λ n low. cancels (g k) (f n) nk (mul_comm (g k) (f n) ∙ sym (only n k lower low) ∙ ap (λ s. s (n + k)) h)))))
  ]))
    where
      only : (n k : ℕ) → ((j : ℕ) → j < k → g j ≡ 𝟘) → ((i : ℕ) → i < n → f i ≡ 𝟘) → (f ⊠ g) (n + k) ≡ f n ⊗ g k
      only n k lower low = convolve_single R f g n k (n + k) refl (λ i j p ne. elim (dec_le n i) [
        | yes le ↦ ap (λ x. f i ⊗ x) (lower j (omega arith)) ∙ Ring.mul_zero R (f i)
        | no gt ↦ ap (λ x. x ⊗ g j) (low i (lt_of_not-le gt)) ∙ Ring.zero_mul R (g j)
      ])

module _ (R : CommRing) where
  open R use {C, 𝟘, 𝟙}
  open Series R use {◌⊕◌ as ◌⊞◌, ◌⊗◌ as ◌⊠◌, ⊖◌ as ⊟◌, 𝟘 as 𝟘ₛ}

  infixl 60 ◌⊞◌
  infixl 70 ◌⊠◌
  infix 80 ⊟◌
  -- The polynomial 0.
  abbrev pub poly_zero : Poly R
  poly_zero = record { series = 𝟘ₛ; bound = 0; below = below_zero R 0 }

  -- The sum.
  abbrev pub poly_add : Poly R → Poly R → Poly R
  poly_add f g = record {
    series = f.series ⊞ g.series;
    bound = max f.bound g.bound;
    below =
        below_add R f.series g.series (below_mono R f.series (le-max_left f.bound g.bound) f.below)
        (below_mono R g.series (le-max_right f.bound g.bound) g.below);
  }

  -- The negative.
  abbrev pub poly_neg : Poly R → Poly R
  poly_neg f = record { series = ⊟ f.series; bound = f.bound; below = below_neg R f.series f.below }

  -- The product.
  abbrev pub poly_mul : Poly R → Poly R → Poly R
  poly_mul f g = record { series = f.series ⊠ g.series; bound = f.bound + g.bound; below = below_mul R f.series g.series f.below g.below }

  -- Every operation of the ring keeps polynomials.
  pub bounded : RingRelation (Series R) (Series R) (λ f g. Bounded R f)
  bounded = record {
    rel_zero = bounded_poly R poly_zero;
    rel_one = bounded_poly R (poly_one R);
    rel_add = λ {a = f} {b = g} p q. bounded_poly R (poly_add (poly_bounded R f p) (poly_bounded R g q));
    rel_mul = λ {a = f} {b = g} p q. bounded_poly R (poly_mul (poly_bounded R f p) (poly_bounded R g q));
    rel_neg = λ {a = f} p. bounded_poly R (poly_neg (poly_bounded R f p));
  }

  -- A polynomial is 0 or has a degree, the place of its highest coefficient other than 0.
  pub degree : Decides R → (f : Poly R) → (f.series ≡ 𝟘ₛ) ⊎ ((d : ℕ) × (Below R (suc d) f.series) × (f.series d ≢ 𝟘))
  degree decides f = search_down f.bound f.below
    where
      search_down : (e : ℕ) → Below R e f.series → (f.series ≡ 𝟘ₛ) ⊎ ((d : ℕ) × (Below R (suc d) f.series) × (f.series d ≢ 𝟘))
      search_down zero h = inl (series_ext R (λ n. h n zero-le))
      search_down (suc e) h = elim (decides (f.series e)) [
        | yes p ↦ search_down e (below_last R f.series h p)
        | no ne ↦ inr (e, h, ne)
      ]

  -- It can be told whether a polynomial is 0.
  pub Poly_decides : Decides R → (f : Poly R) → Dec (f.series ≡ 𝟘ₛ)
  Poly_decides decides f = elim (degree decides f) [ inl p ↦ yes p | inr t ↦ no (λ p. t.2 (ap (λ s. s t.0) p)) ]

  constant_ne_zero : (c : C) → c ≢ 𝟘 → constant R c ≢ 𝟘ₛ
  unfolding constant
  constant_ne_zero c nc h = nc (ap (λ s. s zero) h)

  constant_place : (c : C) (n : ℕ) → constant R c n ≢ 𝟘 → n ≡ zero
  unfolding constant
  constant_place c zero ne = refl
  constant_place c (suc n) ne = absurd (ne refl)

  -- The factors of a constant other than 0 are constants: degrees add up.
  pub constant_of_unit_product : Decides R → Cancels R → (f g : Poly R) (c : C) → c ≢ 𝟘 → f.series ⊠ g.series ≡ constant R c
      → (f.series ≡ constant R (f.series zero)) × (g.series ≡ constant R (g.series zero))
  constant_of_unit_product decides cancels f g c nc h = elim (degree decides f) [
    | inl p ↦ absurd (constant_ne_zero c nc (sym h ∙ ap (λ s. s ⊠ g.series) p ∙ Ring.zero_mul (Series R) g.series))
    | inr df ↦ elim (degree decides g) [
      | inl p ↦ absurd (constant_ne_zero c nc (sym h ∙ ap (λ s. f.series ⊠ s) p ∙ Ring.mul_zero (Series R) f.series))
      | inr dg ↦
          let place : df.0 + dg.0 ≡ zero =
          constant_place c (df.0 + dg.0)
          (λ e. Ring.mul_ne_zero R cancels (f.series df.0) (g.series dg.0) df.2 dg.2
          (sym (mul_leading R f.series g.series df.1 dg.1)
          ∙ ap (λ s. s (df.0 + dg.0)) h
          ∙ e)) in (
            constant_of_below R f.series (below_mono R f.series (omega arith) df.1),
            constant_of_below R g.series (below_mono R g.series (omega arith) dg.1),
          )
    ]
  ]
