-- Polynomials over a commutative ring: series with a bound on their degree. The ring operations are those of `Series R`; a bound is
-- kept beside a series and is not a part of it: two polynomials are the same when their series are.
--   Below d f                every coefficient of f from d on is 0
--   Poly R                   a series with such a bound
--   poly_one, poly_constant, poly_list
use Rattle.std.specs.Prelude.{◌≡◌, List, length, get_or}
use Rattle.std.proofs.Math.Path.{refl}
use Rattle.std.proofs.Common.{sym, ap, ◌∙◌, inl, inr, le_of_suc-le-suc, not-suc-le-zero, le_trans, eq-or-lt_of_le}
use Prim.Native.Nat.{ℕ, zero, suc, ◌≤◌, ◌<◌, max, zero-le, suc-le-suc}
use Rattle.std.proofs.Math.Nat.{le-max_left, le-max_right}
use Rattle.std.proofs.Math.ListN.{get_or-eq_default}
use Rattle.algebra.specs.Ring.{CommRing}
use Rattle.algebra.specs.Series.{series_ext, constant, X}

-- The greatest of b 0, …, b (n − 1); 0 where there is none.
unfoldable pub maximum : ℕ → (ℕ → ℕ) → ℕ
maximum zero b = zero
maximum (suc n) b = max (b zero) (maximum n (λ i. b (suc i)))

-- None is above the greatest.
pub le_maximum : (n : ℕ) (b : ℕ → ℕ) (i : ℕ) → i < n → b i ≤ maximum n b
unfolding maximum
le_maximum zero b i h = absurd (not-suc-le-zero h)
le_maximum (suc n) b zero h = le-max_left _ _
le_maximum (suc n) b (suc i) h = le_trans (le_maximum n (λ k. b (suc k)) i (le_of_suc-le-suc h)) (le-max_right _ _)

module _ (R : CommRing) where
  open R use {C, 𝟘, 𝟙, ◌⊕◌, ◌⊗◌, ⊖◌, add_zero, mul_comm}

  infixl 60 ◌⊕◌
  infixl 70 ◌⊗◌
  infix 80 ⊖◌
  -- Every coefficient from d on is 0.
  abbrev pub Below : ℕ → (ℕ → C) → Type 0
  Below d f = (k : ℕ) → d ≤ k → f k ≡ 𝟘

  -- A bound can be enlarged.
  pub below_mono : {d e : ℕ} (f : ℕ → C) → d ≤ e → Below d f → Below e f
  below_mono f le h k b = h k (le_trans le b)

  -- A bound can be lowered by one where the coefficient there is 0.
  pub below_last : {d : ℕ} (f : ℕ → C) → Below (suc d) f → f d ≡ 𝟘 → Below d f
  below_last f h z k b = elim (eq-or-lt_of_le b) [ inl q ↦ ap f (sym q) ∙ z | inr lt ↦ h k lt ]

  -- A constant has the bound 1.
  pub below_constant : (c : C) → Below 1 (constant R c)
  unfolding constant
  below_constant c zero b = absurd (not-suc-le-zero b)
  below_constant c (suc k) b = refl

  -- The variable has the bound 2.
  pub below_X : Below 2 (X R)
  unfolding X
  below_X zero b = absurd (not-suc-le-zero b)
  below_X (suc k) b = below_constant 𝟙 k (le_of_suc-le-suc b)

  -- A series of degree 0 is its constant coefficient.
  pub constant_of_below : (f : ℕ → C) → Below 1 f → f ≡ constant R (f zero)
  unfolding constant
  constant_of_below f h = series_ext R (elim [ zero ↦ refl | suc n ↦ h (suc n) (suc-le-suc zero-le) ])

-- A polynomial: a series with a bound on its degree.
pub record Poly (R : CommRing) : Type 0 where
  pub series : ℕ → R.C
  pub bound : ℕ
  pub below : Below R bound series

module _ (R : CommRing) where
  open R use {C, 𝟘, 𝟙}

  -- The polynomial c.
  abbrev pub poly_constant : C → Poly R
  poly_constant c = record { series = constant R c; bound = 1; below = below_constant R c }

  -- The polynomial 1.
  abbrev pub poly_one : Poly R
  poly_one = poly_constant 𝟙

  -- The polynomial whose coefficients a list gives.
  abbrev pub poly_list : List C → Poly R
  poly_list l = record { series = λ n. get_or l n 𝟘; bound = length l; below = λ k h. get_or-eq_default l 𝟘 h }

  -- The series f is a polynomial: it has a bound.
  abbrev pub Bounded : (ℕ → C) → Type 0
  Bounded f = (d : ℕ) × Below R d f

  -- The polynomial of a series that has a bound …
  abbrev pub poly_bounded : (f : ℕ → C) → Bounded f → Poly R
  poly_bounded f b = record { series = f; bound = b.0; below = b.1 }

  -- … and the bound of a polynomial.
  abbrev pub bounded_poly : (f : Poly R) → Bounded f.series
  bounded_poly f = (f.bound, f.below)
