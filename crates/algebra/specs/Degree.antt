-- Degrees of polynomials and of determinants of polynomial matrices. The rows have degrees r and the columns have shifts s, integers
-- that may be negative: the entry at (i, j) has degree at most r i − s j, and is 0 where that is negative. The leading matrix has the
-- coefficients at those places.
--   AtMost e f               the series f has no coefficient above the integer e: f is 0 where e is negative
--   coefficient e f          the coefficient of f at the integer e: 0 where e is negative
--   Lead e f c               f has degree at most e, and c is its coefficient there
use Rattle.std.specs.Prelude.{◌≡◌, ◌≢◌, ◌↔◌, ℤ}
use Rattle.std.proofs.Math.Path.{refl, sym, ap, subst}
use Rattle.std.proofs.Common.{arith}
use Prim.Native.Nat.{ℕ, zero, suc, ◌+◌, ◌-◌, zero-le}
use Rattle.std.proofs.Math.Nat as Nat
use Rattle.std.proofs.Math.Decide.{dec_le}
use Rattle.std.proofs.Math.IntN.{pos, negsuc, suc_ℤ, nat_abs, pos-ne-negsuc}
use Rattle.algebra.specs.Ring.{CommRing, Decides}
use Rattle.algebra.specs.Integer.{More}
use Rattle.algebra.specs.Series.{constant}
use Rattle.algebra.specs.Polynomial.{Below, below_mono, below_last, below_constant}

module _ (R : CommRing) where
  open R use {C, 𝟘, 𝟙, ◌⊕◌, ◌⊗◌, ⊖◌, add_zero}

  infixl 60 ◌⊕◌
  infixl 70 ◌⊗◌
  infix 80 ⊖◌
  -- f has no coefficient above e: a polynomial whose degree is at most a negative number is 0.
  unfoldable pub AtMost : ℤ → (ℕ → C) → Type 0
  AtMost (pos d) f = Below R (suc d) f
  AtMost (negsuc d) f = (k : ℕ) → f k ≡ 𝟘

  -- The coefficient of f at e: 0 where f has none there or e is negative.
  unfoldable pub coefficient : ℤ → (ℕ → C) → C
  coefficient (pos d) f = f d
  coefficient (negsuc d) f = 𝟘

  -- A series of zeros has degree at most e, for every e …
  pub at_most_zeros : (e : ℤ) (f : ℕ → C) → ((k : ℕ) → f k ≡ 𝟘) → AtMost e f
  unfolding AtMost
  at_most_zeros (pos d) f h = λ k b. h k
  at_most_zeros (negsuc d) f h = h

  -- … and its coefficient at e is 0.
  pub coefficient_zeros : (e : ℤ) (f : ℕ → C) → ((k : ℕ) → f k ≡ 𝟘) → coefficient e f ≡ 𝟘
  unfolding coefficient
  coefficient_zeros (pos d) f h = h d
  coefficient_zeros (negsuc d) f h = refl

  -- A constant has degree at most 0 …
  pub at_most_constant : (c : C) → AtMost (pos zero) (constant R c)
  unfolding AtMost
  at_most_constant c = below_constant R c

  -- … and is its coefficient there.
  pub coefficient_constant : (c : C) → coefficient (pos zero) (constant R c) ≡ c
  unfolding coefficient constant
  coefficient_constant c = refl

  -- A series has degree at most e exactly if it has degree at most e + 1 and the coefficient there is 0.
  pub at_most_suc_iff : (e : ℤ) (f : ℕ → C) → AtMost e f ↔ (AtMost (suc_ℤ e) f × (coefficient (suc_ℤ e) f ≡ 𝟘))
  unfolding AtMost coefficient
  at_most_suc_iff (pos d) f = (λ h. (below_mono R f (omega arith) h, h (suc d) (omega arith)), λ t. below_last R f t.0 t.1)
  at_most_suc_iff (negsuc zero) f = (λ h. (λ k b. h k, h zero), λ t k. below_last R f t.0 t.1 k zero-le)
  at_most_suc_iff (negsuc (suc d)) f = (λ h. (h, refl), λ t. t.0)

  -- A series has degree at most e exactly if each of its coefficients other than 0 stands at a power that is at most e.
  pub at_most_iff : Decides R → (e : ℤ) (f : ℕ → C) → AtMost e f ↔ ((k : ℕ) → f k ≢ 𝟘 → More (pos k) e)
  unfolding AtMost
  at_most_iff decides (pos d) f = (
    λ h k ne. elim (dec_le k d) [ yes le ↦ (d - k, ap pos (omega arith)) | no gt ↦ absurd (ne (h k (Nat.lt_of_not-le gt))) ],
    λ h k above. elim (decides (f k)) [ yes z ↦ z | no ne ↦ absurd (let (l, e) = h k ne in omega (arith, ap nat_abs e)) ],
  )
  at_most_iff decides (negsuc d) f = (
    λ h k ne. absurd (ne (h k)),
    λ h k. elim (decides (f k)) [ yes z ↦ z | no ne ↦ absurd (let (l, e) = h k ne in pos-ne-negsuc (k + l) d (sym e)) ],
  )

  -- f has degree at most e, and its coefficient there is c.
  abbrev pub Lead : ℤ → (ℕ → C) → C → Type 0
  Lead e f c = AtMost e f × (coefficient e f ≡ c)

  -- The same at an equal degree.
  pub lead_at : {e e' : ℤ} (f : ℕ → C) (c : C) → e ≡ e' → Lead e f c → Lead e' f c
  lead_at f c p h = subst (λ x. Lead x f c) p h

  -- A coefficient other than 0 stands at a natural number.
  pub coefficient_ne_zero : (e : ℤ) (f : ℕ → C) → coefficient e f ≢ 𝟘 → (d : ℕ) × (e ≡ pos d) × (f d ≢ 𝟘)
  unfolding coefficient
  coefficient_ne_zero (pos d) f ne = (d, refl, ne)
  coefficient_ne_zero (negsuc d) f ne = absurd (ne refl)
