-- The product of two series, three coefficients of the first factor at a time, over any ring. What is still to be added is kept as a shifted
-- series: X^d·g, where d is the power that comes next.
--   from k g                 the coefficients of g from k on
--   one_added, three_added   what is left after one coefficient of a term, and after three coefficients of the first factor
--   convolve_three           the first three coefficients of the first factor, and the rest
use Rattle.std.specs.Prelude.{◌≡◌, ◌≢◌, [], ◌∷◌}
use Rattle.std.proofs.Math.Path.{refl, sym, ap, fun_ext}
use Rattle.std.proofs.Common.{ap₂, ◌∙◌, arith}
use Prim.Native.Nat.{ℕ, zero, suc, ◌+◌}
use Rattle.std.proofs.Math.Nat as Nat
use Rattle.std.proofs.Math.Decide.{ℕ_discrete}
use Rattle.algebra.specs.Ring.{CommRing}
use Rattle.algebra.specs.Solver.{v0, v1, v2, v3, v4, v5, v6, ⓪, ◌⊞◌, ◌⊠◌, ring}
use Rattle.algebra.specs.Series.{tail, shift, shift_below, shift_above, convolve}

-- The coefficients from k on.
abbrev pub from : {A : Type 0} → ℕ → (ℕ → A) → ℕ → A
from k g i = g (k + i)

pub from_suc : {A : Type 0} (k : ℕ) (g : ℕ → A) → ◌≡◌ {A = ℕ → A} (λ i. from k g (suc i)) (from (suc k) g)
from_suc k g = fun_ext (λ i. ap g (omega arith))

module _ (R : CommRing) where
  open R use {C, 𝟘, ◌⊕◌, ◌⊗◌, add_assoc, add_zero}

  infixl 60 ◌⊕◌
  infixl 70 ◌⊗◌
  shift_at : (d : ℕ) (g : ℕ → C) → shift R d g d ≡ g zero
  shift_at d g = ap (shift R d g) (sym (Nat.add-zero d)) ∙ shift_above R d g zero

  shift_other : (d : ℕ) (g : ℕ → C) (i : ℕ) → i ≢ d → shift R d g i ≡ shift R (suc d) (tail R g) i
  unfolding shift
  shift_other zero g zero ne = absurd (ne refl)
  shift_other zero g (suc i) ne = refl
  shift_other (suc d) g zero ne = refl
  shift_other (suc d) g (suc i) ne = shift_other d g i (λ e. ne (ap suc e))

  -- A series of zeros stays one when it is shifted.
  pub shift_zeros : (d : ℕ) (g : ℕ → C) → ((k : ℕ) → g k ≡ 𝟘) → (i : ℕ) → shift R d g i ≡ 𝟘
  unfolding shift
  shift_zeros zero g z i = z i
  shift_zeros (suc d) g z zero = refl
  shift_zeros (suc d) g z (suc i) = shift_zeros d g z i

  shift_sum : (d : ℕ) (f g : ℕ → C) (i : ℕ) → shift R d (λ k. f k ⊕ g k) i ≡ shift R d f i ⊕ shift R d g i
  unfolding shift
  shift_sum zero f g i = refl
  shift_sum (suc d) f g zero = sym (add_zero 𝟘)
  shift_sum (suc d) f g (suc i) = shift_sum d f g i

  shift_shift : (d e : ℕ) (g : ℕ → C) (i : ℕ) → shift R d (shift R e g) i ≡ shift R (d + e) g i
  unfolding shift
  shift_shift zero e g i = ap (λ d. shift R d g i) (sym (Nat.zero-add e))
  shift_shift (suc d) e g zero = ap (λ d. shift R d g zero) (sym (Nat.suc-add d e))
  shift_shift (suc d) e g (suc i) = shift_shift d e g i ∙ ap (λ d. shift R d g (suc i)) (sym (Nat.suc-add d e))

  -- What is still to be added after the next coefficient has been.
  pub one_added : (s s' g : ℕ → C) (d : ℕ) → s' d ≡ s d ⊕ g zero → ((i : ℕ) → i ≢ d → s' i ≡ s i)
      → (i : ℕ) → s' i ⊕ shift R (suc d) (tail R g) i ≡ s i ⊕ shift R d g i
  one_added s s' g d at other i = elim (ℕ_discrete i d) [
    | yes e ↦
        ap (λ j. s' j ⊕ shift R (suc d) (tail R g) j) e
        ∙ ap₂ (λ x y. x ⊕ y) at (shift_below R (suc d) (tail R g) d (omega arith))
        ∙ add_zero (s d ⊕ g zero)
        ∙ ap (λ x. s d ⊕ x) (sym (shift_at d g))
        ∙ ap (λ j. s j ⊕ shift R d g j) (sym e)
    | no ne ↦ ap₂ (λ x y. x ⊕ y) (other i ne) (sym (shift_other d g i ne))
  ]

  -- The first three coefficients of the first factor, and the rest.
  pub convolve_three : (h f : ℕ → C) (k : ℕ)
      → convolve R h f k
      ≡ h 0 ⊗ shift R 2 f (suc (suc k)) ⊕ h 1 ⊗ shift R 2 f (suc k) ⊕ h 2 ⊗ shift R 2 f k ⊕ shift R 3 (convolve R (λ i. h (suc (suc (suc i)))) f) k
  unfolding convolve shift
  convolve_three h f zero = ring R (h 0 ∷ h 1 ∷ h 2 ∷ f 0 ∷ []) (v0 ⊠ v3) (v0 ⊠ v3 ⊞ v1 ⊠ ⓪ ⊞ v2 ⊠ ⓪ ⊞ ⓪) refl
  convolve_three h f (suc zero) = ring R (h 0 ∷ h 1 ∷ h 2 ∷ f 0 ∷ f 1 ∷ []) (v0 ⊠ v4 ⊞ v1 ⊠ v3) (v0 ⊠ v4 ⊞ v1 ⊠ v3 ⊞ v2 ⊠ ⓪ ⊞ ⓪) refl
  convolve_three h f (suc (suc zero)) =
      ring R (h 0 ∷ h 1 ∷ h 2 ∷ f 0 ∷ f 1 ∷ f 2 ∷ []) (v0 ⊠ v5 ⊞ (v1 ⊠ v4 ⊞ v2 ⊠ v3)) (v0 ⊠ v5 ⊞ v1 ⊠ v4 ⊞ v2 ⊠ v3 ⊞ ⓪) refl
  convolve_three h f (suc (suc (suc k))) =
      ring R (h 0 ∷ h 1 ∷ h 2 ∷ f (suc k) ∷ f (suc (suc k)) ∷ f (suc (suc (suc k))) ∷ convolve R (λ i. h (suc (suc (suc i)))) f k ∷ [])
      (v0 ⊠ v5 ⊞ (v1 ⊠ v4 ⊞ (v2 ⊠ v3 ⊞ v6))) (v0 ⊠ v5 ⊞ v1 ⊠ v4 ⊞ v2 ⊠ v3 ⊞ v6) refl

  -- What is still to be added after three coefficients of the first factor have been multiplied.
  pub three_added : (s s' t h f : ℕ → C) (d : ℕ)
      → ((k : ℕ) → t k ≡ h 0 ⊗ shift R 2 f (suc (suc k)) ⊕ h 1 ⊗ shift R 2 f (suc k) ⊕ h 2 ⊗ shift R 2 f k)
      → ((i : ℕ) → s' i ≡ s i ⊕ shift R d t i)
      → (i : ℕ) → s' i ⊕ shift R (d + 3) (convolve R (λ i. h (suc (suc (suc i)))) f) i ≡ s i ⊕ shift R d (convolve R h f) i
  three_added s s' t h f d terms added i =
      ap₂ (λ x y. x ⊕ y) (added i) (sym (shift_shift d 3 rest i))
      ∙ add_assoc (s i) (shift R d t i) (shift R d (shift R 3 rest) i)
      ∙ ap (λ x. s i ⊕ x)
      (sym (shift_sum d t (shift R 3 rest) i)
      ∙ ap (λ g. shift R d g i) (fun_ext (λ k. ap (λ x. x ⊕ shift R 3 rest k) (terms k) ∙ sym (convolve_three h f k))))
    where
      rest : ℕ → C
      rest = convolve R (λ i. h (suc (suc (suc i)))) f
