-- Three terms of a polynomial times another polynomial, added to sums: what that gives modulo p.
--   triple p x y z l         (x + y·X + z·X²) times the polynomial of the array l
--   three_same               one sum with one coefficient of that product
--   triple_terms             the coefficients of that product, by the polynomial that l stands for
--   triple_same              the sums with the whole product
use Rattle.std.specs.Prelude.{◌≡◌, refl, length}
use Rattle.std.proofs.Common.{sym, ◌∙◌, add-one, arith, get_or-set_same, get_or-set_other}
use Rattle.std.proofs.Math.Path.{ap, ap₂, fun_ext}
use mathlib.Core.List.{List}
use Prim.Native.Nat.{ℕ, zero, suc, ◌+◌, ◌*◌, ◌≤◌}
use Rattle.std.proofs.Math.Nat as Nat
use Rattle.std.proofs.Math.Numerals.{add-two}
use Rattle.std.proofs.Math.ListN.{get_or}
use Rattle.algebra.specs.Ring as Ring
use Rattle.algebra.specs.Residue.{K, Residue, red, red_add, red_mul}
use Rattle.algebra.specs.Series.{shift}
use Rattle.field.specs.declared.Modulus.{Modulus}
use Rattle.field.specs.Modulus.{Made}
use Rattle.convolution.specs.Padded.{Stands}
use Rattle.convolution.specs.Steps.{folded, with_three, with_turns, length_turns}
use Rattle.convolution.specs.Fold.{folded_same}
use Rattle.convolution.specs.Shifted.{from, from_suc, shift_zeros, one_added}

-- x + y·X + z·X² times the polynomial of l, at power k.
unfoldable pub triple : (p x y z : ℕ) → List ℕ → ℕ → Residue p
triple p x y z l k = red p (x * get_or l (k + 2) 0 + y * get_or l (k + 1) 0 + z * get_or l k 0)

module _ (p : ℕ) where
  open K p use {C, 𝟘, ◌⊕◌, ◌⊗◌, add_zero}

  infixl 60 ◌⊕◌
  infixl 70 ◌⊗◌
  red_triple : (a b c x y z : ℕ) → red p (a * x + b * y + c * z) ≡ red p a ⊗ red p x ⊕ red p b ⊗ red p y ⊕ red p c ⊗ red p z
  red_triple a b c x y z =
      red_add p (a * x + b * y) (c * z)
      ∙ ap₂ (λ u v. u ⊕ v) (red_add p (a * x) (b * y) ∙ ap₂ (λ u v. u ⊕ v) (red_mul p a x) (red_mul p b y)) (red_mul p c z)

  -- The products vanish where the array has zeros.
  pub triple_zero : (x y z : ℕ) (l : List ℕ) (n : ℕ) → ((i : ℕ) → n ≤ i → red p (get_or l i 0) ≡ 𝟘) → (k : ℕ) → n ≤ k → triple p x y z l k ≡ 𝟘
  unfolding triple
  triple_zero x y z l n zeros k h =
      red_triple x y z (get_or l (k + 2) 0) (get_or l (k + 1) 0) (get_or l k 0)
      ∙ ap₂ (λ u v. u ⊕ v) (ap₂ (λ u v. u ⊕ v) (term x (k + 2) (omega arith)) (term y (k + 1) (omega arith)) ∙ add_zero 𝟘) (term z k h)
      ∙ add_zero 𝟘
    where
      term : (a i : ℕ) → n ≤ i → red p a ⊗ red p (get_or l i 0) ≡ 𝟘
      term a i b = ap (λ u. red p a ⊗ u) (zeros i b) ∙ Ring.mul_zero (K p) (red p a)

  -- The products by the polynomial that the array stands for.
  pub triple_terms : (x y z : ℕ) (l : List ℕ) (f : ℕ → C) → Stands p l f → (k : ℕ)
      → triple p x y z l k ≡ red p x ⊗ shift (K p) 2 f (suc (suc k)) ⊕ red p y ⊗ shift (K p) 2 f (suc k) ⊕ red p z ⊗ shift (K p) 2 f k
  unfolding triple
  triple_terms x y z l f stands k =
      red_triple x y z (get_or l (k + 2) 0) (get_or l (k + 1) 0) (get_or l k 0)
      ∙ ap₂ (λ u v. u ⊕ v) (ap₂ (λ u v. u ⊕ v) (term x (k + 2) (suc (suc k)) (add-two k)) (term y (k + 1) (suc k) (add-one k))) (term z k k refl)
    where
      term : (a i j : ℕ) → i ≡ j → red p a ⊗ red p (get_or l i 0) ≡ red p a ⊗ shift (K p) 2 f j
      term a i j e = ap (λ u. red p a ⊗ u) (stands i ∙ ap (shift (K p) 2 f) e)

module _ {μ : Modulus} (made : Made μ) (x y z : ℕ) (l : List ℕ) where
  abbrev p : ℕ
  p = μ.p

  abbrev t : ℕ → Residue μ.p
  t = triple μ.p x y z l

  -- A folded number and three products give the number with the products added.
  three_same : (k v : ℕ) → red p (with_three μ x y z l k v) ≡ (K p).◌⊕◌ (red p v) (t k)
  unfolding with_three triple
  three_same k v =
      let products : ℕ = x * get_or l (k + 2) 0 + y * get_or l (k + 1) 0 + z * get_or l k 0 in
      ap (red p) (omega arith) ∙ red_add p (folded μ v) products ∙ ap (λ u. (K p).◌⊕◌ u (red p products)) (folded_same made v)

  -- What is still to be added when the powers below n have been.
  turns_left : (at n : ℕ) (s : List ℕ) → at + n ≤ length s → (i : ℕ)
      → (K p).◌⊕◌ (red p (get_or (with_turns μ at x y z l n s) i 0)) (shift (K p) (at + n) (from n t) i)
      ≡ (K p).◌⊕◌ (red p (get_or s i 0)) (shift (K p) at t i)
  unfolding with_turns
  turns_left at zero s fits i =
      ap₂ (λ d g. (K p).◌⊕◌ (red p (get_or s i 0)) (shift (K p) d g i)) (Nat.add-zero at) (fun_ext (λ k. ap t (Nat.zero-add k)))
  turns_left at (suc k) s fits i =
      let s₁ : List ℕ = with_turns μ at x y z l k s in
      let s₂ : List ℕ = with_turns μ at x y z l (suc k) s in
      let r : ℕ = with_three μ x y z l k (get_or s₁ (at + k) 0) in
      ap₂ (λ d g. (K p).◌⊕◌ (red p (get_or s₂ i 0)) (shift (K p) d g i)) (Nat.add-suc at k) (sym (from_suc k t))
      ∙ one_added (K p) (λ i. red p (get_or s₁ i 0)) (λ i. red p (get_or s₂ i 0)) (from k t) (at + k)
      (ap (red p) (get_or-set_same s₁ (at + k) r 0 (omega (arith, length_turns μ at x y z l k s)))
      ∙ three_same k (get_or s₁ (at + k) 0)
      ∙ ap (λ j. (K p).◌⊕◌ (red p (get_or s₁ (at + k) 0)) (t j)) (sym (Nat.add-zero k)))
      (λ j ne. ap (red p) (get_or-set_other s₁ (at + k) j r 0 ne))
      i
      ∙ turns_left at k s (omega arith) i

  -- Nothing, where the rest of l is 0.
  pub triple_same : (at n : ℕ) (s : List ℕ) → at + n ≤ length s → ((i : ℕ) → n ≤ i → red p (get_or l i 0) ≡ (K p).𝟘)
      → (i : ℕ) → red p (get_or (with_turns μ at x y z l n s) i 0) ≡ (K p).◌⊕◌ (red p (get_or s i 0)) (shift (K p) at t i)
  triple_same at n s fits zeros i =
      let s' : List ℕ = with_turns μ at x y z l n s in
      sym ((K p).add_zero (red p (get_or s' i 0)))
      ∙ ap (λ u. (K p).◌⊕◌ (red p (get_or s' i 0)) u)
      (sym (shift_zeros (K p) (at + n) (from n t) (λ j. triple_zero p x y z l n zeros (n + j) (omega arith)) i))
      ∙ turns_left at n s fits i
