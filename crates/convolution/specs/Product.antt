-- The product of two polynomials added to sums: what that gives modulo p.
--   AddedProduct             the sums with the product of two polynomials added
--   added_product            so the steps of the product leave them
use Rattle.std.specs.Prelude.{◌≡◌, List, length, get_or}
use Rattle.std.proofs.Common.{sym, ap₂, ◌∙◌, arith}
use Rattle.std.proofs.Math.Path.{ap, fun_ext}
use Prim.Native.Nat.{ℕ, zero, suc, ◌+◌, ◌*◌, ◌/◌, ◌≤◌}
use Rattle.std.proofs.Math.Nat as Nat
use Rattle.algebra.specs.Ring as Ring
use Rattle.algebra.specs.Residue.{K, Residue, red}
use Rattle.algebra.specs.Series.{shift, convolve, convolve_vanishes}
use Rattle.algebra.specs.Polynomial.{Below}
use Rattle.rules.specs.Sizes.{most_rows, most_length}
use Rattle.field.specs.declared.Modulus.{Modulus}
use Rattle.field.specs.Modulus.{Made}
use Rattle.polynomial.specs.Coefficients.{most_power}
use Rattle.convolution.specs.Padded.{Stands, capacity}
use Rattle.convolution.specs.Steps.{with_triple, with_triples, with_product, length_triples}
use Rattle.convolution.specs.Shifted.{from, shift_zeros, three_added}
use Rattle.convolution.specs.Triple.{triple, triple_terms, triple_same}

-- s' is s with the product of the polynomials of e and l added, if those have no power from n on and none above top.
pub record AddedProduct (p n top : ℕ) (e l s s' : List ℕ) : Type 0 where
  pub long : length s' ≡ capacity
  pub same : (f g : ℕ → Residue p) → Stands p e f → Below (K p) n f → Stands p l g → Below (K p) (suc top) g
      → (i : ℕ) → red p (get_or s' i 0) ≡ (K p).◌⊕◌ (red p (get_or s i 0)) (convolve (K p) f g i)

module _ (p : ℕ) where
  open K p use {C, 𝟘, ◌⊕◌, ◌⊗◌}

  infixl 60 ◌⊕◌
  infixl 70 ◌⊗◌
  stands_at : (l : List ℕ) (f : ℕ → C) → Stands p l f → (i j : ℕ) → i ≡ suc (suc j) → red p (get_or l i 0) ≡ f j
  unfolding shift
  stands_at l f stands i j e = stands i ∙ ap (shift (K p) 2 f) e

  -- What is still to be added after the terms at the powers d, d + 1 and d + 2 of the polynomial of e have been multiplied.
  product_step : (e l : List ℕ) (f g : ℕ → C) → Stands p e f → Stands p l g → (s s' : ℕ → C) (d : ℕ)
      → ((i : ℕ) → s' i ≡ s i ⊕ shift (K p) d (triple p (get_or e (d + 2) 0) (get_or e (d + 3) 0) (get_or e (d + 4) 0) l) i)
      → (i : ℕ) → s' i ⊕ shift (K p) (d + 3) (convolve (K p) (from (d + 3) f) g) i ≡ s i ⊕ shift (K p) d (convolve (K p) (from d f) g) i
  product_step e l f g he hl s s' d added i =
      ap (λ h. s' i ⊕ shift (K p) (d + 3) (convolve (K p) h g) i) (fun_ext (λ j. ap f (omega arith)))
      ∙ three_added (K p) s s' (triple p (get_or e (d + 2) 0) (get_or e (d + 3) 0) (get_or e (d + 4) 0) l) (from d f) g d terms added i
    where
      terms : (k : ℕ)
          → triple p (get_or e (d + 2) 0) (get_or e (d + 3) 0) (get_or e (d + 4) 0) l k
          ≡ f (d + 0) ⊗ shift (K p) 2 g (suc (suc k)) ⊕ f (d + 1) ⊗ shift (K p) 2 g (suc k) ⊕ f (d + 2) ⊗ shift (K p) 2 g k
      terms k =
          triple_terms p (get_or e (d + 2) 0) (get_or e (d + 3) 0) (get_or e (d + 4) 0) l g hl k
          ∙ ap₂ (λ u v. u ⊕ v ⊗ shift (K p) 2 g k)
          (ap₂ (λ u v. u ⊗ shift (K p) 2 g (suc (suc k)) ⊕ v ⊗ shift (K p) 2 g (suc k)) (stands_at e f he (d + 2) (d + 0) (omega arith))
          (stands_at e f he (d + 3) (d + 1) (omega arith)))
          (stands_at e f he (d + 4) (d + 2) (omega arith))

  -- Where the first factor has no power from d on, nothing is left to be added.
  product_end : (f g : ℕ → C) (n d : ℕ) → Below (K p) n f → n ≤ d → (i : ℕ) → shift (K p) d (convolve (K p) (from d f) g) i ≡ 𝟘
  product_end f g n d below h =
      shift_zeros (K p) d (convolve (K p) (from d f) g)
      (λ k. convolve_vanishes (K p) (from d f) g k (λ i j e. ap (λ u. u ⊗ g j) (below (d + i) (omega arith)) ∙ Ring.zero_mul (K p) (g j)))

  -- The array of a polynomial with no power above top has zeros from top + 3 on.
  stands_zeros : (l : List ℕ) (g : ℕ → C) (top : ℕ) → Stands p l g → Below (K p) (suc top) g → (i : ℕ) → top + 3 ≤ i → red p (get_or l i 0) ≡ 𝟘
  unfolding shift
  stands_zeros l g top stands below zero h = absurd (omega arith)
  stands_zeros l g top stands below (suc zero) h = absurd (omega arith)
  stands_zeros l g top stands below (suc (suc i)) h = stands (suc (suc i)) ∙ below i (omega arith)

-- What is still to be added when the terms below 3·j have been.
triples_left : {μ : Modulus} → Made μ → (top : ℕ) (e l : List ℕ) (f g : ℕ → Residue μ.p) → Stands μ.p e f → Stands μ.p l g
    → Below (K μ.p) (suc top) g → (j : ℕ) (s : List ℕ) → 3 * j + top ≤ length s → (i : ℕ)
    → (K μ.p).◌⊕◌ (red μ.p (get_or (with_triples μ top e l j s) i 0)) (shift (K μ.p) (3 * j) (convolve (K μ.p) (from (3 * j) f) g) i)
    ≡ (K μ.p).◌⊕◌ (red μ.p (get_or s i 0)) (convolve (K μ.p) f g i)
unfolding with_triples with_triple shift
triples_left {μ} made top e l f g he hl below zero s fits i =
    ap (λ f'. (K μ.p).◌⊕◌ (red μ.p (get_or s i 0)) (convolve (K μ.p) f' g i)) (fun_ext (λ k. ap f (Nat.zero-add k)))
triples_left {μ} made top e l f g he hl below (suc j) s fits i =
    let s₁ : List ℕ = with_triples μ top e l j s in
    let s₂ : List ℕ = with_triples μ top e l (suc j) s in
    let next : 3 * suc j ≡ 3 * j + 3 = omega arith in
    ap (λ d. (K μ.p).◌⊕◌ (red μ.p (get_or s₂ i 0)) (shift (K μ.p) d (convolve (K μ.p) (from d f) g) i)) next
    ∙ product_step μ.p e l f g he hl (λ i. red μ.p (get_or s₁ i 0)) (λ i. red μ.p (get_or s₂ i 0)) (3 * j)
    (triple_same made (get_or e (3 * j + 2) 0) (get_or e (3 * j + 3) 0) (get_or e (3 * j + 4) 0) l (3 * j) (top + 3) s₁
    (omega (arith, length_triples μ top e l j s)) (stands_zeros μ.p l g top hl below))
    i
    ∙ triples_left made top e l f g he hl below j s (omega arith) i

pub added_product : {μ : Modulus} {n top : ℕ} {e l s : List ℕ} → Made μ → n + top ≤ most_power + 1 → length s ≡ capacity
    → AddedProduct μ.p n top e l s (with_product μ n top e l s)
unfolding with_product capacity most_power most_rows most_length
added_product {μ} {n} {top} {e} {l} {s} made fits long = record {
  long = length_triples μ top e l ((n + 2) / 3) s ∙ long;
  same = λ f g he bf hl bg i.
      let s' : List ℕ = with_triples μ top e l ((n + 2) / 3) s in
      sym ((K μ.p).add_zero (red μ.p (get_or s' i 0)))
      ∙ ap (λ u. (K μ.p).◌⊕◌ (red μ.p (get_or s' i 0)) u) (sym (product_end μ.p f g n (3 * ((n + 2) / 3)) bf (omega arith) i))
      ∙ triples_left made top e l f g he hl bg ((n + 2) / 3) s (omega (arith, long)) i;
}
