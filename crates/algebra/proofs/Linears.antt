-- Products of linear factors X − a.
--   linears l                the product of X − a over the a of l
--   Splits Q f               f is a unit times a product of X − a with a in Q
--   factor_of_linears        a factor of a product of linear factors is a unit times some of them
use Rattle.std.specs.Prelude.{◌≡◌, ◌≢◌, length, replicate}
use Rattle.std.proofs.Math.Path.{refl, sym, ap, ap₂, subst}
use Rattle.std.proofs.Common.{◌∙◌, le_of_suc-le-suc, not-suc-le-zero, arith}
use Rattle.std.proofs.Math.Logic.{inl, inr}
use mathlib.Core.List.{List, [], ◌∷◌, ◌++◌}
use Prim.Native.Nat.{ℕ, zero, suc, ◌<◌}
use Rattle.algebra.specs.Ring as Ring
use Rattle.algebra.specs.Ring.{CommRing, Decides, Cancels, Nontrivial, power}
use Rattle.algebra.specs.Series.{convolve, constant, shift}
use Rattle.algebra.proofs.Series.{Series, constant_mul, shift_suc}
use Rattle.algebra.specs.Polynomial.{Below, below_mono, below_constant, Poly}
use Rattle.algebra.proofs.Polynomial.{below_mul_suc, mul_leading, constant_of_unit_product, poly_mul}
use Rattle.algebra.specs.Evaluation.{Evaluates}
use Rattle.algebra.proofs.Evaluation.{root_of_factor}
use Rattle.algebra.specs.Root.{lin, lin_zero, below_lin}
use Rattle.algebra.proofs.Root.{divide_root, root_of_multiple, poly_quo, cancel_lin}
use Rattle.algebra.specs.Linears.{All, joined, all_nil, all_cons}

module _ (R : CommRing) where
  open R use {C, 𝟘, 𝟙, ◌⊗◌, mul_one}
  open Series R use {◌⊗◌ as ◌⊠◌, 𝟘 as 𝟘ₛ, mul_assoc as mul_assocₛ, mul_one as mul_oneₛ}

  infixl 70 ◌⊗◌
  infixl 70 ◌⊠◌
  -- The product of X − a over the a of a list.
  unfoldable pub linears : List C → ℕ → C
  linears [] = constant R 𝟙
  linears (a ∷ l) = lin R a ⊠ linears l

  -- The product over two lists one after the other.
  pub linears_append : (l l' : List C) → linears (l ++ l') ≡ linears l ⊠ linears l'
  unfolding linears
  linears_append [] l' = sym (Ring.one_mul (Series R) (linears l'))
  linears_append (a ∷ l) l' = ap (λ s. lin R a ⊠ s) (linears_append l l') ∙ sym (mul_assocₛ (lin R a) (linears l) (linears l'))

  -- The product is monic, of the degree of the list's length: no coefficient stands above …
  pub below_linears : (l : List C) → Below R (suc (length l)) (linears l)
  unfolding linears
  below_linears [] = below_constant R 𝟙
  below_linears (a ∷ l) = below_mono R (lin R a ⊠ linears l) (omega arith) (below_mul_suc R (lin R a) (linears l) (below_lin R a) (below_linears l))

  -- … and the one there is 1.
  pub linears_leading : (l : List C) → linears l (length l) ≡ 𝟙
  unfolding linears lin constant
  linears_leading [] = refl
  linears_leading (a ∷ l) =
      ap (lin R a ⊠ linears l) (omega arith) ∙ mul_leading R (lin R a) (linears l) (below_lin R a) (below_linears l) ∙ Ring.one_mul R _ ∙ linears_leading l

  -- Over a ring in which 1 is not 0 the product is not 0.
  pub linears_ne_zero : Nontrivial R → (l : List C) → linears l ≢ 𝟘ₛ
  linears_ne_zero nontrivial l h = nontrivial (sym (linears_leading l) ∙ ap (λ s. s (length l)) h)

  -- The product over equal lists is a power.
  pub linears_power : (n : ℕ) (l : List C) → linears (joined R n (λ j. l)) ≡ power (Series R) (linears l) n
  unfolding joined linears power
  linears_power zero l = refl
  linears_power (suc n) l = linears_append l (joined R n (λ j. l)) ∙ ap (λ s. linears l ⊠ s) (linears_power n l)

  -- The polynomial that is the product of X − a over the a of a list.
  abbrev pub poly_linears : List C → Poly R
  poly_linears l = record { series = linears l; bound = suc (length l); below = below_linears l }

  -- The product over one of several lists divides that over all.
  pub linears_joined : (n : ℕ) (r : ℕ → List C) (j : ℕ) → j < n → (q : Poly R) × (linears (joined R n r) ≡ linears (r j) ⊠ q.series)
  unfolding joined
  linears_joined zero r j h = absurd (not-suc-le-zero h)
  linears_joined (suc n) r zero h = (poly_linears (joined R n (λ j. r (suc j))), linears_append (r zero) (joined R n (λ j. r (suc j))))
  linears_joined (suc n) r (suc j) h =
      let (q, e) = linears_joined n (λ j. r (suc j)) j (le_of_suc-le-suc h) in (
        poly_mul R (poly_linears (r zero)) q,
        linears_append (r zero) (joined R n (λ j. r (suc j)))
            ∙ ap (λ s. linears (r zero) ⊠ s) e
            ∙ Ring.mul_left_comm (Series R) (linears (r zero)) (linears (r (suc j))) q.series,
      )

  -- The product of d factors X − 0 is X^d.
  pub linears_replicate : (d : ℕ) (f : ℕ → C) → linears (replicate d 𝟘) ⊠ f ≡ shift R d f
  unfolding linears shift
  linears_replicate zero f = Ring.one_mul (Series R) f
  linears_replicate (suc d) f =
      mul_assocₛ (lin R 𝟘) (linears (replicate d 𝟘)) f
      ∙ ap₂ (λ s t. s ⊠ t) (lin_zero R) (linears_replicate d f)
      ∙ sym (shift_suc R d f)

  -- The series is a unit times a product of linear factors whose roots are in Q.
  abbrev pub Splits : (C → Type 0) → (ℕ → C) → Type 0
  Splits Q f = (c : C) × (c' : C) × (l : List C) × All Q l × (f ≡ constant R c ⊠ linears l) × (c ⊗ c' ≡ 𝟙)

  -- It is not 0.
  pub splits_ne_zero : Nontrivial R → (Q : C → Type 0) (f : ℕ → C) → Splits Q f → f ≢ 𝟘ₛ
  splits_ne_zero nontrivial Q f (c, c', l, all, e, u) z =
      nontrivial
      (sym u
      ∙ ap (λ x. x ⊗ c')
      (sym (mul_one c) ∙ ap (λ x. c ⊗ x) (sym (linears_leading l)) ∙ sym (constant_mul R c (linears l) (length l)) ∙ ap (λ s. s (length l)) (sym e ∙ z))
      ∙ Ring.zero_mul R c')

  splits_lin : (Q : C → Type 0) (a : C) (f : ℕ → C) → Q a → Splits Q f → Splits Q (lin R a ⊠ f)
  unfolding linears
  splits_lin Q a f qa (c, c', l, all, e, u) =
      (c, c', a ∷ l, all_cons qa all, ap (λ s. lin R a ⊠ s) e ∙ Ring.mul_left_comm (Series R) (lin R a) (constant R c) (linears l), u)

  splits_constant : (Q : C → Type 0) (f g : ℕ → C) → f ≡ constant R (f zero) → f ⊠ g ≡ constant R 𝟙 → Splits Q f
  unfolding linears convolve constant
  splits_constant Q f g p h = (f zero, g zero, [], all_nil, p ∙ sym (mul_oneₛ _), ap (λ s. s zero) h)

  -- A factor of a product of linear factors is a unit times a product of some of them.
  pub factor_of_linears : Decides R → Cancels R → Nontrivial R → (Q : C → Type 0) (f g : Poly R) (l : List C) → All Q l → f.series ⊠ g.series ≡ linears l
      → Splits Q f.series
  unfolding linears
  factor_of_linears decides cancels nontrivial Q f g [] all_nil h =
      splits_constant Q f.series g.series (constant_of_unit_product R decides cancels f g 𝟙 nontrivial h).0 h
  factor_of_linears decides cancels nontrivial Q f g (a ∷ l) (all_cons qa rest) h =
      elim (root_of_factor R decides cancels a f g (subst (λ s. Evaluates R a s 𝟘) (sym h) (root_of_multiple R a (linears l) (below_linears l)))) [
        | inl p ↦
            let divided : f.series ≡ lin R a ⊠ (poly_quo R a f).series = divide_root R a f.series f.below p in
            subst (Splits Q) (sym divided) (splits_lin Q a (poly_quo R a f).series qa (factor_of_linears decides cancels nontrivial Q (poly_quo R a f) g l rest
            (cancel_lin R decides cancels nontrivial a ((poly_quo R a f).series ⊠ g.series) (linears l)
            (sym (mul_assocₛ _ _ _)
            ∙ ap (λ s. s ⊠ g.series) (sym divided)
            ∙ h))))
        | inr p ↦ factor_of_linears decides cancels nontrivial Q f (poly_quo R a g) l rest
            (cancel_lin R decides cancels nontrivial a (f.series ⊠ (poly_quo R a g).series) (linears l)
            (Ring.mul_left_comm (Series R) (lin R a) f.series (poly_quo R a g).series
            ∙ ap (λ s. f.series ⊠ s) (sym (divide_root R a g.series g.below p))
            ∙ h))
      ]
