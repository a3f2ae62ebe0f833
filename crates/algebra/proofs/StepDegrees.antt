-- A step keeps the determinant a nonzero constant times a power of X, and the leading matrix nonsingular for the degrees that it raises.
--   constants_related        the constants are a copy of the ring
--   next_monomial            the determinant
--   unit_lead                the identity has the degrees of its shifts
--   next_lead, next_nonsingular      the entries obey the degrees, and the leading matrix
use Rattle.std.specs.Prelude.{◌≡◌, refl, ◌≢◌, Bool, [], ◌∷◌, ℤ, pos, ◌+ℤ◌, ◌-ℤ◌}
use Rattle.std.proofs.Math.Path.{sym, ap₂, subst}
use Rattle.std.proofs.Common.{ap, ◌∙◌, add-sub_of_le, arith}
use Rattle.std.proofs.Math.Bool.{true, false}
use Prim.Native.Nat.{ℕ, zero, suc, ◌+◌, ◌-◌, ◌<◌}
use Rattle.std.proofs.Math.Decide.{dec_lt, ℕ_discrete}
use Rattle.std.proofs.Math.IntN.{+ℤ_invr, +ℤ_idr, +ℤ_comm}
use Rattle.algebra.specs.Ring as Ring
use Rattle.algebra.specs.Ring.{CommRing, RingRelation, Decides, Cancels, Nontrivial, power}
use Rattle.algebra.specs.Solver.{v0, v1, v2, ⓪, ◌⊞◌, ⊟◌, ring}
use Rattle.algebra.specs.Integer.{Integers, More}
use Rattle.algebra.specs.Series.{constant}
use Rattle.algebra.proofs.Series.{Series, constant_mul, constant_zero, constant_add, constant_product, constant_neg}
use Rattle.algebra.specs.Series.{shift, X, shift_below, shift_above}
use Rattle.algebra.proofs.Series.{shift_suc, shift_power}
use Rattle.algebra.specs.Polynomial.{below_X}
use Rattle.algebra.specs.Matrix.{Matrix, unit, unit_diagonal, unit_off, vmul, mmul, vmul_cong, unit_related}
use Rattle.algebra.specs.Det.{det, det_local}
use Rattle.algebra.proofs.Det.{det_related}
use Rattle.algebra.proofs.ProductRule.{det_mul}
use Rattle.algebra.specs.Degree.{AtMost, coefficient, Lead, at_most_zeros, coefficient_zeros, at_most_constant}
use Rattle.algebra.proofs.Degree.{leading, EntriesAtMost}
use Rattle.algebra.specs.Degree.{coefficient_constant, lead_at}
use Rattle.algebra.proofs.Degree.{at_most_add, coefficient_add, at_most_neg, coefficient_neg, at_most_mono, lead_mul}
use Rattle.algebra.proofs.Predictable.{row_coefficient, vmul_degree}
use Rattle.algebra.specs.OrderBasis.{Monomial}
use Rattle.algebra.specs.Clearing.{factors, det_factors, Clears, less}
use Rattle.algebra.proofs.Clearing.{det_less}
use Rattle.algebra.specs.Step.{once, cleared, next}
use Rattle.algebra.proofs.Step.{lessₛ, cleared_is}

module _ (R : CommRing) where
  open R use {C, 𝟘, 𝟙, ◌⊕◌, ◌⊗◌}
  open Series R use {◌⊕◌ as ◌⊞ₛ◌, ◌⊗◌ as ◌⊠ₛ◌, ⊖◌ as ⊟ₛ◌}

  infixl 60 ◌⊕◌
  infixl 70 ◌⊗◌
  infixl 60 ◌⊞ₛ◌
  infixl 70 ◌⊠ₛ◌
  infix 80 ⊟ₛ◌
  -- The constants are a copy of the ring.
  pub constants_related : RingRelation R (Series R) (λ a f. f ≡ constant R a)
  constants_related = record {
    rel_zero = sym (constant_zero R);
    rel_one = refl;
    rel_add = λ {a} {b} p q. ap₂ (λ x y. x ⊞ₛ y) p q ∙ sym (constant_add R a b);
    rel_mul = λ {a} {b} p q. ap₂ (λ x y. x ⊠ₛ y) p q ∙ sym (constant_product R a b);
    rel_neg = λ {a} p. ap (λ x. ⊟ₛ x) p ∙ sym (constant_neg R a);
  }

  -- The determinant of the identity less constants is a constant.
  det_lessₛ : (m : ℕ) (w : Matrix R) → det (Series R) m (lessₛ R w) ≡ constant R (det R m (less R w))
  unfolding less
  det_lessₛ m w =
      det_related R (Series R) (λ a f. f ≡ constant R a) constants_related m (less R w) (lessₛ R w)
      (λ i j hi hj. constants_related.rel_add (unit_related R (Series R) (λ a f. f ≡ constant R a) constants_related i j) (constants_related.rel_neg refl))

  -- A multiple by X^d of a nonzero constant times a power of X is one, …
  monomial_shift : (d : ℕ) (f : ℕ → C) → Monomial R f → Monomial R (shift R d f)
  monomial_shift d f (e, ne, others) = (d + e, λ z. ne (sym (shift_above R d f e) ∙ z), off)
    where
      off : (k : ℕ) → k ≢ d + e → shift R d f k ≡ 𝟘
      off k nk = elim (dec_lt k d) [
        | yes low ↦ shift_below R d f k low
        | no high ↦
            ap (shift R d f) (sym (add-sub_of_le {n = k} {m = d} (omega arith)))
            ∙ shift_above R d f (k - d)
            ∙ others (k - d) (λ p. nk (omega arith))
      ]

  -- … and so are one by several powers …
  monomial_factors : (n : ℕ) (d : ℕ → ℕ) (f : ℕ → C) → Monomial R f → Monomial R (factors (Series R) n (λ i. power (Series R) (X R) (d i)) ⊠ₛ f)
  unfolding factors
  monomial_factors zero d f h = subst (Monomial R) (sym (Ring.one_mul (Series R) f)) h
  monomial_factors (suc n) d f h =
      subst (Monomial R)
      (shift_power R (d zero) (factors (Series R) n (λ i. power (Series R) (X R) (d (suc i))) ⊠ₛ f)
      ∙ sym ((Series R).mul_assoc (power (Series R) (X R) (d zero)) (factors (Series R) n (λ i. power (Series R) (X R) (d (suc i)))) f))
      (monomial_shift (d zero) _ (monomial_factors n (λ i. d (suc i)) f h))

  -- … and one by a nonzero constant.
  monomial_constant : Cancels R → (c : C) (f : ℕ → C) → c ≢ 𝟘 → Monomial R f → Monomial R (constant R c ⊠ₛ f)
  monomial_constant cancels c f nc (e, ne, others) = (
    e,
    λ z. Ring.mul_ne_zero R cancels c (f e) nc ne (sym (constant_mul R c f e) ∙ z),
    λ k nk. constant_mul R c f k ∙ ap (λ x. c ⊗ x) (others k nk) ∙ Ring.mul_zero R c,
  )

  -- A step keeps the determinant a nonzero constant times a power of X.
  pub next_monomial : Cancels R → Nontrivial R → (m : ℕ) (pivot : ℕ → Bool) (w : Matrix R) → Clears R m pivot w → (P : Matrix (Series R))
      → Monomial R (det (Series R) m P) → Monomial R (det (Series R) m (next R m pivot w P))
  unfolding next
  next_monomial cancels nontrivial m pivot w clears P h =
      subst (Monomial R) (sym same)
      (monomial_factors m (λ i. once (pivot i)) _ (monomial_constant cancels _ _ (det_less R m pivot w clears nontrivial) h))
    where
      raise : ℕ → ℕ → C
      raise i = power (Series R) (X R) (once (pivot i))

      same : det (Series R) m (next R m pivot w P) ≡ factors (Series R) m raise ⊠ₛ (constant R (det R m (less R w)) ⊠ₛ det (Series R) m P)
      same =
          det_local (Series R) m (next R m pivot w P) (λ i j. raise i ⊠ₛ mmul (Series R) m (lessₛ R w) P i j)
          (λ i j hi hj. shift_power R (once (pivot i)) (cleared R m w P i j) ∙ ap (λ x. raise i ⊠ₛ x) (cleared_is R m w P i j hi))
          ∙ det_factors (Series R) m raise (mmul (Series R) m (lessₛ R w) P)
          ∙ ap (λ x. factors (Series R) m raise ⊠ₛ x) (det_mul (Series R) m (lessₛ R w) P ∙ ap (λ x. x ⊠ₛ det (Series R) m P) (det_lessₛ m w))

  -- DEGREES

  -- The identity has the degrees of its shifts.
  pub unit_lead : (s : ℕ → ℤ) (i j : ℕ) → Lead R (s i -ℤ s j) (unit (Series R) i j) (unit R i j)
  unit_lead s i j = by (ℕ_discrete i j)
    where
      diagonal : Lead R (s i -ℤ s i) (unit (Series R) i i) (unit R i i)
      diagonal =
          lead_at R (unit (Series R) i i) (unit R i i) (sym (+ℤ_invr (s i))) (
            subst (AtMost R (pos zero)) (sym (unit_diagonal (Series R) i)) (at_most_constant R 𝟙),
            ap (coefficient R (pos zero)) (unit_diagonal (Series R) i) ∙ coefficient_constant R 𝟙 ∙ sym (unit_diagonal R i),
          )

      by : Dec (i ≡ j) → Lead R (s i -ℤ s j) (unit (Series R) i j) (unit R i j)
      by (yes e) = subst (λ j. Lead R (s i -ℤ s j) (unit (Series R) i j) (unit R i j)) e diagonal
      by (no ne) = (
        at_most_zeros R (s i -ℤ s j) (unit (Series R) i j) (λ k. ap (λ f. f k) (unit_off (Series R) i j ne)),
        coefficient_zeros R (s i -ℤ s j) (unit (Series R) i j) (λ k. ap (λ f. f k) (unit_off (Series R) i j ne)) ∙ sym (unit_off R i j ne),
      )

  -- A multiple by X has a degree one higher, and the same coefficient there.
  shift_lead : (b : Bool) (e : ℤ) (f : ℕ → C) (c : C) → Lead R e f c → Lead R (e +ℤ pos (once b)) (shift R (once b) f) c
  unfolding shift AtMost coefficient X constant
  shift_lead false e f c h = lead_at R f c (sym (+ℤ_idr e)) h
  shift_lead true e f c h =
      lead_at R (shift R 1 f) c (+ℤ_comm (pos 1) e)
      (subst (λ g. Lead R (pos 1 +ℤ e) g c) (sym (shift_suc R zero f))
      (subst (λ x. Lead R (pos 1 +ℤ e) (X R ⊠ₛ f) x) (Ring.one_mul R c) (lead_mul R (pos 1) e (X R) f 𝟙 c (below_X R, refl) h)))

  sub_add : (a b c : ℤ) → a -ℤ b +ℤ c ≡ a +ℤ c -ℤ b
  sub_add a b c = ring Integers (a ∷ b ∷ c ∷ []) (v0 ⊞ ⊟ v1 ⊞ v2) (v0 ⊞ v2 ⊞ ⊟ v1) refl

  module _ (decides : Decides R) (m : ℕ) (r s : ℕ → ℤ) (P : Matrix (Series R)) (bounded : EntriesAtMost R m m r s P) (pivot : ℕ → Bool) (w : Matrix R)
      (clears : Clears R m pivot w) (none_higher : (i q : ℕ) → i < m → q < m → w i q ≢ 𝟘 → More (r q) (r i))
    where
      constants_at_most : (i q : ℕ) → i < m → q < m → AtMost R (r i -ℤ r q) (constant R (w i q))
      constants_at_most i q hi hq = elim (decides (w i q)) [
        | yes z ↦ at_most_zeros R (r i -ℤ r q) (constant R (w i q)) (λ k. ap (λ f. f k) (ap (constant R) z ∙ constant_zero R))
        | no ne ↦
            let (k, over) = none_higher i q hi hq ne in
            subst (λ e. AtMost R e (constant R (w i q)))
            (sym (ap (λ x. x -ℤ r q) over ∙ ring Integers (r q ∷ pos k ∷ []) (v0 ⊞ v1 ⊞ ⊟ v0) (⓪ ⊞ v1) refl))
            (at_most_mono R (pos zero) k (constant R (w i q)) (at_most_constant R (w i q)))
      ]

      -- The constants between rows of the same degree, which count in the leading matrix.
      abbrev top : Matrix R
      top i q = coefficient R (r i -ℤ r q) (constant R (w i q))

      top_zero : (i q : ℕ) → w i q ≡ 𝟘 → top i q ≡ 𝟘
      top_zero i q z = coefficient_zeros R (r i -ℤ r q) (constant R (w i q)) (λ k. ap (λ f. f k) (ap (constant R) z ∙ constant_zero R))

      top_clears : Clears R m pivot top
      top_clears = record {
        pivots_stay = λ i q hi hq e. top_zero i q (clears.pivots_stay i q hi hq e);
        pivots_alone = λ i q hi hq e. top_zero i q (clears.pivots_alone i q hi hq e);
      }

      less_lead : (i q : ℕ) → i < m → q < m → Lead R (r i -ℤ r q) (lessₛ R w i q) (less R top i q)
      unfolding less
      less_lead i q hi hq =
          let (bound, lead) = unit_lead r i q in (
            at_most_add R (r i -ℤ r q) (unit (Series R) i q) (⊟ₛ constant R (w i q)) bound
                (at_most_neg R (r i -ℤ r q) (constant R (w i q)) (constants_at_most i q hi hq)),
            coefficient_add R (r i -ℤ r q) (unit (Series R) i q) (⊟ₛ constant R (w i q))
                ∙ ap₂ (λ x y. x ⊕ y) lead (coefficient_neg R (r i -ℤ r q) (constant R (w i q))),
          )

      -- The step raises the degrees of the pivots, and the leading matrix is multiplied by a nonsingular one.
      pub next_lead : (i j : ℕ) → i < m → j < m
          → Lead R (r i +ℤ pos (once (pivot i)) -ℤ s j) (next R m pivot w P i j) (mmul R m (less R top) (leading R r s P) i j)
      unfolding next mmul
      next_lead i j hi hj =
          lead_at R (next R m pivot w P i j) (vmul R m (less R top i) (leading R r s P) j) (sub_add (r i) (s j) (pos (once (pivot i))))
          (shift_lead (pivot i) (r i -ℤ s j) (cleared R m w P i j) (vmul R m (less R top i) (leading R r s P) j)
          (subst (λ f. Lead R (r i -ℤ s j) f (vmul R m (less R top i) (leading R r s P) j)) (sym (cleared_is R m w P i j hi))
          (subst (Lead R (r i -ℤ s j) (vmul (Series R) m (lessₛ R w i) P j))
          (vmul_cong R m (row_coefficient R r (r i) (lessₛ R w i)) (less R top i) (leading R r s P) (leading R r s P) j
          (λ q hq. (less_lead i q hi hq).1) (λ q hq. refl))
          (vmul_degree R m m r s P bounded (lessₛ R w i) (r i) (λ q hq. (less_lead i q hi hq).0) j hj))))

      -- So the leading matrix stays nonsingular.
      pub next_nonsingular : Cancels R → Nontrivial R → det R m (leading R r s P) ≢ 𝟘
          → det R m (leading R (λ i. r i +ℤ pos (once (pivot i))) s (next R m pivot w P)) ≢ 𝟘
      next_nonsingular cancels nontrivial nonsingular z =
          Ring.mul_ne_zero R cancels (det R m (less R top)) (det R m (leading R r s P)) (det_less R m pivot top top_clears nontrivial) nonsingular
          (sym (det_mul R m (less R top) (leading R r s P))
          ∙ sym (det_local R m (leading R (λ i. r i +ℤ pos (once (pivot i))) s (next R m pivot w P)) (mmul R m (less R top) (leading R r s P))
          (λ i j hi hj. (next_lead i j hi hj).1))
          ∙ z)
