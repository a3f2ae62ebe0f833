-- Generation where the moduli are powers of X: the rows of P, each of whose products with F vanishes below the orders, generate every
-- row of polynomials whose product does exactly if the determinant of P is a nonzero constant times a power of X and the rows of
-- [P(0) C] are independent, where C holds the coefficients at the orders.
--   Vanishes m n F d v       the coefficients of v·F below the order d j are 0, in each column j
use Rattle.std.specs.Prelude.{◌≡◌, ◌≢◌, ◌↔◌, ℕ, zero, suc, ◌+◌, ◌≤◌, ◌<◌, length, replicate}
use Rattle.std.proofs.Common.{sym, subst, ◌∙◌, add-zero, arith}
use Rattle.std.proofs.Math.Path.{ap}
use Rattle.std.proofs.Math.Decide.{dec_lt, ℕ_discrete}
use Rattle.std.proofs.lemmas.List.{length-replicate}
use Rattle.algebra.specs.Ring as Ring
use Rattle.algebra.specs.Ring.{CommRing, Decides, Cancels, Nontrivial, Inverts}
use Rattle.algebra.specs.Series.{series_ext, constant, shift_below}
use Rattle.algebra.proofs.Series.{Series, constant_mul, shift_power}
use Rattle.algebra.specs.Polynomial.{Poly}
use Rattle.algebra.specs.Evaluation.{evaluates_value, evaluates_at_zero}
use Rattle.algebra.specs.Root.{poly_drop}
use Rattle.algebra.proofs.Root.{divide_power}
use Rattle.algebra.specs.Linears.{all_map, all_equal, all_replicate}
use Rattle.algebra.proofs.Linears.{linears, linears_leading, below_linears, linears_replicate, linears_ne_zero, Splits}
use Rattle.algebra.specs.Matrix.{Row, Matrix, Same, vmul, mmul, beside, beside_same}
use Rattle.algebra.specs.Det.{det}
use Rattle.algebra.specs.PolyMatrix.{values}
use Rattle.algebra.proofs.PolyMatrix.{coordinates, entries, poly_vmul}
use Rattle.algebra.specs.Dependence.{Independent, independent_local}
use Rattle.algebra.specs.Generation.{FullRank}
use Rattle.algebra.proofs.Generation.{IsRelation, Generated, Generates, Quotients, generation_sound}
use Rattle.algebra.proofs.Converse.{generation_determinant, generation_rank}
use Rattle.algebra.specs.OrderBasis.{Monomial, order_roots}

module _ (R : CommRing) where
  open R use {C, 𝟘, 𝟙, ◌⊗◌, mul_one}

  infixl 70 ◌⊗◌
  -- The coefficients of v·F below the order d j are 0, in each column j.
  abbrev pub Vanishes : (m n : ℕ) → Matrix (Series R) → (ℕ → ℕ) → Row (Series R) → Type 0
  Vanishes m n F d v = (j k : ℕ) → j < n → k < d j → vmul (Series R) m v F j k ≡ 𝟘

  -- The moduli X^d.
  abbrev pub order_moduli : (ℕ → ℕ) → Row (Series R)
  order_moduli d j = linears R (order_roots R d j)

  divide_order : (d : ℕ) (f : ℕ → C) → ((k : ℕ) → k < d → f k ≡ 𝟘) → f ≡ (Series R).◌⊗◌ (linears R (replicate d 𝟘)) (λ n. f (d + n))
  divide_order d f h = divide_power R d f h ∙ sym (shift_power R d (λ n. f (d + n))) ∙ sym (linears_replicate R d (λ n. f (d + n)))

  -- A product vanishes below the orders exactly if it is a multiple of X^d in each column.
  pub relation_iff_vanishes : (m n : ℕ) (F : ℕ → ℕ → Poly R) (d : ℕ → ℕ) (v : ℕ → Poly R)
      → IsRelation R m n (entries R F) (order_moduli d) v ↔ Vanishes m n (entries R F) d (coordinates R v)
  unfolding IsRelation
  relation_iff_vanishes m n F d v = (
    λ rel j k h b. ap (λ f. f k) ((rel j h).1 ∙ linears_replicate R (d j) (rel j h).0.series) ∙ shift_below R (d j) (rel j h).0.series k b,
    λ zero_below j h.
        (poly_drop R (d j) (poly_vmul R m v F j), divide_order (d j) (vmul (Series R) m (coordinates R v) (entries R F) j) (λ k b. zero_below j k h b)),
  )

  -- X^e has the coefficient 1 at e and no other.
  power_at : (e : ℕ) → linears R (replicate e 𝟘) e ≡ 𝟙
  power_at e = ap (linears R (replicate e 𝟘)) (sym (length-replicate e 𝟘)) ∙ linears_leading R (replicate e 𝟘)

  power_off : (e k : ℕ) → k ≢ e → linears R (replicate e 𝟘) k ≡ 𝟘
  power_off e k ne =
      elim (dec_lt k e) [
        | yes low ↦
            ap (λ f. f k) (sym ((Series R).mul_one (linears R (replicate e 𝟘))) ∙ linears_replicate R e (Series R).𝟙)
            ∙ shift_below R e (Series R).𝟙 k low
        | no high ↦ below_linears R (replicate e 𝟘) k (subst (λ x. suc x ≤ k) (sym (length-replicate e 𝟘)) (omega arith))
      ]

  -- A unit times a product of factors X is a nonzero constant times a power of X …
  pub monomial_of_splits : Nontrivial R → (f : ℕ → C) → Splits R (λ a. a ≡ 𝟘) f → Monomial R f
  monomial_of_splits nontrivial f (c, c', l, all, e, u) = (
    length l,
    λ z. nontrivial (sym u ∙ ap (λ x. x ⊗ c') (sym (mul_one c) ∙ ap (λ x. c ⊗ x) (sym (power_at (length l))) ∙ sym (at (length l)) ∙ z) ∙ Ring.zero_mul R c'),
    λ k ne. at k ∙ ap (λ x. c ⊗ x) (power_off (length l) k ne) ∙ Ring.mul_zero R c,
  )
    where
      at : (k : ℕ) → f k ≡ c ⊗ linears R (replicate (length l) 𝟘) k
      at k = ap (λ g. g k) e ∙ constant_mul R c (linears R l) k ∙ ap (λ r. c ⊗ linears R r k) (all_equal 𝟘 l all)

  -- … and over a ring with inverses the other way round.
  pub splits_of_monomial : (inv : C → C) → Inverts R inv → (f : ℕ → C) → Monomial R f → Splits R (λ a. a ≡ 𝟘) f
  splits_of_monomial inv inverts f (e, ne, others) =
      (f e, inv (f e), replicate e 𝟘, all_replicate 𝟘 e, series_ext R (λ k. at k (ℕ_discrete k e)), inverts (f e) ne)
    where
      at : (k : ℕ) → Dec (k ≡ e) → f k ≡ (Series R).◌⊗◌ (constant R (f e)) (linears R (replicate e 𝟘)) k
      at k (yes p) =
          sym (constant_mul R (f e) (linears R (replicate e 𝟘)) k
          ∙ ap (λ x. f e ⊗ x) (ap (linears R (replicate e 𝟘)) p ∙ power_at e)
          ∙ mul_one (f e)
          ∙ ap f (sym p))
      at k (no np) = others k np ∙ sym (constant_mul R (f e) (linears R (replicate e 𝟘)) k ∙ ap (λ x. f e ⊗ x) (power_off e k np) ∙ Ring.mul_zero R (f e))

  module _ (decides : Decides R) (inv : C → C) (inverts : Inverts R inv) (nontrivial : Nontrivial R)
      (m n : ℕ) (P F : ℕ → ℕ → Poly R) (d : ℕ → ℕ) (E : Matrix R)
      (vanishes : (i : ℕ) → i < m → Vanishes m n (entries R F) d (coordinates R (P i)))
      (evidence : (i j : ℕ) → i < m → j < n → mmul (Series R) m (entries R P) (entries R F) i j (d j) ≡ E i j)
    where
      quotient : ℕ → ℕ → Poly R
      quotient i j = poly_drop R (d j) (poly_vmul R m (P i) F j)

      quotients : Quotients R m n P (entries R F) (order_moduli d) quotient
      unfolding mmul quotient
      quotients i j hi hj = divide_order (d j) (mmul (Series R) m (entries R P) (entries R F) i j) (λ k b. vanishes i hi j k hj b)

      -- The matrix [P(0) C].
      abbrev pub at_zero : Matrix R
      at_zero = beside m (λ i j. (P i j).series zero) E

      same_at_zero : Same R m (m + n) (beside m (values R 𝟘 P) (values R 𝟘 quotient)) at_zero
      unfolding quotient mmul
      same_at_zero =
          beside_same R m m n (values R 𝟘 P) (λ i j. (P i j).series zero) (values R 𝟘 quotient) E
          (λ i j hi hj. evaluates_at_zero R (P i j).series (evaluates_value R 𝟘 (P i j)))
          (λ i j hi hj. evaluates_at_zero R (quotient i j).series (evaluates_value R 𝟘 (quotient i j))
          ∙ ap (vmul (Series R) m (coordinates R (P i)) (entries R F) j) (add-zero (d j))
          ∙ evidence i j hi hj)

      -- The determinant and the rank decide whether P generates every row whose product vanishes below the orders.
      pub order_basis : (Monomial R (det (Series R) m (entries R P)) × Independent R m (m + n) at_zero)
          ↔ ((v : ℕ → Poly R) → Vanishes m n (entries R F) d (coordinates R v) → Generated R m P v)
      unfolding Generates
      order_basis = (
        λ (monomial, independent) v zero_below.
            generation_sound R m n P quotient (entries R F) (order_moduli d) quotients decides cancels nontrivial
            (λ j h. linears_ne_zero R nontrivial (order_roots R d j))
            (full independent (splits_of_monomial inv inverts (det (Series R) m (entries R P)) monomial))
            v ((relation_iff_vanishes m n F d v).1 zero_below),
        λ generated.
            let generates : Generates R m n P (entries R F) (order_moduli d) = λ v rel. generated v ((relation_iff_vanishes m n F d v).0 rel) in (
              monomial_of_splits nontrivial (det (Series R) m (entries R P))
                  (generation_determinant R m n P F (order_roots R d) decides cancels nontrivial generates (λ a. a ≡ 𝟘) (λ j h. all_replicate 𝟘 (d j))),
              independent_local R m (m + n) (beside m (values R 𝟘 P) (values R 𝟘 quotient)) at_zero same_at_zero
                  (generation_rank R m n P F (order_roots R d) decides cancels nontrivial generates quotient quotients 𝟘),
            ),
      )
        where
          cancels : Cancels R
          cancels = Ring.cancels_of_inverts R inv inverts

          full : Independent R m (m + n) at_zero → Splits R (λ a. a ≡ 𝟘) (det (Series R) m (entries R P))
              → Splits R (FullRank R m n P quotient) (det (Series R) m (entries R P))
          full independent (c, c', l, all, e, u) =
              (c, c', l, all_map (λ a. a ≡ 𝟘) (FullRank R m n P quotient) (λ a z. subst (FullRank R m n P quotient) (sym z) at_root) l all, e, u)
            where
              at_root : FullRank R m n P quotient 𝟘
              at_root =
                  independent_local R m (m + n) at_zero (beside m (values R 𝟘 P) (values R 𝟘 quotient)) (λ i j hi hj. sym (same_at_zero i j hi hj)) independent
