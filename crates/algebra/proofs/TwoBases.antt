-- Two matrices of polynomials, each with a nonsingular leading matrix, whose rows are combinations of each other's: they have the same
-- row degrees, in another order.
--   ReducedFor r P           P has the row degrees r, and its leading matrix is nonsingular
--   generated_degrees        where the rows of P are combinations of those of P', each has a row of P' of no larger degree, no two the same
--   same_degrees             where this holds both ways, each has one of the same degree
use Rattle.std.specs.Prelude.{◌≡◌, ◌≢◌, ℤ, pos, ◌+ℤ◌, ◌-ℤ◌}
use Rattle.std.proofs.Math.Path.{sym, ap}
use Rattle.std.proofs.Common.{subst, ◌∙◌, arith}
use Prim.Native.Nat.{ℕ, ◌+◌, ◌<◌}
use Rattle.std.proofs.Math.Decide.{dec_lt}
use Rattle.std.proofs.Math.IntN.{+ℤ_assoc, -ℤ-+ℤ_cancel, +ℤ_comm}
use Rattle.algebra.specs.Ring as Ring
use Rattle.algebra.specs.Ring.{CommRing, Decides, Cancels, sign}
use Rattle.algebra.specs.Integer.{Integers, More, more_none}
use Rattle.algebra.specs.Sum.{sum}
use Rattle.algebra.proofs.Series.{Series}
use Rattle.algebra.specs.Polynomial.{Poly}
use Rattle.algebra.proofs.Polynomial.{poly_zero}
use Rattle.algebra.specs.Matrix.{Matrix, vmul, mmul}
use Rattle.algebra.specs.Det.{det, det_local}
use Rattle.algebra.proofs.ProductRule.{det_mul}
use Rattle.algebra.proofs.PolyMatrix.{coordinates, entries}
use Rattle.algebra.specs.Degree.{AtMost, coefficient, coefficient_ne_zero}
use Rattle.algebra.proofs.Degree.{leading, EntriesAtMost}
use Rattle.algebra.proofs.Predictable.{RowAtMost, row_coefficient, vmul_degree, row_at_most_iff}
use Rattle.algebra.proofs.Generation.{Generated}
use Rattle.algebra.specs.TwoBases.{Permutation, det_permutation, sum_more}

-- THE DEGREES

module _ (R : CommRing) (decides : Decides R) (cancels : Cancels R) (m : ℕ) (s : ℕ → ℤ) where
  open R use {𝟘, ◌⊗◌}

  infixl 70 ◌⊗◌
  -- P has degrees r for the shifts s, and its leading matrix is nonsingular.
  abbrev pub ReducedFor : (ℕ → ℤ) → (ℕ → ℕ → Poly R) → Type 0
  ReducedFor r P = EntriesAtMost R m m r s (entries R P) × (det R m (leading R r s (entries R P)) ≢ 𝟘)

  -- Where the rows of P are combinations of those of P', they are sent to rows of P' of degrees that are not above, no two to the same.
  -- The leading matrix of P is that of P' times the matrix of the leading coefficients of the multipliers, whose determinant is not 0.
  pub generated_degrees : (r r' : ℕ → ℤ) (P P' : ℕ → ℕ → Poly R) → ReducedFor r P → ReducedFor r' P' → ((i : ℕ) → i < m → Generated R m P' (P i))
      → (σ : ℕ → ℕ) × Permutation m σ × ((i : ℕ) → i < m → More (r' (σ i)) (r i))
  unfolding Generated mmul
  generated_degrees r r' P P' (bounded, nonsingular) (bounded', nonsingular') generated =
      let (σ, permutes, chosen) = det_permutation R decides m L L_nonsingular in (
        σ,
        permutes,
        λ i hi.
            let (k, power, ne) = coefficient_ne_zero R (r i -ℤ r' (σ i)) (W i (σ i)).series (chosen i hi) in
            (k, sym (-ℤ-+ℤ_cancel (r i) (r' (σ i))) ∙ ap (λ x. x +ℤ r' (σ i)) power ∙ +ℤ_comm (pos k) (r' (σ i))),
      )
    where
      multipliers : (i : ℕ) → Dec (i < m) → ℕ → Poly R
      multipliers i (yes hi) = (generated i hi).0
      multipliers i (no ni) = λ j. poly_zero R

      -- The multipliers: W·P' = P.
      W : ℕ → ℕ → Poly R
      W i = multipliers i (dec_lt i m)

      combined : (i : ℕ) (d : Dec (i < m)) → i < m → (j : ℕ) → j < m
          → (P i j).series ≡ vmul (Series R) m (coordinates R (multipliers i d)) (entries R P') j
      combined i (yes hi) b = (generated i hi).1
      combined i (no ni) b = absurd (ni b)

      -- Their leading coefficients: that of W i j at r i − r' j.
      L : Matrix R
      L i = row_coefficient R r' (r i) (coordinates R (W i))

      W_at_most : (i : ℕ) → i < m → RowAtMost R m r' (r i) (coordinates R (W i))
      W_at_most i hi =
          (row_at_most_iff R cancels m r' s (entries R P') bounded' nonsingular' (W i) (r i)).1
          (λ j hj. subst (AtMost R (r i -ℤ s j)) (combined i (dec_lt i m) hi j hj) (bounded i j hi hj))

      product : (i j : ℕ) → i < m → j < m → leading R r s (entries R P) i j ≡ mmul R m L (leading R r' s (entries R P')) i j
      product i j hi hj =
          ap (coefficient R (r i -ℤ s j)) (combined i (dec_lt i m) hi j hj)
          ∙ (vmul_degree R m m r' s (entries R P') bounded' (coordinates R (W i)) (r i) (W_at_most i hi) j hj).1

      L_nonsingular : det R m L ≢ 𝟘
      L_nonsingular z =
          nonsingular (det_local R m (leading R r s (entries R P)) (mmul R m L (leading R r' s (entries R P'))) product
          ∙ det_mul R m L (leading R r' s (entries R P'))
          ∙ ap (λ x. x ⊗ det R m (leading R r' s (entries R P'))) z
          ∙ Ring.zero_mul R _)

  -- Where the rows of each are combinations of those of the other, the degrees are the same: their sums are, and none is above.
  pub same_degrees : (r r' : ℕ → ℤ) (P P' : ℕ → ℕ → Poly R) → ReducedFor r P → ReducedFor r' P'
      → ((i : ℕ) → i < m → Generated R m P' (P i)) → ((i : ℕ) → i < m → Generated R m P (P' i))
      → (σ : ℕ → ℕ) × Permutation m σ × ((i : ℕ) → i < m → r i ≡ r' (σ i))
  same_degrees r r' P P' reduced reduced' generated generated' =
      let (σ, permutes, above) = generated_degrees r r' P P' reduced reduced' generated in
      let (σ', permutes', above') = generated_degrees r' r P' P reduced' reduced generated' in
      let (k, over, none_less) = sum_more m (λ i. r' (σ i)) r above in
      let (k', over', none_less') = sum_more m (λ i. r (σ' i)) r' above' in (
        σ,
        permutes,
        none_less (both k k' (over ∙ ap (λ x. x +ℤ pos k) (permutes.same_sum r')) (over' ∙ ap (λ x. x +ℤ pos k') (permutes'.same_sum r))),
      )
    where
      both : (k k' : ℕ) → sum Integers m r ≡ sum Integers m r' +ℤ pos k → sum Integers m r' ≡ sum Integers m r +ℤ pos k' → k ≡ 0
      both k k' e e' =
          let none : k' + k ≡ 0 = more_none (sum Integers m r) (k' + k) (e ∙ ap (λ x. x +ℤ pos k) e' ∙ +ℤ_assoc (sum Integers m r) (pos k') (pos k)) in
          omega arith
