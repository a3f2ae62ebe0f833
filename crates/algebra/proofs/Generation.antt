-- Generation: when the rows of a square matrix P of polynomials generate every row v for which each entry of v·F is a multiple of the
-- modulus M of its column. (After Giorgi and Neiger, "Certification of minimal approximant bases", ISSAC 2018, Theorem 2.1 and
-- Lemma 2.2, where M is a power of X; here the moduli are any polynomials other than 0, and products of linear factors where roots are needed.)
--   IsRelation m n F M v     v·F is a multiple of M in each of the n columns
--   Generated m P v          v is a sum of polynomial multiples of the rows of P
--   Generates m n P F M      every relation is generated
--   Quotients m n P F M Q    P·F = Q·diag(M)
use Rattle.std.specs.Prelude.{◌≡◌, ◌≢◌}
use Rattle.std.proofs.Math.Path.{refl, sym, ap}
use Rattle.std.proofs.Common.{subst, ◌∙◌}
use mathlib.Core.List.{List, [], ◌∷◌}
use Prim.Native.Nat.{ℕ, ◌<◌}
use Rattle.algebra.specs.Ring as Ring
use Rattle.algebra.specs.Ring.{CommRing, Decides, Cancels, Nontrivial}
use Rattle.algebra.specs.Solver.{◌⊠◌, ①, v0, v1, v2, v3, ring}
use Rattle.algebra.specs.Sum.{sum_cong, mul_sum}
use Rattle.algebra.specs.Series.{constant}
use Rattle.algebra.proofs.Series.{Series, constant_product}
use Rattle.algebra.specs.Polynomial.{Poly, poly_constant}
use Rattle.algebra.proofs.Polynomial.{poly_mul, Series_cancels}
use Rattle.algebra.specs.Evaluation.{value, Evaluates, evaluates_value}
use Rattle.algebra.proofs.Evaluation.{evaluates_unique}
use Rattle.algebra.specs.Root.{lin}
use Rattle.algebra.proofs.Root.{poly_quo, divide_root, root_of_multiple, cancel_lin}
use Rattle.algebra.specs.Linears.{All, all_nil, all_cons}
use Rattle.algebra.proofs.Linears.{linears, poly_linears, Splits}
use Rattle.algebra.specs.Matrix.{Row, Matrix, vmul, mmul, vmul_cong, vmul_scale, vmul_assoc}
use Rattle.algebra.specs.Det.{det}
use Rattle.algebra.proofs.Adjugate.{row_adjugate_mul}
use Rattle.algebra.specs.PolyMatrix.{values}
use Rattle.algebra.proofs.PolyMatrix.{coordinates, entries, poly_vmul, poly_adjugate, evaluates_vmul}
use Rattle.algebra.specs.Dependence.{Independent, Combines, combines_beside}
use Rattle.algebra.specs.Generation.{QuotientsIn, FullRank}

module _ (R : CommRing) where
  open R use {C, 𝟘, 𝟙}
  open Series R use {◌⊗◌, mul_assoc}

  infixl 70 ◌⊗◌
  -- v is a relation: v·F is a multiple of the modulus M j in each of the n columns.
  unfoldable pub IsRelation : (m n : ℕ) → Matrix (Series R) → Row (Series R) → (ℕ → Poly R) → Type 0
  IsRelation m n F M v = (j : ℕ) → j < n → (q : Poly R) × (vmul (Series R) m (coordinates R v) F j ≡ M j ⊗ q.series)

  -- v is w·P for some polynomials w.
  unfoldable pub Generated : ℕ → (ℕ → ℕ → Poly R) → (ℕ → Poly R) → Type 0
  Generated m P v = (w : ℕ → Poly R) × ((j : ℕ) → j < m → (v j).series ≡ vmul (Series R) m (coordinates R w) (entries R P) j)

  -- The rows of P generate every relation.
  unfoldable pub Generates : (m n : ℕ) → (ℕ → ℕ → Poly R) → Matrix (Series R) → Row (Series R) → Type 0
  Generates m n P F M = (v : ℕ → Poly R) → IsRelation m n F M v → Generated m P v

  -- P·F = Q·diag(M), for polynomials.
  abbrev pub Quotients : (m n : ℕ) → (ℕ → ℕ → Poly R) → Matrix (Series R) → Row (Series R) → (ℕ → ℕ → Poly R) → Type 0
  Quotients m n P F M Q = QuotientsIn (Series R) m n (entries R P) F M (λ i j. (Q i j).series)

  -- A product that X − a divides has the value 0 at a.
  root_of_product : (m : ℕ) (a : C) (v : ℕ → Poly R) (P : ℕ → ℕ → Poly R) (j : ℕ) (g : Poly R)
      → vmul (Series R) m (coordinates R v) (entries R P) j ≡ lin R a ⊗ g.series → vmul R m (λ i. value R a (v i)) (values R a P) j ≡ 𝟘
  root_of_product m a v P j g e =
      evaluates_unique R a (vmul (Series R) m (coordinates R v) (entries R P) j)
      (evaluates_vmul R m a v (λ i. value R a (v i)) P j (λ i b. evaluates_value R a (v i)))
      (subst (λ f. Evaluates R a f 𝟘) (sym e) (root_of_multiple R a g.series g.below))

  module _ (m n : ℕ) (P Q : ℕ → ℕ → Poly R) (F : Matrix (Series R)) (M : Row (Series R)) (quotients : Quotients m n P F M Q) where
    -- (u·P)·F = (u·Q)·diag(M).
    pub product_quotients : (u : ℕ → Poly R) (j : ℕ) → j < n
        → vmul (Series R) m (vmul (Series R) m (coordinates R u) (entries R P)) F j ≡ M j ⊗ vmul (Series R) m (coordinates R u) (entries R Q) j
    unfolding vmul
    product_quotients u j h =
        vmul_assoc (Series R) m m (coordinates R u) (entries R P) F j
        ∙ sum_cong (Series R) m (λ i. (u i).series ⊗ mmul (Series R) m (entries R P) F i j) (λ i. M j ⊗ ((u i).series ⊗ (Q i j).series))
        (λ i b. ap (λ x. (u i).series ⊗ x) (quotients i j b h) ∙ Ring.mul_left_comm (Series R) (u i).series (M j) (Q i j).series)
        ∙ sym (mul_sum (Series R) m (M j) (λ i. (u i).series ⊗ (Q i j).series))

    module _ (decides : Decides R) (cancels : Cancels R) (nontrivial : Nontrivial R) where
      -- One root: where (X − a)·g·v = u·P, full rank at a makes X − a divide u, and it is cancelled.
      peel_root : ((j : ℕ) → j < n → M j ≢ (Series R).𝟘) → (v : ℕ → Poly R) → IsRelation m n F M v → (a : C) → FullRank R m n P Q a → (g : Poly R) (u : ℕ → Poly R)
          → ((j : ℕ) → j < m → vmul (Series R) m (coordinates R u) (entries R P) j ≡ lin R a ⊗ (g.series ⊗ (v j).series))
          → (j : ℕ) → j < m → vmul (Series R) m (coordinates R (λ i. poly_quo R a (u i))) (entries R P) j ≡ g.series ⊗ (v j).series
      unfolding IsRelation Independent
      peel_root moduli v rel a full g u e j h =
          cancel_lin R decides cancels nontrivial a (vmul (Series R) m (coordinates R u') (entries R P) j) (g.series ⊗ (v j).series)
          (sym (vmul_scale (Series R) m (lin R a) (coordinates R u') (entries R P) j)
          ∙ vmul_cong (Series R) m (λ i. lin R a ⊗ (u' i).series) (coordinates R u) (entries R P) (entries R P) j (λ i b. sym (divided i b)) (λ i b. refl)
          ∙ e j h)
        where
          u' : ℕ → Poly R
          u' i = poly_quo R a (u i)

          in_columns : (j : ℕ) (h : j < n) → M j ⊗ vmul (Series R) m (coordinates R u) (entries R Q) j ≡ M j ⊗ (lin R a ⊗ (g.series ⊗ (rel j h).0.series))
          in_columns j h =
              sym (product_quotients u j h)
              ∙ vmul_cong (Series R) m (vmul (Series R) m (coordinates R u) (entries R P)) (λ k. lin R a ⊗ g.series ⊗ (v k).series) F F j
              (λ k b. e k b ∙ sym (mul_assoc (lin R a) g.series (v k).series)) (λ k b. refl)
              ∙ vmul_scale (Series R) m (lin R a ⊗ g.series) (coordinates R v) F j
              ∙ ap (λ x. lin R a ⊗ g.series ⊗ x) (rel j h).1
              ∙ Ring.mul_left_comm (Series R) (lin R a ⊗ g.series) (M j) (rel j h).0.series
              ∙ ap (λ x. M j ⊗ x) (mul_assoc (lin R a) g.series (rel j h).0.series)

          zero_in_P : Combines R m m (values R a P) (λ i. value R a (u i))
          zero_in_P j h = root_of_product m a u P j (poly_mul R g (v j)) (e j h)

          zero_in_Q : Combines R m n (values R a Q) (λ i. value R a (u i))
          zero_in_Q j h =
              root_of_product m a u Q j (poly_mul R g (rel j h).0)
              (Ring.mul_cancel (Series R) (Series_cancels R decides cancels) (M j) (vmul (Series R) m (coordinates R u) (entries R Q) j)
              (lin R a ⊗ (g.series ⊗ (rel j h).0.series)) (moduli j h) (in_columns j h))

          divided : (i : ℕ) → i < m → (u i).series ≡ lin R a ⊗ (u' i).series
          divided i b =
              divide_root R a (u i).series (u i).below
              (full (λ i. value R a (u i)) ((combines_beside R m m n (values R a P) (values R a Q) (λ i. value R a (u i))).1 (zero_in_P, zero_in_Q)) i b)

      -- All the roots, one after the other.
      peel_roots : ((j : ℕ) → j < n → M j ≢ (Series R).𝟘) → (v : ℕ → Poly R) → IsRelation m n F M v → (c c' : C) → R.◌⊗◌ c c' ≡ 𝟙
          → (l : List C) → All (FullRank R m n P Q) l → (u : ℕ → Poly R)
          → ((j : ℕ) → j < m → vmul (Series R) m (coordinates R u) (entries R P) j ≡ constant R c ⊗ linears R l ⊗ (v j).series)
          → Generated m P v
      unfolding linears Generated
      peel_roots moduli v rel c c' unit_c [] all_nil u e = (
        (λ i. poly_mul R (poly_constant R c') (u i)),
        λ j h. sym
            (vmul_scale (Series R) m (constant R c') (coordinates R u) (entries R P) j
            ∙ ap (λ x. constant R c' ⊗ x) (e j h)
            ∙ ring (Series R) (constant R c' ∷ constant R c ∷ (v j).series ∷ []) (v0 ⊠ (v1 ⊠ ① ⊠ v2)) (v1 ⊠ v0 ⊠ v2) refl
            ∙ ap (λ x. x ⊗ (v j).series) (sym (constant_product R c c') ∙ ap (constant R) unit_c)
            ∙ Ring.one_mul (Series R) (v j).series),
      )
      peel_roots moduli v rel c c' unit_c (a ∷ l) (all_cons full rest) u e =
          peel_roots moduli v rel c c' unit_c l rest (λ i. poly_quo R a (u i))
          (peel_root moduli v rel a full (poly_mul R (poly_constant R c) (poly_linears R l)) u
          (λ j h. e j h ∙ ring (Series R) (constant R c ∷ lin R a ∷ linears R l ∷ (v j).series ∷ []) (v0 ⊠ (v1 ⊠ v2) ⊠ v3) (v1 ⊠ (v0 ⊠ v2 ⊠ v3)) refl))

      -- Sound: if the determinant of P is a unit times a product of linear factors, and [P(a) Q(a)] has full rank at each root, then P
      -- generates every relation.
      pub generation_sound : ((j : ℕ) → j < n → M j ≢ (Series R).𝟘) → Splits R (FullRank R m n P Q) (det (Series R) m (entries R P)) → Generates m n P F M
      unfolding Generates
      generation_sound moduli (c, c', l, full, splits, unit_c) v rel =
          peel_roots moduli v rel c c' unit_c l full (poly_vmul R m v (poly_adjugate R m P))
          (λ j h. row_adjugate_mul (Series R) m (entries R P) (coordinates R v) j h ∙ ap (λ x. x ⊗ (v j).series) splits)
