-- What the basis iteration keeps: the identity has it, each step keeps it, and it does not depend on F from the orders on.
--   identity_basis, step_basis, cut_basis       these three
--   basis_row_degree         the degrees are those of the rows
--   basis_local        what a choice and a basis depend on
use Rattle.std.specs.Prelude.{◌≡◌, Bool, [], ◌∷◌, ℤ, pos, ◌+ℤ◌, ◌-ℤ◌}
use Rattle.std.proofs.Math.Path.{refl, sym, ap, ap₂, subst}
use Rattle.std.proofs.Common.{◌∙◌, inl, inr, zero-add as nat_zero_add, arith}
use Prim.Native.Nat.{ℕ, zero, suc, ◌+◌, ◌<◌}
use Rattle.algebra.specs.Ring as Ring
use Rattle.algebra.specs.Ring.{CommRing, Decides, Cancels, Nontrivial}
use Rattle.algebra.specs.Solver.{v0, v1, v2, ◌⊞◌, ◌⊠◌, ⊟◌, ring}
use Rattle.algebra.specs.Sum.{sum, sum_cong, sum_add, zeros_or_not}
use Rattle.algebra.specs.Series.{constant}
use Rattle.algebra.proofs.Series.{Series, convolve_single}
use Rattle.algebra.specs.Matrix.{Row, Matrix, Same, beside, beside_same, unit, vmul, mmul, vmul_unit, vmul_cong, vmul_zero, vmul_assoc, unit_related}
use Rattle.algebra.specs.Det.{det_local}
use Rattle.algebra.proofs.Det.{det_unit}
use Rattle.algebra.proofs.Adjugate.{det_zero_row}
use Rattle.algebra.specs.Dependence.{Combines, Independent, independent_local, combines_beside}
use Rattle.algebra.specs.Degree.{AtMost, coefficient}
use Rattle.algebra.proofs.Degree.{leading, coefficient_sum}
use Rattle.algebra.proofs.Predictable.{RowDegree}
use Rattle.algebra.specs.OrderBasis.{Monomial}
use Rattle.algebra.specs.Step.{once, next, Choice}
use Rattle.algebra.proofs.Step.{residuals, Basis}
use Rattle.algebra.proofs.StepDegrees.{constants_related, next_monomial, unit_lead, next_lead, next_nonsingular}
use Rattle.algebra.proofs.StepRank.{vmul_zeros, vmul_sum, next_vanishes, next_full_rank}

module _ (R : CommRing) where
  open R use {𝟘, ◌⊕◌, ◌⊗◌, ⊖◌, add_zero}
  open Series R use {◌⊕◌ as ◌⊞ₛ◌, ◌⊗◌ as ◌⊠ₛ◌, ⊖◌ as ⊟ₛ◌}

  infixl 60 ◌⊕◌
  infixl 70 ◌⊗◌
  infix 80 ⊖◌
  infixl 60 ◌⊞ₛ◌
  infixl 70 ◌⊠ₛ◌
  infix 80 ⊟ₛ◌
  -- A step keeps what holds of P, with the orders of the active columns and the degrees of the pivots one higher.
  pub step_basis : Decides R → Cancels R → Nontrivial R → (m n : ℕ) (F : Matrix (Series R)) (s : ℕ → ℤ) (e : ℕ → ℕ) (r : ℕ → ℤ) (P : Matrix (Series R))
      (active pivot : ℕ → Bool) (w : Matrix R) → Basis R m n F s e r P → Choice R m n active r (residuals R m F e P) pivot w
      → Basis R m n F s (λ j. e j + once (active j)) (λ i. r i +ℤ pos (once (pivot i))) (next R m pivot w P)
  step_basis decides cancels nontrivial m n F s e r P active pivot w basis choice = record {
    bounded = λ i j hi hj. (next_lead R decides m r s P basis.bounded pivot w choice.clears choice.none_higher i j hi hj).0;
    nonsingular = next_nonsingular R decides m r s P basis.bounded pivot w choice.clears choice.none_higher cancels nontrivial basis.nonsingular;
    monomial = next_monomial R cancels nontrivial m pivot w choice.clears P basis.monomial;
    vanishes = next_vanishes R m n F e r P active pivot w basis.vanishes choice;
    full_rank = next_full_rank R m n F e r P active pivot w basis.vanishes choice basis.full_rank;
  }

  -- The identity has it, with no orders and the shifts for its degrees.
  pub identity_basis : Nontrivial R → (m n : ℕ) (F : Matrix (Series R)) (s : ℕ → ℤ) → Basis R m n F s (λ j. zero) s (unit (Series R))
  unfolding Independent constant
  identity_basis nontrivial m n F s = record {
    bounded = λ i j hi hj. (unit_lead R s i j).0;
    nonsingular = λ z. nontrivial (sym (det_unit R m) ∙ sym (det_local R m (leading R s s (unit (Series R))) (unit R) (λ i j hi hj. (unit_lead R s i j).1)) ∙ z);
    monomial = subst (Monomial R) (sym (det_unit (Series R) m)) (zero, nontrivial, elim [ zero ↦ λ ne. absurd (ne refl) | suc k ↦ λ ne. refl ]);
    vanishes = λ i hi j k hj hk. absurd (omega arith);
    full_rank = λ u combines i hi.
        sym (vmul_unit R m u i hi)
        ∙ vmul_cong R m u u (unit R) (λ i j. unit (Series R) i j zero) i (λ k hk. refl)
        (λ k hk. sym (ap (λ f. f zero) (unit_related R (Series R) (λ a f. f ≡ constant R a) (constants_related R) k i)))
        ∙ ((combines_beside R m m n (λ i j. unit (Series R) i j zero) (residuals R m F (λ j. zero) (unit (Series R))) u).0 combines).0 i hi;
  }

  -- Where F and G agree below an order d, the coefficient at d of a row times G is that of the row times F and its constants times the
  -- difference.
  agree_below : (m : ℕ) (F G : Matrix (Series R)) (v : Row (Series R)) (j k : ℕ) → ((i l : ℕ) → i < m → l < k → F i j l ≡ G i j l)
      → vmul (Series R) m v G j k ≡ vmul (Series R) m v F j k ⊕ vmul R m (λ i. v i zero) (λ i j. G i j k ⊕ ⊖ F i j k) j
  unfolding vmul coefficient
  agree_below m F G v j k same =
      coefficient_sum R (pos k) m (λ i. v i ⊠ₛ G i j)
      ∙ sum_cong R m (λ i. (v i ⊠ₛ G i j) k) (λ i. (v i ⊠ₛ F i j) k ⊕ v i zero ⊗ (G i j k ⊕ ⊖ F i j k))
      (λ i hi. ap (λ f. f k) (ring (Series R) (v i ∷ G i j ∷ F i j ∷ []) (v0 ⊠ v1) (v0 ⊠ v2 ⊞ v0 ⊠ (v1 ⊞ ⊟ v2)) refl)
      ∙ ap (λ x. (v i ⊠ₛ F i j) k ⊕ x)
      (convolve_single R (v i) (G i j ⊞ₛ ⊟ₛ F i j) zero k k (nat_zero_add k)
      (λ a l e ne. ap (λ x. v i a ⊗ x) (Ring.sub_of_eq R (G i j l) (F i j l) (sym (same i l hi (omega arith)))) ∙ Ring.mul_zero R (v i a))))
      ∙ sum_add R m (λ i. (v i ⊠ₛ F i j) k) (λ i. v i zero ⊗ (G i j k ⊕ ⊖ F i j k))
      ∙ ap (λ x. x ⊕ sum R m (λ i. v i zero ⊗ (G i j k ⊕ ⊖ F i j k))) (sym (coefficient_sum R (pos k) m (λ i. v i ⊠ₛ F i j)))

  -- What holds of P does not depend on F from the orders on: the coefficients at the orders change by P(0) times the difference.
  pub cut_basis : (m n : ℕ) (F G : Matrix (Series R)) (s : ℕ → ℤ) (e : ℕ → ℕ) (r : ℕ → ℤ) (P : Matrix (Series R))
      → ((i j k : ℕ) → i < m → j < n → k < e j → F i j k ≡ G i j k) → Basis R m n F s e r P → Basis R m n G s e r P
  unfolding Independent mmul vmul
  cut_basis m n F G s e r P same basis = record {
    bounded = basis.bounded;
    nonsingular = basis.nonsingular;
    monomial = basis.monomial;
    vanishes = λ i hi j k hj hk.
        agree_below m F G (P i) j k (λ t l ht hl. same t j l ht hj (omega arith))
        ∙ ap₂ (λ x y. x ⊕ y) (basis.vanishes i hi j k hj hk)
        (vmul_zeros R m (λ t. P i t zero) (λ t j. G t j k ⊕ ⊖ F t j k) j
        (λ t ht. Ring.sub_of_eq R (G t j k) (F t j k) (sym (same t j k ht hj hk))))
        ∙ add_zero 𝟘;
    full_rank = λ u combines.
        let (at_zero, at_order) = (combines_beside R m m n at_zero_of (residuals R m G e P) u).0 combines in
        basis.full_rank u ((combines_beside R m m n at_zero_of (residuals R m F e P) u).1 (at_zero, λ j hj. combined u at_zero j hj ∙ at_order j hj));
  }
    where
      at_zero_of : Matrix R
      at_zero_of i t = P i t zero

      difference : Matrix R
      difference t j = G t j (e j) ⊕ ⊖ F t j (e j)

      combined : (u : Row R) → Combines R m m at_zero_of u → (j : ℕ) → j < n → vmul R m u (residuals R m F e P) j ≡ vmul R m u (residuals R m G e P) j
      combined u at_zero j hj =
          sym (vmul_cong R m u u (residuals R m G e P) (λ i j. residuals R m F e P i j ⊕ mmul R m at_zero_of difference i j) j (λ i hi. refl)
          (λ i hi. agree_below m F G (P i) j (e j) (λ t l ht hl. same t j l ht hj hl))
          ∙ vmul_sum R m u (residuals R m F e P) (mmul R m at_zero_of difference) j
          ∙ ap (λ x. vmul R m u (residuals R m F e P) j ⊕ x)
          (sym (vmul_assoc R m m u at_zero_of difference j) ∙ vmul_zero R m (vmul R m u at_zero_of) difference j at_zero)
          ∙ add_zero (vmul R m u (residuals R m F e P) j))

  -- The degrees are those of the rows for the shifts.
  pub basis_row_degree : Decides R → (m n : ℕ) (F : Matrix (Series R)) (s : ℕ → ℤ) (e : ℕ → ℕ) (r : ℕ → ℤ) (P : Matrix (Series R)) → Basis R m n F s e r P
      → (i : ℕ) → i < m → RowDegree R m s (r i) (P i)
  basis_row_degree decides m n F s e r P basis i hi = (
    λ j hj. basis.bounded i j hi hj,
    elim (zeros_or_not R decides m (leading R r s P i)) [
      | inl zeros ↦ absurd (basis.nonsingular (det_zero_row R m (leading R r s P) i hi zeros))
      | inr found ↦ found
    ],
  )

  -- … and what holds of P on the orders, the degrees and the entries within its size.
  pub basis_local : (m n : ℕ) (F : Matrix (Series R)) (s : ℕ → ℤ) (e e' : ℕ → ℕ) (r r' : ℕ → ℤ) (P P' : Matrix (Series R))
      → ((j : ℕ) → j < n → e j ≡ e' j) → ((i : ℕ) → i < m → r i ≡ r' i) → Same (Series R) m m P P' → Basis R m n F s e r P → Basis R m n F s e' r' P'
  basis_local m n F s e e' r r' P P' orders degrees same basis = record {
    bounded = λ i j hi hj. subst (λ x. AtMost R (x -ℤ s j) (P' i j)) (degrees i hi) (subst (AtMost R (r i -ℤ s j)) (same i j hi hj) (basis.bounded i j hi hj));
    nonsingular = λ z. basis.nonsingular (det_local R m (leading R r s P) (leading R r' s P')
        (λ i j hi hj. ap₂ (λ x f. coefficient R (x -ℤ s j) f) (degrees i hi) (same i j hi hj)) ∙ z);
    monomial = subst (Monomial R) (det_local (Series R) m P P' same) basis.monomial;
    vanishes = λ i hi j k hj hk. sym (ap (λ f. f k) (row i j hi)) ∙ basis.vanishes i hi j k hj (subst (λ x. k < x) (sym (orders j hj)) hk);
    full_rank = independent_local R m (m + n) (beside m (λ i j. P i j zero) (residuals R m F e P)) (beside m (λ i j. P' i j zero) (residuals R m F e' P'))
        (beside_same R m m n (λ i j. P i j zero) (λ i j. P' i j zero) (residuals R m F e P) (residuals R m F e' P')
        (λ i j hi hj. ap (λ f. f zero) (same i j hi hj)) (λ i j hi hj. ap₂ (λ f k. f k) (row i j hi) (orders j hj))) basis.full_rank;
  }
    where
      row : (i j : ℕ) → i < m → vmul (Series R) m (P i) F j ≡ vmul (Series R) m (P' i) F j
      row i j hi = vmul_cong (Series R) m (P i) (P' i) F F j (λ k hk. same i k hi hk) (λ k hk. refl)
