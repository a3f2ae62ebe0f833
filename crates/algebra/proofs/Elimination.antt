-- Elimination over a ring with inverses: it is decided whether rows are dependent, more rows than columns are, and the rows of a
-- square are dependent exactly if its determinant is 0.
use Rattle.std.specs.Prelude.{◌≡◌, refl, ◌≢◌, ◌⊎◌, ◌↔◌, [], ◌∷◌}
use Rattle.std.proofs.Math.Path.{sym, ap}
use Rattle.std.proofs.Common.{subst, ◌∙◌, le_of_suc-le-suc, not-suc-le-zero, zero-lt-suc, lt-suc_self, le_of_lt, suc-ne-zero}
use Rattle.std.proofs.Math.Logic.{inl, inr}
use Rattle.std.proofs.Math.Logic.Dec
use Rattle.std.proofs.Math.Logic.Iff
use Prim.Native.Nat.{ℕ, zero, suc, ◌<◌}
use Rattle.algebra.specs.Ring as Ring
use Rattle.algebra.specs.Ring.{CommRing, Decides, Nontrivial, Inverts}
use Rattle.algebra.specs.Solver.{v0, v1, v2, ◌⊞◌, ◌⊠◌, ⊟◌, ring}
use Rattle.algebra.specs.Sum.{skip, zeros_or_not, swap_left, exchange}
use Rattle.algebra.specs.Matrix.{Row, Matrix, cons, cons_eta}
use Rattle.algebra.specs.Det.{det}
use Rattle.algebra.proofs.Det.{det_pivot}
use Rattle.algebra.proofs.Rows.{det_exchange}
use Rattle.algebra.specs.Alternating.{alternating_clear}
use Rattle.algebra.proofs.ProductRule.{det_alternating}
use Rattle.algebra.proofs.Adjugate.{kernel_times_det}
use Rattle.algebra.specs.Dependence.{Dependent, Independent, independent_not_dependent, not_dependent_independent, no_rows, no_columns}
use Rattle.algebra.specs.Dependence.{zero_column, pivot, dependent_exchange, dependent_clear}
use Rattle.algebra.specs.Elimination.{Step}

module _ (R : CommRing) where
  open R use {C, 𝟘, ◌⊕◌, ◌⊗◌, ⊖◌, add_neg, mul_comm, mul_one}

  infixl 60 ◌⊕◌
  infixl 70 ◌⊗◌
  infix 80 ⊖◌
  module _ (decides : Decides R) (inv : C → C) (inverts : Inverts R inv) where
    -- The first row's first entry is not 0: clear the column below it.
    clear_step : (m n : ℕ) (A : Matrix R) → A zero zero ≢ 𝟘 → Step R m n A
    unfolding cons skip
    clear_step m n A p =
        record {
          rest = λ i j. cleared (suc i) (suc j);
          same_dependence = Iff.trans same (pivot R (Ring.cancels_of_inverts R inv inverts) m n cleared p below);
          factor = A zero zero;
          factor_nonzero = p;
          same_determinant =
              ap (det R (suc m)) (sym (cons_eta A))
              ∙ sym (alternating_clear R (suc m) m (det R (suc m)) (det_alternating R (suc m)) (A zero) multiple (λ i. A (suc i)))
              ∙ det_pivot R m cleared below;
        }
      where
        multiple : Row R
        multiple i = ⊖ (A (suc i) zero ⊗ inv (A zero zero))

        cleared : Matrix R
        cleared = cons (A zero) (λ i j. A (suc i) j ⊕ multiple i ⊗ A zero j)

        below : (i : ℕ) → i < m → A (suc i) zero ⊕ ⊖ (A (suc i) zero ⊗ inv (A zero zero)) ⊗ A zero zero ≡ 𝟘
        below i h =
            ring R (A (suc i) zero ∷ inv (A zero zero) ∷ A zero zero ∷ []) (v0 ⊞ ⊟ (v0 ⊠ v1) ⊠ v2) (v0 ⊞ ⊟ (v0 ⊠ (v2 ⊠ v1))) refl
            ∙ ap (λ x. A (suc i) zero ⊕ ⊖ x) (ap (λ x. A (suc i) zero ⊗ x) (inverts (A zero zero) p) ∙ mul_one (A (suc i) zero))
            ∙ add_neg (A (suc i) zero)

        same : Dependent R (suc m) (suc n) A ↔ Dependent R (suc m) (suc n) cleared
        same =
            subst (λ M. Dependent R (suc m) (suc n) M ↔ Dependent R (suc m) (suc n) cleared) (cons_eta A)
            (Iff.symm (dependent_clear R decides m (suc n) (A zero) multiple (λ i. A (suc i))))

    -- The first entry of row i is not 0: that row is brought to the front.
    exchange_step : (m n i : ℕ) (A : Matrix R) → i < suc m → A i zero ≢ 𝟘 → Step R m n A
    exchange_step m n zero A h p = clear_step m n A p
    exchange_step m n (suc i) A h p =
        record {
          rest = step.rest;
          same_dependence = Iff.trans (Iff.symm (dependent_exchange R (suc m) (suc n) zero (suc i) A (zero-lt-suc m) h)) step.same_dependence;
          factor = ⊖ step.factor;
          factor_nonzero = λ e. step.factor_nonzero (sym (Ring.neg_neg R step.factor) ∙ ap (λ x. ⊖ x) e ∙ Ring.neg_zero R);
          same_determinant =
              sym (Ring.neg_neg R (det R (suc m) A))
              ∙ ap (λ x. ⊖ x) (sym (det_exchange R (suc m) zero (suc i) A (zero-lt-suc m) h (λ e. suc-ne-zero i (sym e))) ∙ step.same_determinant)
              ∙ sym (Ring.neg_mul R step.factor (det R m step.rest));
        }
      where
        step : Step R m n (exchange zero (suc i) A)
        step = clear_step m n (exchange zero (suc i) A) (λ e. p (ap (λ a. A a zero) (sym (swap_left zero (suc i))) ∙ e))

    -- The first column is 0, or elimination takes a step.
    pub eliminate : (m n : ℕ) (A : Matrix R) → ((i : ℕ) → i < suc m → A i zero ≡ 𝟘) ⊎ (Step R) m n A
    eliminate m n A = elim (zeros_or_not R decides (suc m) (λ i. A i zero)) [ inl z ↦ inl z | inr w ↦ inr (exchange_step m n w.0 A w.1 w.2) ]

    -- It is decided whether rows are dependent.
    pub dependent_decides : Nontrivial R → (m n : ℕ) (A : Matrix R) → Dec (Dependent R m n A)
    dependent_decides nontrivial zero n A = no (no_rows R n A)
    dependent_decides nontrivial (suc m) zero A = yes (no_columns R nontrivial m A)
    dependent_decides nontrivial (suc m) (suc n) A =
        elim (eliminate m n A) [
          | inl z ↦ Dec.of_iff (Iff.symm (zero_column R (suc m) n A z)) (dependent_decides nontrivial (suc m) n (λ i j. A i (suc j)))
          | inr step ↦ Dec.of_iff (Iff.symm step.same_dependence) (dependent_decides nontrivial m n step.rest)
        ]

    -- Rows are dependent or independent.
    pub dependent_or_independent : Nontrivial R → (m n : ℕ) (A : Matrix R) → Dependent R m n A ⊎ Independent R m n A
    dependent_or_independent nontrivial m n A =
        elim (dependent_decides nontrivial m n A) [ yes d ↦ inl d | no nd ↦ inr (not_dependent_independent R decides m n A nd) ]

    -- More rows than columns are dependent.
    pub more_rows_dependent : Nontrivial R → (m n : ℕ) (A : Matrix R) → n < m → Dependent R m n A
    more_rows_dependent nontrivial zero n A h = absurd (not-suc-le-zero h)
    more_rows_dependent nontrivial (suc m) zero A h = no_columns R nontrivial m A
    more_rows_dependent nontrivial (suc m) (suc n) A h =
        elim (eliminate m n A) [
          | inl z ↦ (zero_column R (suc m) n A z).1 (more_rows_dependent nontrivial (suc m) n (λ i j. A i (suc j)) (le_of_lt h))
          | inr step ↦ step.same_dependence.1 (more_rows_dependent nontrivial m n step.rest (le_of_suc-le-suc h))
        ]

    det_zero_dependent : Nontrivial R → (n : ℕ) (A : Matrix R) → det R n A ≡ 𝟘 → Dependent R n n A
    unfolding det
    det_zero_dependent nontrivial zero A e = absurd (nontrivial e)
    det_zero_dependent nontrivial (suc n) A e =
        elim (eliminate n n A) [
          | inl z ↦ (zero_column R (suc n) n A z).1 (more_rows_dependent nontrivial (suc n) n (λ i j. A i (suc j)) (lt-suc_self n))
          | inr step ↦
              step.same_dependence.1
              (det_zero_dependent nontrivial n step.rest
              (Ring.cancels_of_inverts R inv inverts step.factor (det R n step.rest) step.factor_nonzero (sym step.same_determinant ∙ e)))
        ]

    -- The rows of a square are dependent exactly if its determinant is 0 …
    pub dependent_iff_det_zero : Nontrivial R → (n : ℕ) (A : Matrix R) → Dependent R n n A ↔ (det R n A ≡ 𝟘)
    unfolding Dependent
    dependent_iff_det_zero nontrivial n A = (
      λ (u, (i, h, ne), c).
          Ring.cancels_of_inverts R inv inverts (u i) (det R n A) ne (mul_comm (u i) (det R n A) ∙ kernel_times_det R n A u c i h),
      det_zero_dependent nontrivial n A,
    )

    -- … and independent exactly if it is not.
    pub independent_iff_det_nonzero : Nontrivial R → (n : ℕ) (A : Matrix R) → Independent R n n A ↔ (det R n A ≢ 𝟘)
    independent_iff_det_nonzero nontrivial n A = (
      λ ind e. independent_not_dependent R n n A ind ((dependent_iff_det_zero nontrivial n A).1 e),
      λ ne. not_dependent_independent R decides n n A (λ d. ne ((dependent_iff_det_zero nontrivial n A).0 d)),
    )
