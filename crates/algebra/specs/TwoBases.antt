-- Two matrices of polynomials, each with a nonsingular leading matrix, whose rows are combinations of each other's: they have the same
-- row degrees, in another order.
--   Permutation n σ          σ takes each number below n to one below n, no two to the same
--   det_permutation          a determinant other than 0 has in each row an entry other than 0, no two in one column
--   sum_more                 sums of integers of which each is at most another
use Rattle.std.specs.Prelude.{◌≡◌, ◌≢◌, [], ◌∷◌, ℤ, pos, ◌+ℤ◌}
use Rattle.std.proofs.Math.Path.{refl, sym, ap}
use Rattle.std.proofs.Common.{ap₂, ◌∙◌, le_of_suc-le-suc, not-suc-le-zero, zero-lt-suc, arith}
use Rattle.std.proofs.Math.Logic.{inl, inr}
use Prim.Native.Nat.{ℕ, zero, suc, ◌+◌, ◌<◌, suc-le-suc}
use Rattle.std.proofs.Math.IntN.{+ℤ_idr}
use Rattle.algebra.specs.Ring as Ring
use Rattle.algebra.specs.Ring.{CommRing, Decides, Cancels, sign}
use Rattle.algebra.specs.Solver.{v0, v1, v2, v3, ◌⊞◌, ring}
use Rattle.algebra.specs.Integer.{Integers, More}
use Rattle.algebra.specs.Sum.{skip, skip_ne, skip_injective, skip_below, sum, sum_zero, sum_apart, zeros_or_not}
use Rattle.algebra.specs.Matrix.{Matrix, cons}
use Rattle.algebra.specs.Det.{minor, det}

-- PERMUTATIONS

-- σ takes each number below n to one below n, no two to the same, so that the order of a sum's terms is all that it changes.
pub record Permutation (n : ℕ) (σ : ℕ → ℕ) : Type 0 where
  pub within : (i : ℕ) → i < n → σ i < n
  pub apart : (i k : ℕ) → i < n → k < n → σ i ≡ σ k → i ≡ k
  pub same_sum : (f : ℕ → ℤ) → sum Integers n (λ i. f (σ i)) ≡ sum Integers n f

-- One number more in front: j, and then a permutation of the numbers other than j.
permutation_more : (n j : ℕ) (σ : ℕ → ℕ) → j < suc n → Permutation n σ → Permutation (suc n) (cons j (λ i. skip j (σ i)))
unfolding cons sum
permutation_more n j σ hj permutes =
    record {
      within = elim [ zero ↦ λ h. hj | suc i ↦ λ h. skip_below n j (σ i) (permutes.within i (le_of_suc-le-suc h)) ];
      apart = apart;
      same_sum = λ f. ap (λ x. f j +ℤ x) (permutes.same_sum (λ i. f (skip j i))) ∙ sym (sum_apart Integers n j f hj);
    }
  where
    apart : (i k : ℕ) → i < suc n → k < suc n → cons j (λ i. skip j (σ i)) i ≡ cons j (λ i. skip j (σ i)) k → i ≡ k
    apart zero zero hi hk e = refl
    apart zero (suc k) hi hk e = absurd (skip_ne j (σ k) (sym e))
    apart (suc i) zero hi hk e = absurd (skip_ne j (σ i) e)
    apart (suc i) (suc k) hi hk e =
        ap suc (permutes.apart i k (le_of_suc-le-suc hi) (le_of_suc-le-suc hk) (skip_injective j (σ i) (σ k) e))

module _ (R : CommRing) (decides : Decides R) where
  open R use {𝟘, ◌⊗◌}

  infixl 70 ◌⊗◌
  -- A determinant other than 0 has in each row an entry other than 0, no two in one column: one of its terms is not 0.
  pub det_permutation : (n : ℕ) (A : Matrix R) → det R n A ≢ 𝟘 → (σ : ℕ → ℕ) × Permutation n σ × ((i : ℕ) → i < n → A i (σ i) ≢ 𝟘)
  unfolding det skip cons sum
  det_permutation zero A ne =
      ((λ i. i), record { within = λ i h. h; apart = λ i k hi hk e. e; same_sum = λ f. refl }, λ i h. absurd (not-suc-le-zero h))
  det_permutation (suc n) A ne =
      elim (zeros_or_not R decides (suc n) (λ j. sign R j ⊗ A zero j ⊗ det R n (minor zero j A))) [
        | inl zeros ↦ absurd (ne (sum_zero R (suc n) (λ j. sign R j ⊗ A zero j ⊗ det R n (minor zero j A)) zeros))
        | inr (j, hj, term) ↦
            let (σ, permutes, others) = det_permutation n (minor zero j A) (λ z. term (ap (λ x. sign R j ⊗ A zero j ⊗ x) z ∙ Ring.mul_zero R _)) in (
              cons j (λ i. skip j (σ i)),
              permutation_more n j σ hj permutes,
              elim [
                | zero ↦
                    λ h z.
                    term (ap (λ x. sign R j ⊗ x ⊗ det R n (minor zero j A)) z
                    ∙ ap (λ x. x ⊗ det R n (minor zero j A)) (Ring.mul_zero R _)
                    ∙ Ring.zero_mul R _)
                | suc i ↦ λ h. others i (le_of_suc-le-suc h)
              ],
            )
      ]

-- SUMS

-- Where each f i is at most g i, the sum of the f i is at most that of the g i, and where it is not less no f i is.
pub sum_more : (n : ℕ) (f g : ℕ → ℤ) → ((i : ℕ) → i < n → More (f i) (g i))
    → (k : ℕ) × (sum Integers n g ≡ sum Integers n f +ℤ pos k) × (k ≡ 0 → (i : ℕ) → i < n → g i ≡ f i)
unfolding sum
sum_more zero f g h = (0, refl, λ z i b. absurd (not-suc-le-zero b))
sum_more (suc n) f g h =
    let (a, first) = h zero (zero-lt-suc n) in
    let (k, rest, none_less) = sum_more n (λ i. f (suc i)) (λ i. g (suc i)) (λ i b. h (suc i) (suc-le-suc b)) in (
      a + k,
      ap₂ (λ x y. x +ℤ y) first rest
          ∙ ring Integers (f zero ∷ pos a ∷ sum Integers n (λ i. f (suc i)) ∷ pos k ∷ []) (v0 ⊞ v1 ⊞ (v2 ⊞ v3)) (v0 ⊞ v2 ⊞ (v1 ⊞ v3)) refl,
      λ z. elim [
        | zero ↦ λ b. first ∙ ap (λ x. f zero +ℤ pos x) (omega arith) ∙ +ℤ_idr (f zero)
        | suc i ↦ λ b. none_less (omega arith) i (le_of_suc-le-suc b)
      ],
    )
