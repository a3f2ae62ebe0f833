-- What the maker makes: after each step P is a basis of the orders reached.
--   after_entry_length, after_valid, after_entries       the entries after k steps: at most k + 1 coefficients, within their sizes
--   after_product            the product with F may be kept step by step
--   AfterBasis, after_basis  what holds of P after k steps
--   after_degree_start, after_degree_step      the row degrees: a pivot's goes up by one, the others stay
use Rattle.std.specs.Prelude.{◌≡◌, refl, Bool, true, false, not, T, ltb, ℤ, ◌+ℤ◌, length}
use Rattle.std.proofs.Math.Path.{sym, ap, subst}
use Rattle.std.proofs.Common.{◌∙◌, le_of_lt, arith, nltb→le}
use Rattle.std.specs.Prelude.{Some, unwrap_or}
use Prim.Native.Nat.{ℕ, zero, suc, min, ◌+◌, ◌≤◌, ◌<◌, zero-le}
use Rattle.std.proofs.Math.Dec.{ltb→lt}
use Rattle.std.proofs.Math.IntN.{pos}
use Rattle.algebra.specs.Residue.{K, K_decides, K_nontrivial}
use Rattle.algebra.proofs.Residue.{K_cancels}
use Rattle.algebra.specs.Series.{constant}
use Rattle.algebra.proofs.Series.{Series}
use Rattle.algebra.specs.Polynomial.{Below, below_constant, below_mono}
use Rattle.algebra.specs.Matrix.{Matrix, Same, unit, vmul, vmul_cong, mmul, unit_related}
use Rattle.algebra.proofs.PolyMatrix.{entries}
use Rattle.algebra.specs.Step.{once, next, Choice}
use Rattle.algebra.proofs.Step.{next_product, residuals, Basis}
use Rattle.algebra.proofs.StepDegrees.{constants_related}
use Rattle.algebra.proofs.StepRank.{next_below}
use Rattle.algebra.specs.StepBasis.{choice_local}
use Rattle.algebra.proofs.StepBasis.{identity_basis, step_basis, basis_row_degree, basis_local}
use Rattle.rules.specs.Sizes.{most_order, most_length}
use Rattle.rules.specs.Claim.{Problem}
use Rattle.rules.specs.Matrices.{order, shift, at, matrix_F, matrix_P, product}
use Rattle.rules.specs.Conditions.{row_degree}
use Rattle.laws.specs.Valid.{ValidProblem, ValidBasis}
use Rattle.rules.specs.Maker.{above, chosen, make_step, basis_after, row_degree_now}
use Rattle.laws.specs.BoolLaws.{true_iff}
use Rattle.laws.specs.RowDegrees.{row_degree_iff}
use Rattle.laws.specs.ChosenLaws.{chosen_choice}
use Rattle.laws.specs.ListedLaws.{list_matrix_entry_length, list_matrix_valid, list_matrix_entries}

module _ (b : Problem) (valid : ValidProblem b) where
  positive : 0 < b.p
  positive = le_of_lt valid.prime.two_le

  -- F and P over the series.
  abbrev series_F : Matrix (Series (K b.p))
  series_F = entries (K b.p) (matrix_F b)

  abbrev series_after : ℕ → Matrix (Series (K b.p))
  series_after k = entries (K b.p) (matrix_P b (basis_after b k))

  -- After k steps an entry has at most k + 1 coefficients, …
  pub after_entry_length : (k i j : ℕ) → length (at (basis_after b k) i j) ≤ suc k
  unfolding basis_after make_step
  after_entry_length zero i j = list_matrix_entry_length b positive 1 _ i j
  after_entry_length (suc k) i j = list_matrix_entry_length b positive (suc (suc k)) _ i j

  -- … so that P is within its sizes, …
  pub after_valid : (k : ℕ) → k ≤ most_order → ValidBasis b (basis_after b k)
  unfolding basis_after make_step most_order most_length
  after_valid zero h = list_matrix_valid b positive 1 _ (omega arith)
  after_valid (suc k) h = list_matrix_valid b positive (suc (suc k)) _ (omega arith)

  -- … it stands for the identity after 0 steps, …
  pub after_none : Same (Series (K b.p)) b.m b.m (unit (Series (K b.p))) (series_after zero)
  unfolding basis_after
  after_none = list_matrix_entries b positive 1 (unit (Series (K b.p))) (λ i j hi hj.
      subst (Below (K b.p) 1) (sym (unit_related (K b.p) (Series (K b.p)) (λ a f. f ≡ constant (K b.p) a) (constants_related (K b.p)) i j))
      (below_constant (K b.p) (unit (K b.p) i j)))

  -- … and after each step for what the step makes of the matrix before.
  pub after_step : (k : ℕ) → Same (Series (K b.p)) b.m b.m
      (next (K b.p) b.m (chosen b k (basis_after b k)).pivot (chosen b k (basis_after b k)).multipliers (series_after k)) (series_after (suc k))
  unfolding basis_after make_step
  after_step k = list_matrix_entries b positive (suc (suc k)) _ (λ i j hi hj.
      next_below (K b.p) b.m (chosen b k (basis_after b k)).pivot (chosen b k (basis_after b k)).multipliers (series_after k) (suc k) j
      (λ q hq. below_mono (K b.p) (series_after k q j) (after_entry_length k q j) (matrix_P b (basis_after b k) q j).below) i hi)

  -- The product with F after a step is what the step makes of the product before.
  pub after_product : (k i j t : ℕ) → i < b.m → product b (basis_after b (suc k)) i j t
      ≡ next (K b.p) b.m (chosen b k (basis_after b k)).pivot (chosen b k (basis_after b k)).multipliers (product b (basis_after b k)) i j t
  unfolding product mmul
  after_product k i j t hi =
      ap (λ f. f t)
      (vmul_cong (Series (K b.p)) b.m (series_after (suc k) i)
      (next (K b.p) b.m (chosen b k (basis_after b k)).pivot (chosen b k (basis_after b k)).multipliers (series_after k) i) series_F series_F j
      (λ q hq. sym (after_step k i q hi hq)) (λ q hq. refl)
      ∙ next_product (K b.p) b.m (chosen b k (basis_after b k)).pivot (chosen b k (basis_after b k)).multipliers (series_after k) series_F i j hi)

  -- What holds of P after k steps: it is a basis of the smaller of each order and k, and r are its row degrees by L2's rule.
  pub record AfterBasis (k : ℕ) : Type 0 where
    pub r : ℕ → ℤ
    pub row_degrees : (i : ℕ) → i < b.m → row_degree b (basis_after b k) i ≡ Some (r i)
    pub basis : Basis (K b.p) b.m b.n (entries (K b.p) (matrix_F b)) (shift b) (λ j. min (order b j) k) r
        (entries (K b.p) (matrix_P b (basis_after b k)))

  -- The degrees of a basis are the row degrees.
  with_degrees : (k : ℕ) → k ≤ most_order → (r : ℕ → ℤ)
      → Basis (K b.p) b.m b.n series_F (shift b) (λ j. min (order b j) k) r (series_after k) → AfterBasis k
  with_degrees k small r basis = record {
    r = r;
    row_degrees = λ i hi. (row_degree_iff b (basis_after b k) (after_valid k small) i (r i)).1
        (basis_row_degree (K b.p) (K_decides b.p) b.m b.n series_F (shift b) (λ j. min (order b j) k) r (series_after k) basis i hi);
    basis = basis;
  }

  -- A column is active at step k as long as its order is above k.
  raised : (k d : ℕ) → min d k + once (ltb k d) ≡ min d (suc k)
  raised k d = by (ltb k d) refl
    where
      by : (t : Bool) → ltb k d ≡ t → min d k + once t ≡ min d (suc k)
      by true e = omega (arith, ltb→lt k d ((true_iff (ltb k d)).0 e))
      by false e = omega (arith, nltb→le k d (subst (λ t. T (not t)) (sym e) tt))

  module _ (k : ℕ) (before : AfterBasis k) where
    abbrev before_orders : ℕ → ℕ
    before_orders j = min (order b j) k

    abbrev pivot : ℕ → Bool
    pivot = (chosen b k (basis_after b k)).pivot

    abbrev multipliers : Matrix (K b.p)
    multipliers = (chosen b k (basis_after b k)).multipliers

    -- What the step takes is a choice by the row degrees and the residuals of the orders reached.
    step_choice : Choice (K b.p) b.m b.n (above b k) before.r
        (residuals (K b.p) b.m series_F before_orders (series_after k)) pivot multipliers
    unfolding chosen product mmul
    step_choice =
        choice_local (K b.p) b.m b.n (above b k) (row_degree_now b (basis_after b k)) before.r (λ i j. product b (basis_after b k) i j k)
        (residuals (K b.p) b.m series_F before_orders (series_after k)) pivot multipliers
        (λ i hi. ap (λ o. unwrap_or o (pos 0)) (before.row_degrees i hi))
        (λ i j hi hj a. ap (vmul (Series (K b.p)) b.m (series_after k i) series_F j) (omega (arith, ltb→lt k (order b j) ((true_iff _).0 a))))
        (chosen_choice b.p valid.prime b.m b.n (above b k) (row_degree_now b (basis_after b k)) (λ i j. product b (basis_after b k) i j k))

    step_after : suc k ≤ most_order → AfterBasis (suc k)
    step_after small =
        with_degrees (suc k) small (λ i. before.r i +ℤ pos (once (pivot i)))
        (basis_local (K b.p) b.m b.n series_F (shift b) (λ j. min (order b j) k + once (above b k j)) (λ j. min (order b j) (suc k))
        (λ i. before.r i +ℤ pos (once (pivot i))) (λ i. before.r i +ℤ pos (once (pivot i)))
        (next (K b.p) b.m pivot multipliers (series_after k)) (series_after (suc k))
        (λ j hj. raised k (order b j)) (λ i hi. refl) (after_step k)
        (step_basis (K b.p) (K_decides b.p) (K_cancels b.p valid.prime) (K_nontrivial b.p valid.prime.two_le) b.m b.n series_F
        (shift b)
        before_orders before.r (series_after k) (above b k) pivot multipliers before.basis step_choice))

  -- After every step P is such a basis.
  pub after_basis : (k : ℕ) → k ≤ most_order → AfterBasis k
  after_basis zero small =
      with_degrees zero small (shift b)
      (basis_local (K b.p) b.m b.n series_F (shift b) (λ j. zero) (λ j. min (order b j) zero) (shift b) (shift b) (unit (Series (K b.p)))
      (series_after zero) (λ j hj. omega arith) (λ i hi. refl) after_none
      (identity_basis (K b.p) (K_nontrivial b.p valid.prime.two_le) b.m b.n series_F (shift b)))
  after_basis (suc k) small = step_after k (after_basis k (omega arith)) small

  -- Before any step the row degrees are the shifts, …
  pub after_degree_start : (i : ℕ) → i < b.m → row_degree_now b (basis_after b zero) i ≡ shift b i
  unfolding after_basis with_degrees
  after_degree_start i hi = ap (λ o. unwrap_or o (pos 0)) ((after_basis zero zero-le).row_degrees i hi)

  -- … and a step raises that of each pivot by one.
  pub after_degree_step : (k : ℕ) → suc k ≤ most_order → (i : ℕ) → i < b.m → row_degree_now b (basis_after b (suc k)) i
      ≡ row_degree_now b (basis_after b k) i +ℤ pos (once ((chosen b k (basis_after b k)).pivot i))
  unfolding step_after with_degrees
  after_degree_step k small i hi =
      let before : AfterBasis k = after_basis k (omega arith) in
      ap (λ o. unwrap_or o (pos 0)) ((step_after k before small).row_degrees i hi)
      ∙ ap (λ r. r +ℤ pos (once ((chosen b k (basis_after b k)).pivot i))) (sym (ap (λ o. unwrap_or o (pos 0)) (before.row_degrees i hi)))
