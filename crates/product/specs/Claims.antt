-- What the code computes from the arrays of a claim is what the rules say of the claim.
--   factors_of               what is asked of the factors
--   product_rules, order_rules, low_fault_rules, order_fault_rules         condition 3
--   first_low_place, first_order_place                                     the first place of each fault
use Rattle.std.specs.Prelude.{◌≡◌, List, ℕ, ◌<◌, eqb, get_or}
use Rattle.std.proofs.Math.Path.{ap, ap₂, fun_ext}
use Rattle.std.proofs.Common.{◌∙◌, le_of_lt}
use Rattle.std.proofs.Math.Bool.{not}
use Rattle.algebra.specs.Residue.{K, red}
use Rattle.algebra.proofs.Series.{Series}
use Rattle.algebra.specs.Matrix.{vmul_cong, mmul}
use Rattle.algebra.proofs.PolyMatrix.{entries as series_entries}
use Rattle.rules.specs.Claim.{Problem}
use Rattle.rules.specs.Matrices.{order, matrix_P, matrix_F, product}
use Rattle.rules.specs.Conditions.{some_below, low_fault, order_fault, first_place}
use Rattle.layout.specs.Flat.{cells, column_cells}
use Rattle.claim.specs.declared.Head.{Head}
use Rattle.claim.specs.Claims.{problem_of, basis_of, constants_of}
use Rattle.claim.specs.Sound.{SoundHead, SoundColumns, SoundBasis}
use Rattle.claim.specs.Holds.{holds_orders, holds_columns, holds_entries, holds_constants}
use Rattle.product.specs.Product.{Factors, flat_product}
use Rattle.product.specs.Faults.{low_test, flat_low_fault, flat_order_fault}
use Rattle.laws.specs.SearchLaws.{some_below_cong}
use Rattle.product.specs.Search.{first_place_cong}

-- What the product asks of its factors.
pub factors_of : {head : Head} {f lengths entries : List ℕ} → SoundHead head → SoundColumns head f → SoundBasis head lengths entries
    → Factors head.p entries lengths f
factors_of sound_head sound_columns sound_basis =
    record {
      modulus_positive = le_of_lt sound_head.prime.two_le;
      modulus_most = sound_head.prime_most;
      entry_below = sound_basis.P_below;
      column_below = sound_columns.F_below;
      padded = sound_basis.P_padded;
    }

module _ (head : Head) (f lengths entries : List ℕ) (sound_head : SoundHead head) (sound_columns : SoundColumns head f)
    (sound_basis : SoundBasis head lengths entries) where
  abbrev b : Problem
  b = problem_of head f

  abbrev P : List (List (List ℕ))
  P = basis_of head.m lengths entries

  -- Condition 3: the coefficients of the product …
  pub product_rules : (i j : ℕ) → i < head.m → j < head.n → (k : ℕ) → flat_product head.p entries f head.m i j k ≡ product b P i j k
  unfolding flat_product product mmul
  product_rules i j hi hj k =
      ap (λ s. s k)
      (vmul_cong (Series (K head.p)) head.m (cells head.p entries i) (series_entries (K head.p) (matrix_P b P) i) (column_cells head.p f)
      (series_entries (K head.p) (matrix_F b)) j
      (λ l h. fun_ext (λ k. ap (red head.p) (holds_entries head f lengths entries sound_head sound_basis i l k hi h)))
      (λ l h. fun_ext (λ k. ap (red head.p) (holds_columns head f sound_columns l j k h hj))))

  -- … at the order …
  pub order_rules : (i j : ℕ) → i < head.m → j < head.n
      → (flat_product head.p entries f head.m i j (get_or head.orders j 0)).0 ≡ (product b P i j (order b j)).0
  order_rules i j hi hj =
      ap (λ d. (flat_product head.p entries f head.m i j d).0) (holds_orders head f j hj) ∙ ap (λ x. x.0) (product_rules i j hi hj (order b j))

  -- … and the faults.
  pub low_fault_rules : (i j : ℕ) → i < head.m → j < head.n → flat_low_fault head f entries i j ≡ low_fault b P i j
  unfolding flat_low_fault low_fault
  low_fault_rules i j hi hj =
      ap (λ d. some_below d (low_test head f entries i j)) (holds_orders head f j hj)
      ∙ some_below_cong (order b j) (low_test head f entries i j) (λ k. not (eqb (product b P i j k).0 0))
      (λ k h. ap (λ x. not (eqb x.0 0)) (product_rules i j hi hj k))

  pub order_fault_rules : (c : List ℕ) (i j : ℕ) → i < head.m → j < head.n
      → flat_order_fault head f entries c i j ≡ order_fault b P (constants_of head.m head.n c) i j
  unfolding flat_order_fault order_fault
  order_fault_rules c i j hi hj = ap₂ (λ x y. not (eqb x y)) (order_rules i j hi hj) (holds_constants head f c i j hi hj)

  -- The first place of each.
  pub first_low_place : first_place head.m head.n (flat_low_fault head f entries) ≡ first_place head.m head.n (low_fault b P)
  first_low_place = first_place_cong head.m head.n (flat_low_fault head f entries) (low_fault b P) low_fault_rules

  pub first_order_place : (c : List ℕ) → first_place head.m head.n (flat_order_fault head f entries c)
      ≡ first_place head.m head.n (order_fault b P (constants_of head.m head.n c))
  first_order_place c = first_place_cong head.m head.n (flat_order_fault head f entries c) (order_fault b P (constants_of head.m head.n c)) (order_fault_rules c)
