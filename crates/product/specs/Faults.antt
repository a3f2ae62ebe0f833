-- Condition 3 over the flat arrays: where P·F has a fault. Each test is that of the rules, with the coefficients of the flat arrays.
--   flat_low_fault           some coefficient below the order is not 0
--   flat_order_fault         the coefficient at the order differs from C
use Rattle.std.specs.Prelude.{◌≡◌, ◌≢◌, Bool, true, false, not, List, ℕ, eqb, get_or}
use Rattle.std.proofs.Common.{sym, ap, ◌∙◌, eq-eqb, ne_eqb}
use Rattle.rules.specs.Conditions.{is_zero, some_below}
use Rattle.layout.specs.Flat.{square_place}
use Rattle.claim.specs.declared.Head.{Head}
use Rattle.product.specs.Product.{flat_product}

-- "In column j of PF every coefficient below power d_j is 0": some coefficient is not.
abbrev pub low_test : Head → (f entries : List ℕ) → ℕ → ℕ → ℕ → Bool
low_test head f entries i j k = not (is_zero head.p (flat_product head.p entries f head.m i j k))

unfoldable pub flat_low_fault : Head → (f entries : List ℕ) → ℕ → ℕ → Bool
flat_low_fault head f entries i j = some_below (get_or head.orders j 0) (low_test head f entries i j)

-- "and those at power d_j are column j of C": that coefficient differs.
unfoldable pub flat_order_fault : Head → (f entries c : List ℕ) → ℕ → ℕ → Bool
flat_order_fault head f entries c i j =
    not (eqb (flat_product head.p entries f head.m i j (get_or head.orders j 0)).0 (get_or c (square_place i j) 0))

-- What a coefficient tells of the test.
module _ (head : Head) (f entries : List ℕ) (i j k r : ℕ) (e : r ≡ (flat_product head.p entries f head.m i j k).0) where
  pub low_test_zero : r ≡ 0 → low_test head f entries i j k ≡ false
  low_test_zero z = ap not (eq-eqb (flat_product head.p entries f head.m i j k).0 0 (sym e ∙ z))

  pub low_test_other : r ≢ 0 → low_test head f entries i j k ≡ true
  low_test_other n = ap not (ne_eqb (flat_product head.p entries f head.m i j k).0 0 (λ z. n (e ∙ z)))
