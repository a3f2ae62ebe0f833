-- What a coefficient of a row is after a step.
--   Rows                     what is asked of the coefficients and the factors
--   term, Combined           a combination of rows, and what its sum of products stands for
--   moved, Next              a coefficient of a row that moves, and of any row
use Rattle.std.specs.Prelude.{◌≡◌, ◌≢◌, List, cond, ℕ, ◌-◌, ◌*◌, ◌%◌, ◌≤◌, ◌<◌, eqb, get_or}
use Rattle.std.proofs.Common.{ap, ◌∙◌, mul-le-mul, mod-lt, arith}
use Rattle.algebra.specs.Residue.{K, red, red_mod, red_mul}
use Rattle.algebra.specs.Sum.{sum_cong}
use Rattle.algebra.specs.Matrix.{vmul}
use Rattle.rules.specs.Sizes.{largest_prime}
use Rattle.rules.specs.Conditions.{sum_below}
use Rattle.laws.specs.SumLaws.{red_sum}
use Rattle.layout.specs.Flat.{square_place, entry_place}
use Rattle.layout.specs.Holds.{Each}
use Rattle.pivots.specs.Rows.{number_at, square_of}

-- The coefficient at power t of the entry in row i and column j.
abbrev pub coefficient_at : List ℕ → ℕ → ℕ → ℕ → ℕ
coefficient_at l i j t = get_or l (entry_place i j t) 0

-- The numbers are below p, an allowed modulus.
pub record Rows (p : ℕ) (old factors : List ℕ) : Type 0 where
  pub modulus_most : p ≤ largest_prime
  pub old_below : Each p old
  pub factors_below : Each p factors

-- One product of a combination.
abbrev pub term : List ℕ → List ℕ → ℕ → ℕ → ℕ → ℕ → ℕ
term old factors i j t q = number_at factors i q * coefficient_at old q j t

-- A product of two numbers below p is at most so large, and four of them fit 64 bits.
abbrev pub most_product : ℕ
most_product = 4_611_686_009_837_453_316

pub term_most : (p : ℕ) (old factors : List ℕ) → Rows p old factors → (i j t q : ℕ) → term old factors i j t q ≤ most_product
unfolding largest_prime
term_most p old factors h i j t q =
    mul-le-mul {n₂ = 2_147_483_646} {m₂ = 2_147_483_646} (omega (arith, h.modulus_most, h.factors_below (square_place i q))) (omega (arith, h.modulus_most, h.old_below (entry_place q j t)))

-- r is the combination of m rows by row i of the factors.
pub record Combined (p m : ℕ) (old factors : List ℕ) (i j t r : ℕ) : Type 0 where
  pub below : r < p
  pub value : red p r ≡ vmul (K p) m (square_of p factors i) (λ q j. red p (coefficient_at old q j t)) j

-- The remainder of the sum of products is.
pub combined_sum : (p m : ℕ) (old factors : List ℕ) (i j t s r : ℕ) → 0 < p → s ≡ sum_below m (term old factors i j t) → r ≡ s % p
    → Combined p m old factors i j t r
unfolding vmul
combined_sum p m old factors i j t s r positive es er = record {
  below = rw er (mod-lt s positive);
  value =
      ap (red p) er
      ∙ red_mod p s
      ∙ ap (red p) es
      ∙ red_sum p m (term old factors i j t)
      ∙ sum_cong (K p) m (λ q. red p (term old factors i j t q)) (λ q. (K p).◌⊗◌ (square_of p factors i q) (red p (coefficient_at old q j t)))
      (λ q h. red_mul p (number_at factors i q) (coefficient_at old q j t));
}

-- The coefficient of a row that is multiplied by X.
abbrev pub moved : List ℕ → ℕ → ℕ → ℕ → ℕ
moved old i j t = cond (eqb t 0) 0 (coefficient_at old i j (t - 1))

-- r is the coefficient of row i after the step.
pub record Next (p m : ℕ) (old moves factors : List ℕ) (i j t r : ℕ) : Type 0 where
  pub below : r < p
  pub combined : get_or moves i 0 ≡ 0 → red p r ≡ vmul (K p) m (square_of p factors i) (λ q j. red p (coefficient_at old q j t)) j
  pub shifted : get_or moves i 0 ≢ 0 → r ≡ moved old i j t
