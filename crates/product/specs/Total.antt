-- A sum of products of numbers below 2^31 that is kept in two parts, high · 2^40 + low: a product is cut in two, and the sums of the
-- parts fit 64 bits.
--   Within n high low        the parts are no larger than those of n products
--   Grown n high low d …     the parts after n more products, whose sum is d
--   Summed n s high low      the parts of a sum s of at most n products
use Rattle.std.specs.Prelude.{◌≡◌, List, ℕ, ◌+◌, ◌*◌, ◌/◌, ◌%◌, ◌^◌, ◌≤◌, ◌<◌}
use Rattle.std.proofs.Common.{arith}
use Rattle.algebra.specs.Residue.{red_eq}
use Rattle.rules.specs.Sizes.{largest_prime}
use Rattle.field.specs.declared.Modulus.{Modulus}
use Rattle.field.specs.Modulus.{cut, Made, red_fold}
use Rattle.layout.specs.Holds.{Each}

-- A sum of n products in two parts, and what it is after some more.
pub record Within (n high low : ℕ) : Type 0 where
  pub high_most : high ≤ n * 2 ^ 22
  pub low_most : low ≤ n * cut

pub record Grown (n high low added high' low' : ℕ) : Type 0 where
  pub value : high' * cut + low' ≡ high * cut + low + added
  pub high_more : high' ≤ high + n * 2 ^ 22
  pub low_more : low' ≤ low + n * cut

-- A sum s of at most n products, in two parts.
pub record Summed (n s high low : ℕ) : Type 0 where
  pub total : high * cut + low ≡ s
  pub within : Within n high low

-- Numbers modulo p have at most 31 bits.
pub below_small : (p : ℕ) (l : List ℕ) → p ≤ largest_prime → Each p l → Each (2 ^ 31) l
unfolding largest_prime
below_small p l most below k = omega (arith, below k)

-- No product, and one more, cut in two at 2^40.
pub grown_none : (high low : ℕ) → Grown 0 high low 0 high low
grown_none high low = record { value = omega arith; high_more = omega arith; low_more = omega arith }

pub grown_more : {n high low added added' high' low' : ℕ} (u : ℕ) → Grown n high low added high' low' → u < 2 ^ 62 → added' ≡ added + u
    → Grown (n + 1) high low added' (high' + u / cut) (low' + u % cut)
grown_more u g small e =
    record { value = omega (arith, g.value, e); high_more = omega (arith, g.high_more); low_more = omega (arith, g.low_more) }

-- At most n products are at most more.
pub within_more : {n n' high low : ℕ} → Within n high low → n ≤ n' → Within n' high low
within_more w h = record { high_most = omega (arith, w.high_most); low_most = omega (arith, w.low_most) }

-- It may be said of more products, and of an equal sum.
pub grown_at_most : {n n' high low added added' high' low' : ℕ} → Grown n high low added high' low' → n ≤ n' → added' ≡ added
    → Grown n' high low added' high' low'
grown_at_most g h e = record { value = omega (arith, g.value, e); high_more = omega (arith, g.high_more); low_more = omega (arith, g.low_more) }

-- After some more products the sum is that much more.
pub summed_more : {n n' s s' c d high low high' low' : ℕ} → Summed n s high low → Grown c high low d high' low' → n + c ≤ n' → s' ≡ s + d
    → Summed n' s' high' low'
summed_more h g room e =
    record {
      total = omega (arith, h.total, g.value, e);
      within = record { high_most = omega (arith, h.within.high_most, g.high_more); low_most = omega (arith, h.within.low_most, g.low_more) };
    }

-- A sum that is kept in two parts, modulo p.
pub fold_residue : {μ : Modulus} → Made μ → (high low : ℕ) → (high * μ.fold + low) % μ.p ≡ (high * cut + low) % μ.p
fold_residue {μ} made high low = (red_eq μ.p made.positive (high * μ.fold + low) (high * cut + low)).0 (red_fold made high low)
