-- Prime numbers.
--   prime_iff_no_divisor     the test by remainders, over all the numbers from 2 to p − 1
--   prime_or_small_divisor    it is enough to look at the d with d · d ≤ n
use Rattle.std.specs.Prelude.{◌≢◌, ◌⊎◌, ◌↔◌, ℕ, zero, suc, ◌*◌, ◌%◌, ◌≤◌, ◌<◌}
use Rattle.std.proofs.Common.{inl, inr, suc-le-suc, not-suc-le-zero, mul-le-mul_left, le_of_lt, ne_of_gt, arith}
use Rattle.std.proofs.Math.Logic.{by_cases}
use Rattle.std.proofs.Math.Logic.Dec
use Rattle.std.specs.Int.{◌∣◌}
use Rattle.std.proofs.Math.Nat.{le_of_dvd, mod-eq-zero_of_dvd}
use Rattle.std.proofs.Math.Decide.{ℕ_discrete, dec_le, dec_dvd}
use Rattle.algebra.specs.Prime.{Prime, prime_mod_pos, prime_of_no_small_divisor}

-- A property that can be told holds of some number or of none below k.
search_below : (P : ℕ → Type 0) → ((d : ℕ) → Dec (P d)) → (k : ℕ) → ((d : ℕ) × P d) ⊎ ((d : ℕ) → d < k → ¬ P d)
search_below P dec zero = inr (λ d h. absurd (not-suc-le-zero h))
search_below P dec (suc k) = go (dec k) (search_below P dec k)
  where
    go : Dec (P k) → ((d : ℕ) × P d) ⊎ ((d : ℕ) → d < k → ¬ P d) → ((d : ℕ) × P d) ⊎ ((d : ℕ) → d < suc k → ¬ P d)
    go (yes h) none = inl (k, h)
    go (no nh) (inl found) = inl found
    go (no nh) (inr none) = inr (λ d h. by_cases (ℕ_discrete d k) (λ e. rw e nh) (λ ne. none d (omega arith)))

-- d is a divisor of n between 1 and the square root of n.
abbrev Small : ℕ → ℕ → Type 0
Small n d = (2 ≤ d) × ((d * d ≤ n) × (d ∣ n))

-- A number from 2 on is prime or has a divisor between 1 and its square root.
pub prime_or_small_divisor : (n : ℕ) → 2 ≤ n → Prime n ⊎ ((d : ℕ) × (2 ≤ d) × (d * d ≤ n) × (d ∣ n))
prime_or_small_divisor n two = go (search_below (Small n) (λ d. Dec.and (dec_le 2 d) (Dec.and (dec_le (d * d) n) (dec_dvd d n))) (suc n))
  where
    go : ((d : ℕ) × Small n d) ⊎ ((d : ℕ) → d < suc n → ¬ Small n d) → Prime n ⊎ ((d : ℕ) × (2 ≤ d) × (d * d ≤ n) × (d ∣ n))
    go (inl (d, (lo, (sq, h)))) = inr (d, lo, sq, h)
    go (inr none) = inl (prime_of_no_small_divisor n two (λ d lo sq h. none d (suc-le-suc (le_of_dvd (le_of_lt two) h)) (lo, (sq, h))))

-- The test by remainders: p is prime where p is at least 2 and no d with 2 ≤ d < p leaves the remainder 0.
pub prime_iff_no_divisor : (p : ℕ) → Prime p ↔ ((2 ≤ p) × ((d : ℕ) → 2 ≤ d → d < p → p % d ≢ 0))
prime_iff_no_divisor p = (
  λ prime. (prime.two_le, λ d lo hi. ne_of_gt (prime_mod_pos prime d lo hi)),
  λ (two, none). prime_of_no_small_divisor p two (λ d lo sq h. none d lo (omega (arith, mul-le-mul_left d lo)) (mod-eq-zero_of_dvd d h)),
)
