-- What the test of primes answers.
--   test_of_prime, test_of_other    the rule at a prime, and at any other number
--   below_four               of the numbers below 4, those above 1 are prime
--   test_of_range            the rule at an odd number that no odd prime up to its square root divides
--   test_of_rest             the rule by a search among the primes that are left
use Rattle.std.specs.Prelude.{◌≡◌, refl, ◌≢◌, Bool, true, false, not, ℕ, ◌+◌, ◌*◌, ◌%◌, ◌≤◌, ◌<◌, ltb}
use Rattle.std.proofs.Common.{sym, ◌∙◌, mul-le-mul, mul-le-mul_right, arith, lt-ltb, le-ltb}
use Rattle.std.proofs.Math.Logic.{by_cases}
use Rattle.std.specs.Int.{◌∣◌}
use Rattle.std.proofs.Math.Decide.{dec_lt}
use Rattle.algebra.specs.Prime.{Prime, prime_of_no_small_divisor}
use Rattle.rules.specs.Files.{is_prime}
use Rattle.laws.specs.FieldTests.{is_prime_iff}
use Rattle.primality.specs.Sifted.{NoPrime, Sifted, range_both, prime_of_range}

-- The rule passes a prime …
pub test_of_prime : (p : ℕ) → Prime p → true ≡ is_prime p
test_of_prime p prime = sym ((is_prime_iff p).1 prime)

-- … and no other number.
pub test_of_other : (p : ℕ) → ¬ Prime p → false ≡ is_prime p
test_of_other p other = go (is_prime p) (λ e. other ((is_prime_iff p).0 e))
  where
    go : (b : Bool) → b ≢ true → false ≡ b
    go true ne = absurd (ne refl)
    go false ne = refl

-- Of the numbers below 4, those above 1 are prime.
pub below_four : (p : ℕ) → p < 4 → ltb 1 p ≡ is_prime p
below_four p h =
    by_cases (dec_lt 1 p) (λ two. lt-ltb 1 p two ∙ test_of_prime p (prime_of_no_small_divisor p two no_square))
    (λ small. le-ltb 1 p (omega arith) ∙ test_of_other p (λ prime. small prime.two_le))
  where
    no_square : (d : ℕ) → 2 ≤ d → d * d ≤ p → ¬ (d ∣ p)
    no_square d lo sq = absurd (omega (arith, mul-le-mul lo lo))

-- An odd number is prime if no odd prime divides it, in a range that reaches its square root.
pub test_of_range : (hi p : ℕ) → 2 ≤ p → p % 2 ≡ 1 → p < hi * hi → NoPrime 3 hi p → true ≡ is_prime p
test_of_range hi p two odd reach none = test_of_prime p (prime_of_range p hi two odd reach none)

-- An odd number that no prime from 3 on and below lo divides is prime exactly if a search from lo on finds nothing.
pub test_of_rest : (lo p : ℕ) (r : Bool) → 2 ≤ p → p % 2 ≡ 1 → NoPrime 3 lo p → Sifted lo (p + 1) p r → not r ≡ is_prime p
test_of_rest lo p true two odd before rest = test_of_other p (rest.found refl)
test_of_rest lo p false two odd before rest = test_of_range (p + 1) p two odd (omega (arith, mul-le-mul_right {m = 1} {n = p + 1} (p + 1) (omega arith)))
    (range_both before (rest.none refl))
