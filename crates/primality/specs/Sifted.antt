-- What a search for prime divisors in a range tells.
--   NoPrime                  no prime of the range, with a square of at most p, divides p
--   Sifted                   what a search answers: true if p is not prime, false if there is no such divisor
--   divided                  a number with a divisor between 1 and itself is not prime
--   prime_odd                a prime from 3 on is odd
--   sifted_of_odd            a search among the odd numbers is one among the primes
--   range_both               what holds of two neighbouring ranges holds of both
--   prime_of_range           an odd number is prime if no odd prime divides it, in a range that reaches its square root
use Rattle.std.specs.Prelude.{◌≡◌, ◌⊎◌, Bool, true, false, ℕ, zero, suc, ◌+◌, ◌*◌, ◌%◌, ◌≤◌, ◌<◌}
use Rattle.std.proofs.Common.{inl, inr, mul-le-mul, mul-le-mul_left, mul-le-mul_right, le_trans, arith}
use Rattle.std.proofs.Math.Logic.{by_cases}
use Rattle.std.specs.Int.{◌∣◌}
use Rattle.std.proofs.Math.Nat.{dvd_trans, mod-eq-zero_of_dvd}
use Rattle.std.proofs.Math.Decide.{ℕ_discrete, dec_lt}
use Rattle.algebra.specs.Prime.{Prime, prime_mod_pos, prime_of_no_small_divisor}
use Rattle.algebra.proofs.Prime.{prime_or_small_divisor}
use Rattle.divisors.specs.Found.{Found, OddDivisor}

-- No prime from lo on and below hi, with a square of at most p, divides p.
abbrev pub NoPrime : ℕ → ℕ → ℕ → Type 0
NoPrime lo hi p = (d : ℕ) → Prime d → lo ≤ d → d < hi → d * d ≤ p → ¬ (d ∣ p)

-- The answer r of a search among the primes from lo on and below hi: true only if p is not prime, false only if none of them divides p.
pub record Sifted (lo hi p : ℕ) (r : Bool) : Type 0 where
  pub found : r ≡ true → ¬ Prime p
  pub none : r ≡ false → NoPrime lo hi p

-- A number with a divisor between 1 and itself is not prime.
pub divided : (p d : ℕ) → 2 ≤ d → d < p → p % d ≡ 0 → ¬ Prime p
divided p d lo hi e prime = omega (arith, prime_mod_pos prime d lo hi)

-- A prime from 3 on is odd.
pub prime_odd : (d : ℕ) → Prime d → 3 ≤ d → d % 2 ≡ 1
prime_odd d prime three = omega (arith, prime_mod_pos prime 2 (omega arith) (omega arith))

-- A search among the odd numbers from lo on is a search among the primes from lo on.
pub sifted_of_odd : (lo p : ℕ) (r : Bool) → 3 ≤ lo → Found (OddDivisor lo p) r → Sifted lo (p + 1) p r
sifted_of_odd lo p r three search = record {
  found = λ e. go (search.some e);
  none = λ e d prime above below square divides. search.none e d (record {
    above = above;
    odd = prime_odd d prime
        (omega arith);
    square = square;
    divides = divides;
  });
}
  where
    go : ((d : ℕ) × OddDivisor lo p d) → ¬ Prime p
    go (d, h) = divided p d (omega (arith, h.above)) (omega (arith, h.above, h.square, mul-le-mul_right {m = 3} {n = d} d (omega (arith, h.above))))
        (mod-eq-zero_of_dvd d h.divides)

-- Every divisor of p leads down to a prime one.
descend : (p : ℕ) → ((d : ℕ) → Prime d → d * d ≤ p → ¬ (d ∣ p)) → (k d : ℕ) → d ≤ k → 2 ≤ d → d * d ≤ p → ¬ (d ∣ p)
descend p none zero d hk lo sq h = omega arith
descend p none (suc k) d hk lo sq h = go (descend p none k) (prime_or_small_divisor d lo)
  where
    go : ((e : ℕ) → e ≤ k → 2 ≤ e → e * e ≤ p → ¬ (e ∣ p)) → ¬ (Prime d ⊎ ((e : ℕ) × (2 ≤ e) × (e * e ≤ d) × (e ∣ d)))
    go smaller (inl prime) = none d prime sq h
    go smaller (inr (e, two, small, divides)) =
        let less : e < d = omega (arith, mul-le-mul_left e two) in
        smaller e (omega arith) two (le_trans (mul-le-mul {n₁ = e} {m₁ = e} {n₂ = d} {m₂ = d} (omega arith) (omega arith)) sq) (dvd_trans e divides h)

-- What holds of two neighbouring ranges holds of both.
pub range_both : {lo mid hi p : ℕ} → NoPrime lo mid p → NoPrime mid hi p → NoPrime lo hi p
range_both {mid = mid} first second d prime above below = by_cases (dec_lt d mid) (λ less. first d prime above less) (λ more. second d prime (omega arith) below)

-- An odd number is prime if no odd prime divides it, in a range that reaches its square root.
pub prime_of_range : (p hi : ℕ) → 2 ≤ p → p % 2 ≡ 1 → p < hi * hi → NoPrime 3 hi p → Prime p
prime_of_range p hi two odd reach none = prime_of_no_small_divisor p two (λ d lo sq. descend p each d d (omega arith) lo sq)
  where
    below : (d : ℕ) → d * d ≤ p → d < hi
    below d sq = by_cases (dec_lt d hi) (λ less. less) (λ above. absurd (omega
        (arith, mul-le-mul {n₁ = hi} {m₁ = hi} {n₂ = d} {m₂ = d} (omega arith) (omega arith))))

    each : (d : ℕ) → Prime d → d * d ≤ p → ¬ (d ∣ p)
    each d prime sq h = by_cases (ℕ_discrete d 2) (λ e. omega (arith, mod-eq-zero_of_dvd 2 (rw e at h)))
        (λ ne. none d prime (omega (arith, prime.two_le)) (below d sq) sq h)
