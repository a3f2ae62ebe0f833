-- Prime numbers.
--   Prime p                  p is at least 2 and is divided by 1 and p alone
--   prime_mod_pos            no number between 1 and a prime divides it
--   euclid                   a prime that divides a product divides a factor
--   prime_of_no_small_divisor     it is enough to look at the d with d · d ≤ n
use Rattle.std.specs.Prelude.{◌≡◌, ◌⊎◌, ℕ, zero, suc, ◌+◌, ◌*◌, ◌/◌, ◌%◌, ◌≤◌, ◌<◌}
use Rattle.std.proofs.Common.{sym, ap, ◌∙◌, inl, inr, one-mul, mul-one, add-mul, mul_assoc, mod-lt, mul-le-mul_right, pos_of_ne-zero, le_of_lt, le_trans, le_of_eq, arith}
use Rattle.std.proofs.Math.Logic.{by_cases}
use Rattle.std.specs.Int.{◌∣◌}
use Rattle.std.proofs.Math.Nat.{mod-add-div', emod_pos_of_not-dvd, lt_of_mul-lt-mul_left, dvd-mul_right, dvd-mul_left_of_dvd, dvd-add_iff_left, dvd_of_mod-eq-zero, mul-div_cancel', pos_of_dvd_of_pos, dvd-mul_left}
use Rattle.std.proofs.Math.Decide.{ℕ_discrete, dec_le, dec_dvd}

-- A prime number is at least 2, and no number but 1 and itself divides it.
pub record Prime (p : ℕ) : Type 0 where
  pub two_le : 2 ≤ p
  pub divisors : (d : ℕ) → d ∣ p → (d ≡ 1) ⊎ (d ≡ p)

-- A prime leaves a remainder other than 0 when it is divided by a number between 1 and itself.
pub prime_mod_pos : {p : ℕ} → Prime p → (r : ℕ) → 1 < r → r < p → 0 < p % r
prime_mod_pos {p} prime r lo hi = pos_of_ne-zero (λ e. go (prime.divisors r (dvd_of_mod-eq-zero r e)))
  where
    go : ¬ ((r ≡ 1) ⊎ (r ≡ p))
    go (inl e) = omega arith
    go (inr e) = omega arith

-- A product, by the remainder and the quotient of its first factor.
pub mul_by_mod_div : (a n b : ℕ) → a % n * b + a / n * (n * b) ≡ a * b
mul_by_mod_div a n b = rw (← mul_assoc (a / n) n b, ← add-mul (a % n) (a / n * n) b, mod-add-div' a n)

-- What divides a · b and n · b divides (a mod n) · b.
dvd_mod_mul : (k a n b : ℕ) → k ∣ a * b → k ∣ n * b → k ∣ a % n * b
dvd_mod_mul k a n b ha hn = (dvd-add_iff_left k {m = a % n * b} {n = a / n * (n * b)} (dvd-mul_left_of_dvd k hn (a / n))).1 (rw (mul_by_mod_div a n b) ha)

-- If a prime p divides r · b, it divides (p mod r) · b, and so on until the remainder is 1.
cancel_below : {p : ℕ} → Prime p → (b k r : ℕ) → r ≤ k → 0 < r → r < p → p ∣ r * b → p ∣ b
cancel_below prime b zero r hk lo hi h = absurd (omega arith)
cancel_below {p} prime b (suc k) r hk lo hi h = by_cases (ℕ_discrete r 1) (λ e. rw (e, one-mul) at h) (λ ne.
    let smaller : p % r < r = mod-lt p lo in
    let left : 0 < p % r = prime_mod_pos prime r (omega arith) hi in
    cancel_below prime b k (p % r) (omega arith) left (omega arith) (dvd_mod_mul p p r b (dvd-mul_right p b) h))

-- Euclid's lemma: a prime that divides a product divides one of the factors.
pub euclid : {p : ℕ} → Prime p → (a b : ℕ) → p ∣ a * b → (p ∣ a) ⊎ (p ∣ b)
euclid {p} prime a b h =
    by_cases (dec_dvd p a) inl
    (λ nd. inr (cancel_below prime b p (a % p) (le_of_lt below) (emod_pos_of_not-dvd p nd) below (dvd_mod_mul p a p b h (dvd-mul_right p b))))
  where
    below : a % p < p
    below = mod-lt a (le_of_lt prime.two_le)

-- A number is prime if it is at least 2 and is divided by no d from 2 on with d · d ≤ n.
pub prime_of_no_small_divisor : (n : ℕ) → 2 ≤ n → ((d : ℕ) → 2 ≤ d → d * d ≤ n → ¬ (d ∣ n)) → Prime n
prime_of_no_small_divisor n two none = record { two_le = two; divisors = λ d h. go d (n / d) h (mul-div_cancel' d h) (dec_le (d * d) n) }
  where
    small : (k : ℕ) → k ∣ n → k * k ≤ n → k ≡ 1
    small k h le = by_cases (ℕ_discrete k 1) (λ e. e) (λ ne. absurd (none k (omega (arith, pos_of_dvd_of_pos h (le_of_lt two))) le h))

    -- of two factors, the smaller is 1
    go : (d e : ℕ) → d ∣ n → d * e ≡ n → Dec (d * d ≤ n) → (d ≡ 1) ⊎ (d ≡ n)
    go d e h split (yes le) = inl (small d h le)
    go d e h split (no nle) =
        let below : e < d = lt_of_mul-lt-mul_left d (omega arith) in
        let one : e ≡ 1 = small e (rw split at (dvd-mul_left e d)) (le_trans (mul-le-mul_right e (le_of_lt below)) (le_of_eq split)) in
        inr (sym (mul-one d) ∙ ap (λ x. d * x) (sym one) ∙ split)
