-- What the tests of a file's fields pass.
--   unless_iff               the code by which a test refuses
--   is_prime_iff, allowed_prime_iff, one_to_iff          the tests for p, and for the sizes from 1 on
--   coefficient_iff          the test of a coefficient of P
use Rattle.std.specs.Prelude.{◌≡◌, refl, ◌↔◌, ◌≢◌, Bool, true, false, cond, not, ℕ, zero, suc, ◌-◌, ◌%◌, ◌≤◌, ◌<◌, T, leb, ltb, eqb}
use Rattle.std.proofs.Common.{sym, ap, subst, ◌∙◌, arith, leb→le, le→leb, ltb→lt, lt→ltb, eqb→eq, T_not}
use Rattle.std.proofs.Math.Logic.{by_cases}
use Rattle.std.proofs.Math.Decide.{ℕ_discrete}
use Rattle.std.proofs.Math.Arith.{lt→nleb}
use Rattle.std.proofs.Math.Dec.{nleb→lt, eqb_refl, not_T}
use Rattle.algebra.specs.Prime.{Prime}
use Rattle.algebra.proofs.Prime.{prime_iff_no_divisor}
use Rattle.rules.specs.Sizes.{largest_prime}
use Rattle.laws.specs.BoolLaws.{true_iff, and_iff}
use Rattle.rules.specs.Files.{no_divisor, is_prime, allowed_prime, one_to, coefficient_test}

-- The code of a test that passes is 0, where the other code is not.
pub unless_iff : (code : ℕ) (b : Bool) → 0 < code → (cond b 0 code ≡ 0) ↔ T b
unless_iff code true pos = (λ h. tt, λ t. refl)
unless_iff code false pos = (λ h. omega arith, λ t. absurd t)

step_iff : (a b c : Bool) → T (elim a [ true ↦ true | false ↦ elim b [ true ↦ false | false ↦ c ] ]) ↔ (T (not a) → T (not b) × T c)
step_iff true b c = (λ t x. absurd x, λ f. tt)
step_iff false true c = (λ t x. absurd t, λ f. (f tt).0)
step_iff false false c = (λ t x. (tt, t), λ f. (f tt).1)

no_divisor_iff : (p k : ℕ) → (T (no_divisor p k)) ↔ ((d : ℕ) → 2 ≤ d → d ≤ k → p % d ≢ 0)
unfolding no_divisor
no_divisor_iff p zero = (λ t d lo hi. omega arith, λ h. tt)
no_divisor_iff p (suc k) = (
  λ t d lo hi e.
      let (last, before) = (step_iff (leb (suc k) 1) (eqb (p % suc k) 0) (no_divisor p k)).0 t (lt→nleb (suc k) 1 (omega arith)) in
      by_cases (ℕ_discrete d (suc k))
      (λ same. T_not (eqb (p % suc k) 0) last (subst (λ n. T (eqb n 0)) (sym (ap (λ n. p % n) (sym same) ∙ e)) tt))
      (λ ne. (no_divisor_iff p k).0 before d lo (omega arith) e),
  λ h. (step_iff (leb (suc k) 1) (eqb (p % suc k) 0) (no_divisor p k)).1 λ big. (
    not_T (eqb (p % suc k) 0) (λ t. h (suc k) (nleb→lt (suc k) 1 big) (omega arith) (eqb→eq (p % suc k) 0 t)),
    (no_divisor_iff p k).1 (λ d lo hi. h d lo (omega arith)),
  ),
)

-- The test for primes passes exactly the primes.
pub is_prime_iff : (p : ℕ) → (is_prime p ≡ true) ↔ Prime p
unfolding is_prime
is_prime_iff p = (
  λ h.
      let (two, none) = (and_iff (leb 2 p) (no_divisor p (p - 1))).0 ((true_iff _).0 h) in
      (prime_iff_no_divisor p).1 (leb→le 2 p two, λ d lo hi. (no_divisor_iff p (p - 1)).0 none d lo (omega arith)),
  λ prime.
      let (two, none) = (prime_iff_no_divisor p).0 prime in
      (true_iff _).1 ((and_iff (leb 2 p) (no_divisor p (p - 1))).1 (le→leb 2 p two, (no_divisor_iff p (p - 1)).1 (λ d lo hi. none d lo (omega arith)))),
)

-- The test for p passes exactly the primes within their size.
pub allowed_prime_iff : (p : ℕ) → T (allowed_prime p) ↔ (Prime p × (p ≤ largest_prime))
allowed_prime_iff p = (
  λ t. let (size, prime) = (and_iff (leb p largest_prime) (is_prime p)).0 t in ((is_prime_iff p).0 ((true_iff (is_prime p)).1 prime), leb→le p largest_prime size),
  λ (prime, size). (and_iff (leb p largest_prime) (is_prime p)).1 (le→leb p largest_prime size, (true_iff (is_prime p)).0 ((is_prime_iff p).1 prime)),
)

-- A size from 1 on passes where it is one.
pub one_to_iff : (most v : ℕ) → T (one_to most v) ↔ ((1 ≤ v) × (v ≤ most))
one_to_iff most v = (
  λ t. let (least, h) = (and_iff (leb 1 v) (leb v most)).0 t in (leb→le 1 v least, leb→le v most h),
  λ (least, h). (and_iff (leb 1 v) (leb v most)).1 (le→leb 1 v least, le→leb v most h),
)

-- A coefficient passes where it is below p and, if it is the last, not 0.
pub coefficient_iff : (p L k v : ℕ) → (coefficient_test p L k v ≡ 0) ↔ ((v < p) × (suc k ≡ L → v ≢ 0))
unfolding coefficient_test
coefficient_iff p L k v = (
  λ h.
      let (below, last) = (both_iff (ltb v p) (eqb (suc k) L) (not (eqb v 0))).0 h in
      (ltb→lt v p below, λ e z. T_not (eqb v 0) (last (subst (λ n. T (eqb (suc k) n)) e (eqb_refl (suc k)))) (subst (λ n. T (eqb n 0)) (sym z) tt)),
  λ (below, last). (both_iff (ltb v p) (eqb (suc k) L) (not (eqb v 0))).1
      (lt→ltb v p below, λ t. not_T (eqb v 0) (λ z. last (eqb→eq (suc k) L t) (eqb→eq v 0 z))),
)
  where
    both_iff : (a b c : Bool) → (◌≡◌ {A = ℕ} (elim a [ true ↦ elim b [ true ↦ cond c 0 7 | false ↦ 0 ] | false ↦ 6 ]) 0) ↔ (T a × (T b → T c))
    both_iff true true c = (λ h. (tt, λ t. (unless_iff 7 c (omega arith)).0 h), λ (s, t). (unless_iff 7 c (omega arith)).1 (t tt))
    both_iff true false c = (λ h. (tt, λ t. absurd t), λ h. refl)
    both_iff false b c = (λ h. absurd (omega arith), λ h. absurd h.0)

-- Its codes are at most 8.
pub coefficient_most : (p L k v : ℕ) → coefficient_test p L k v ≤ 8
unfolding coefficient_test
coefficient_most p L k v = most (ltb v p) (eqb (suc k) L) (not (eqb v 0))
  where
    most : (a b c : Bool) → elim a [ true ↦ elim b [ true ↦ cond c 0 7 | false ↦ 0 ] | false ↦ 6 ] ≤ 8
    most true true true = omega arith
    most true true false = omega arith
    most true false c = omega arith
    most false b c = omega arith
