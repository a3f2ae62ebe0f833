-- How many of the numbers below n pass a test, and points no two of which are the same.
--   Distinct n x             x 0, …, x (n − 1) are different
--   count n test             how many numbers below n pass; count_most: not more than n
--   Passing, passing         those that pass, one after the other
--   count_one                where no two pass, one at most is counted
use Rattle.std.specs.Prelude.{◌≡◌, refl, Bool, true, false, cond, ℕ, zero, suc, ◌+◌, ◌≤◌, ◌<◌}
use Rattle.std.proofs.Common.{ap, zero-le, suc-le-suc, not-suc-le-zero, zero-lt-suc, suc-ne-zero, le_of_lt, lt_of_not-le, arith}
use Rattle.std.proofs.Math.Nat.{suc_inj}
use Rattle.std.proofs.Math.Decide.{dec_le}

-- No two of x 0, …, x (n − 1) are the same.
abbrev pub Distinct : {A : Type 0} → ℕ → (ℕ → A) → Type 0
Distinct n x = (i k : ℕ) → i < n → k < n → x i ≡ x k → i ≡ k

-- How many of the numbers below n pass the test.
unfoldable pub count : ℕ → (ℕ → Bool) → ℕ
count zero test = 0
count (suc n) test = cond (test zero) 1 0 + count n (λ i. test (suc i))

-- At most all of them do.
pub count_most : (n : ℕ) (test : ℕ → Bool) → count n test ≤ n
unfolding count
count_most zero test = zero-le
count_most (suc n) test = at (test zero) (count_most n (λ i. test (suc i)))
  where
    at : (b : Bool) {c : ℕ} → c ≤ n → cond b 1 0 + c ≤ suc n
    at true h = omega arith
    at false h = omega arith

-- c different numbers below n that pass the test.
pub record Passing (n : ℕ) (test : ℕ → Bool) (c : ℕ) : Type 0 where
  pub place : ℕ → ℕ
  pub within : (k : ℕ) → k < c → place k < n
  pub passes : (k : ℕ) → k < c → test (place k) ≡ true
  pub different : Distinct c place

-- As many as are counted can be listed.
pub passing : (n : ℕ) (test : ℕ → Bool) → Passing n test (count n test)
unfolding count
passing zero test = record {
  place = λ k. k;
  within = λ k h. absurd (not-suc-le-zero h);
  passes = λ k h. absurd (not-suc-le-zero h);
  different = λ i k hi hk e. e;
}
passing (suc n) test = more (test zero) refl (passing n (λ i. test (suc i)))
  where
    first : (ℕ → ℕ) → ℕ → ℕ
    first place zero = zero
    first place (suc k) = suc (place k)

    more : (b : Bool) → test zero ≡ b → {c : ℕ} → Passing n (λ i. test (suc i)) c → Passing (suc n) test (cond b 1 0 + c)
    more true e later = record {
      place = first later.place;
      within = elim [ zero ↦ λ h. zero-lt-suc n | suc k ↦ λ h. suc-le-suc (later.within k (omega arith)) ];
      passes = elim [ zero ↦ λ h. e | suc k ↦ λ h. later.passes k (omega arith) ];
      different = elim [
        | zero ↦ elim [ zero ↦ λ hi hk q. refl | suc k ↦ λ hi hk q. absurd (omega arith) ]
        | suc i ↦ elim [ zero ↦ λ hi hk q. absurd (omega arith) | suc k ↦ λ hi hk q. ap suc (later.different i k (omega arith) (omega arith) (suc_inj q)) ]
      ];
    }
    more false e later = record {
      place = λ k. suc (later.place k);
      within = λ k h. suc-le-suc (later.within k (omega arith));
      passes = λ k h. later.passes k (omega arith);
      different = λ i k hi hk q. later.different i k (omega arith) (omega arith) (suc_inj q);
    }

-- Where no two numbers below n pass, one at most does.
pub count_one : (n : ℕ) (test : ℕ → Bool) → ((i k : ℕ) → i < n → k < n → test i ≡ true → test k ≡ true → i ≡ k) → count n test ≤ 1
count_one n test one = elim (dec_le (count n test) 1) [
  | yes le ↦ le
  | no gt ↦
      let two : 1 < count n test = lt_of_not-le gt in
      let found : 0 < count n test = le_of_lt two in
      let all = passing n test in
      absurd (suc-ne-zero 0 (all.different 1 0 two found
      (one (all.place 1) (all.place 0) (all.within 1 two) (all.within 0 found) (all.passes 1 two) (all.passes 0 found))))
]
