-- A number in decimal, one digit after the other.
--   digits_small, digits_large         the digits of a number below 10, and of any other
--   digits_more, digits_length         how many there are: one more than of the tenth part; at most j + 1 of a number below 10^(j + 1)
--   digits_byte, digits_short, digits_word     at most 3, 5 and 10, of a number of one, two and four bytes
--   appended_one, appended_digit       a number below 10 put into an array, and one digit more of any other
use Rattle.std.specs.Prelude.{◌≡◌, List, [], ◌∷◌, ◌++◌, ℕ, zero, suc, ◌+◌, ◌/◌, ◌%◌, ◌^◌, ◌≤◌, ◌<◌, length, set}
use Rattle.std.proofs.Common.{sym, ap, subst, ◌∙◌, zero-le, suc-le-suc, not-suc-le-zero, arith, lt-ltb, le-ltb, length-append}
use Rattle.std.proofs.Math.Logic.{by_cases}
use Rattle.std.proofs.Math.Decide.{dec_lt}
use Rattle.rules.specs.Print.{digits, digits_within}
use Rattle.writer.specs.Appended.{Appended, appended_byte, appended_push}

-- The digits of a number below 10 …
pub digits_small : (n : ℕ) → n < 10 → digits n ≡ (48 + n) ∷ []
unfolding digits_within
digits_small n h = rw (lt-ltb n 10 h, digits_within)

-- Any number of steps that is enough gives the same digits.
digits_fuel : (k k' n : ℕ) → n < k → n < k' → digits_within k n ≡ digits_within k' n
unfolding digits_within
digits_fuel zero k' n h h' = absurd (not-suc-le-zero h)
digits_fuel (suc k) zero n h h' = absurd (not-suc-le-zero h')
digits_fuel (suc k) (suc k') n h h' =
    by_cases (dec_lt n 10)
    (λ l. rw (lt-ltb n 10 l, digits_within))
    (λ nl. rw (le-ltb n 10 (omega arith), digits_within) (ap (λ r. r ++ ((48 + n % 10) ∷ [])) (digits_fuel k k' (n / 10) (omega arith) (omega arith))))

-- … and of any other: those of the tenth part, and the last.
pub digits_large : (n : ℕ) → 10 ≤ n → digits n ≡ digits (n / 10) ++ ((48 + n % 10) ∷ [])
unfolding digits_within
digits_large n h =
    rw (le-ltb n 10 h, digits_within) (ap (λ r. r ++ ((48 + n % 10) ∷ [])) (digits_fuel n (suc (n / 10)) (n / 10) (omega arith) (omega arith)))

pub digits_more : (n : ℕ) → 10 ≤ n → length (digits n) ≡ length (digits (n / 10)) + 1
digits_more n h = ap length (digits_large n h) ∙ length-append (digits (n / 10)) ((48 + n % 10) ∷ [])

-- A number below 10^(j + 1) has at most j + 1 digits.
pub digits_length : (j n : ℕ) → n < 10 ^ suc j → length (digits n) ≤ suc j
digits_length zero n h = subst (λ t. length t ≤ 1) (sym (digits_small n h)) (suc-le-suc zero-le)
digits_length (suc j) n h =
    by_cases (dec_lt n 10)
    (λ l. subst (λ t. length t ≤ suc (suc j)) (sym (digits_small n l)) (suc-le-suc zero-le))
    (λ nl. omega (arith, digits_more n (omega arith), digits_length j (n / 10) (omega arith)))

-- Of numbers of one, two and four bytes.
pub digits_byte : (n : ℕ) → n < 2 ^ 8 → length (digits n) ≤ 3
digits_byte n h = digits_length 2 n (omega arith)

pub digits_short : (n : ℕ) → n < 2 ^ 16 → length (digits n) ≤ 5
digits_short n h = digits_length 4 n (omega arith)

pub digits_word : (n : ℕ) → n < 2 ^ 32 → length (digits n) ≤ 10
digits_word n h = digits_length 9 n (omega arith)

-- A number below 10 is one byte, …
pub appended_one :
    (l : List ℕ) (at n : ℕ) → n < 10 → at + length (digits n) ≤ length l → Appended l (set l at (48 + n)) at (at + 1) (digits n)
appended_one l at n h fits =
    subst (Appended l (set l at (48 + n)) at (at + 1)) (sym (digits_small n h))
    (appended_byte l at (48 + n) (omega (arith, ap length (digits_small n h))))

-- … and any other one digit more than its tenth part.
pub appended_digit :
    (l l' : List ℕ) (at e n : ℕ) → 10 ≤ n → at + length (digits n) ≤ length l → Appended l l' at e (digits (n / 10))
    → Appended l (set l' e (48 + n % 10)) at (e + 1) (digits n)
appended_digit l l' at e n h fits x =
    subst (Appended l (set l' e (48 + n % 10)) at (e + 1)) (sym (digits_large n h))
    (appended_push l l' at e (48 + n % 10) (digits (n / 10)) (omega (arith, x.ends, digits_more n h)) x)
