-- A table of numbers to divide by, in blocks, each beside its inverse modulo 2^16.
--   Table, Positive          a table; numbers other than 0
--   table_positive           a table has no 0
--   Clear                    no number of a part of the table divides p
--   clear_empty, clear_more, clear_both    an empty part, a part with one number more, two neighbouring parts
--   left_open, open_more     how many of the first numbers of a block the computation of their quotients leaves open; one number more
--   none_open                where it leaves none open, no one divides p
--   block_start, block_after what the first number of a block is, in the block and after it
--   room                     a whole block is left where one starts
use Rattle.std.specs.Prelude.{◌≡◌, ℕ, zero, suc, ◌+◌, ◌*◌, ◌/◌, ◌%◌, ◌<◌, ◌≤◌, List, length, nat_le, slice_index, slice_index_or, refl}
use Rattle.std.proofs.Common.{sym, ap, ap₂, ◌∙◌, add-one, arith, le-leb}
use Rattle.std.proofs.Math.Logic.{by_cases}
use Rattle.std.specs.Int.{◌∣◌, from_bool}
use Rattle.std.proofs.Math.Decide.{ℕ_discrete, dec_lt}
use Rattle.divisors.specs.Found.{block, first}
use Rattle.divisors.specs.Quotient.{high_part, positive, not_divided}

-- The numbers q rise; v has the inverse modulo 2^16 of each; there are whole blocks.
pub record Table (q v : List ℕ) : Type 0 where
  pub beside : length v ≡ length q
  pub blocks : length q % block ≡ 0
  pub inverse : (i : ℕ) → i < length q → slice_index q i * slice_index v i % 65536 ≡ 1
  pub rising : (i j : ℕ) → i ≤ j → j < length q → slice_index q i ≤ slice_index q j

-- No number is 0.
pub record Positive (q : List ℕ) : Type 0 where
  pub at : (i : ℕ) → i < length q → 0 < slice_index q i

-- A table has no 0.
pub table_positive : {q v : List ℕ} → Table q v → Positive q
table_positive {q} {v} table = record { at = λ i h. positive (slice_index q i) (slice_index v i) (table.inverse i h) }

-- No number at the places from a on and below e divides p.
pub record Clear (q : List ℕ) (a e p : ℕ) : Type 0 where
  pub none : (i : ℕ) → a ≤ i → i < e → ¬ (slice_index_or q i 0 ∣ p)

-- An empty part.
pub clear_empty : {q : List ℕ} {a p : ℕ} → Clear q a a p
clear_empty = record { none = λ i lo hi. absurd (omega arith) }

-- A part with one number more, which does not divide p.
pub clear_more : {q : List ℕ} {a e f p : ℕ} → f ≡ e + 1 → ¬ (slice_index_or q e 0 ∣ p) → Clear q a e p → Clear q a f p
clear_more {q} {a} {e} one not before = record {
  none = λ i lo hi h. by_cases (ℕ_discrete i e) (λ same. not (rw same at h))
      (λ ne. before.none i lo (omega arith) h);
}

-- Two parts, the second from the first one's end on.
pub clear_both : {q : List ℕ} {a b e p : ℕ} → Clear q a b p → Clear q b e p → Clear q a e p
clear_both {b = b} before after = record { none = λ i lo hi. by_cases (dec_lt i b) (before.none i lo) (λ beyond. after.none i (omega arith) hi) }

-- How many of the n numbers from place a on are left open: the high half that is computed of the quotient by each is at most the limit.
unfoldable pub left_open : (q v : List ℕ) (a h l limit n : ℕ) → ℕ
left_open q v a h l limit zero = 0
left_open q v a h l limit (suc n) = left_open q v a h l limit n + from_bool (nat_le (high_part h l (slice_index q (a + n)) (slice_index v (a + n))) limit)

-- One number more, of which x is computed.
pub open_more : (q v : List ℕ) (a h l limit n count x one : ℕ) → count ≡ left_open q v a h l limit n → x ≡ high_part h l (slice_index q (a + n)) (slice_index v (a + n))
    → one ≡ from_bool (nat_le x limit) → count + one ≡ left_open q v a h l limit (n + 1)
unfolding left_open
open_more q v a h l limit n count x one before computed counted =
    ap₂ (λ y z. y + z) before (counted ∙ ap (λ y. from_bool (nat_le y limit)) computed) ∙ sym (ap (left_open q v a h l limit) (add-one n))

-- What is not counted is above the limit.
uncounted : (x limit : ℕ) → from_bool (nat_le x limit) ≡ 0 → limit < x
uncounted x limit e = by_cases (dec_lt limit x) (λ more. more) (λ not. absurd (omega (arith, e, ap from_bool (le-leb x limit (omega arith)))))

-- Where none is left open and the limit is at least the high half of p divided by the first number, no one divides p.
pub none_open : {q v : List ℕ} → Table q v → (a h l limit n count : ℕ) → l < 65536 → h < 65536 → a + n ≤ length q → h / slice_index q a ≤ limit → count
    ≡ left_open q v a h l limit n → count ≡ 0 → Clear q a (a + n) (65536 * h + l)
unfolding left_open
none_open table a h l limit zero count small_l small_h inside bound counted none = record { none = λ i lo hi. absurd (omega arith) }
none_open {q} {v} table a h l limit (suc n) count small_l small_h inside bound counted none =
    clear_more (omega arith)
    (not_divided h l (slice_index q (a + n)) (slice_index v (a + n)) (slice_index q a) limit small_l small_h (table.inverse (a + n) (omega arith))
    ((table_positive table).at a (omega arith)) (table.rising a (a + n) (omega arith) (omega arith)) bound (uncounted _ limit (omega (arith, sum))))
    (none_open table a h l limit n _ small_l small_h (omega arith) bound refl (omega (arith, sum)))
  where
    sum : left_open q v a h l limit n + from_bool (nat_le (high_part h l (slice_index q (a + n)) (slice_index v (a + n))) limit) ≡ 0
    sum = sym counted ∙ none

-- The first number of a block, at each place of the block …
pub block_start : (q : List ℕ) (a i : ℕ) → a % block ≡ 0 → a ≤ i → i < a + block → slice_index q a ≡ first q i
block_start q a i start lo hi = ap (λ k. slice_index q k) (omega arith)

-- … and from the block on.
pub block_after : {q v : List ℕ} → Table q v → (a i : ℕ) → a % block ≡ 0 → a ≤ i → i < length q → slice_index q a ≤ first q i
block_after table a i start lo hi = table.rising a (i / block * block) (omega arith) (omega arith)

-- Where a block starts before the end of whole blocks, it is whole.
pub room : {a n : ℕ} → a % block ≡ 0 → n % block ≡ 0 → a < n → a + block ≤ n
room start whole before = omega arith
