-- Laws of the sum of numbers, `sum_below`.
--   sum_below_cong, sum_below_last, sum_below_constant, sum_below_within      its terms
--   sum_window               the terms that are not 0
--   red_sum                  its residue
use Rattle.std.specs.Prelude.{◌≡◌, refl, ℕ, zero, suc, ◌+◌, ◌*◌, ◌≤◌, ◌<◌}
use Rattle.std.proofs.Common.{sym, ap, ap₂, ◌∙◌, zero-le, suc-le-suc, add_comm, add_assoc, le_of_suc-le-suc, not-suc-le-zero, zero-lt-suc, zero-add, suc-add, add-one, arith}
use Rattle.algebra.specs.Residue.{K, red, red_add}
use Rattle.algebra.specs.Sum.{sum}
use Rattle.rules.specs.Conditions.{sum_below}

-- A sum depends on its terms, …
pub sum_below_cong : (n : ℕ) (f g : ℕ → ℕ) → ((i : ℕ) → i < n → f i ≡ g i) → sum_below n f ≡ sum_below n g
unfolding sum_below
sum_below_cong zero f g h = refl
sum_below_cong (suc n) f g h = ap₂ ◌+◌ (h 0 (omega arith)) (sum_below_cong n (λ i. f (suc i)) (λ i. g (suc i)) (λ i b. h (suc i) (omega arith)))

-- … its last term stands apart, …
pub sum_below_last : (n : ℕ) (f : ℕ → ℕ) → sum_below (n + 1) f ≡ sum_below n f + f n
unfolding sum_below
sum_below_last zero f = add_comm (f zero) 0
sum_below_last (suc n) f =
    ap (λ k. sum_below k f) (add-one (suc n))
    ∙ ap (λ x. f zero + x) (ap (λ k. sum_below k (λ i. f (suc i))) (sym (add-one n)) ∙ sum_below_last n (λ i. f (suc i)))
    ∙ sym (add_assoc (f zero) (sum_below n (λ i. f (suc i))) (f (suc n)))

-- … of equal terms it is their number times each, …
pub sum_below_constant : (n : ℕ) (f : ℕ → ℕ) (k : ℕ) → ((i : ℕ) → i < n → f i ≡ k) → sum_below n f ≡ n * k
unfolding sum_below
sum_below_constant zero f k h = omega arith
sum_below_constant (suc n) f k h = omega (arith, h 0 (omega arith), sum_below_constant n (λ i. f (suc i)) k (λ i b. h (suc i) (omega arith)))

-- … and a term and those before it are within the sum.
pub sum_below_within : (n : ℕ) (f : ℕ → ℕ) (j : ℕ) → j < n → sum_below j f + f j ≤ sum_below n f
unfolding sum_below
sum_below_within zero f j h = absurd (not-suc-le-zero h)
sum_below_within (suc n) f zero h = omega arith
sum_below_within (suc n) f (suc j) h = omega (arith, sum_below_within n (λ i. f (suc i)) j (le_of_suc-le-suc h))

-- Terms that are 0 at the end may be left out.
sum_trim : (n count : ℕ) (g : ℕ → ℕ) → count ≤ n → ((t : ℕ) → t < n → count ≤ t → g t ≡ 0) → sum_below n g ≡ sum_below count g
unfolding sum_below
sum_trim zero zero g h z = refl
sum_trim zero (suc count) g h z = absurd (not-suc-le-zero h)
sum_trim (suc n) zero g h z =
    ap₂ ◌+◌ (z zero (zero-lt-suc n) zero-le) (sum_trim n zero (λ i. g (suc i)) zero-le (λ t b c. z (suc t) (suc-le-suc b) zero-le))
sum_trim (suc n) (suc count) g h z =
    ap (λ x. g zero + x) (sum_trim n count (λ i. g (suc i)) (le_of_suc-le-suc h) (λ t b c. z (suc t) (suc-le-suc b) (suc-le-suc c)))

-- … and where all terms below `first`, and from first + count on, are 0, the others are the sum.
pub sum_window : (n first count : ℕ) (g : ℕ → ℕ) → first + count ≤ n → ((t : ℕ) → t < first → g t ≡ 0)
    → ((t : ℕ) → t < n → first + count ≤ t → g t ≡ 0) → sum_below n g ≡ sum_below count (λ s. g (first + s))
unfolding sum_below
sum_window n zero count g h low high =
    sum_trim n count g (omega arith) (λ t b c. high t b (omega arith)) ∙ sum_below_cong count g (λ s. g (0 + s)) (λ s b. ap g (sym (zero-add s)))
sum_window zero (suc first) count g h low high = absurd (omega arith)
sum_window (suc n) (suc first) count g h low high =
    ap₂ ◌+◌ (low zero (zero-lt-suc first))
    (sum_window n first count (λ i. g (suc i)) (omega arith) (λ t b. low (suc t) (suc-le-suc b)) (λ t b c. high (suc t) (suc-le-suc b) (omega arith)))
    ∙ zero-add (sum_below count (λ s. g (suc (first + s))))
    ∙ sum_below_cong count (λ s. g (suc (first + s))) (λ s. g (suc first + s)) (λ s b. ap g (sym (suc-add first s)))

-- The residue of a sum is the sum of the residues.
pub red_sum : (p n : ℕ) (f : ℕ → ℕ) → red p (sum_below n f) ≡ sum (K p) n (λ i. red p (f i))
unfolding sum_below sum
red_sum p zero f = refl
red_sum p (suc n) f =
    red_add p (f zero) (sum_below n (λ i. f (suc i))) ∙ ap (λ x. (K p).◌⊕◌ (red p (f zero)) x) (red_sum p n (λ i. f (suc i)))
