-- How far from 0 the largest and the sum of several integers are.
--   nat_abs_largest           the largest is within what all are within
--   nat_abs_sum, nat_abs_total a sum of n is within n times that
use Rattle.std.specs.Prelude.{◌≡◌, ℕ, zero, suc, ◌*◌, ◌≤◌, ◌<◌, ℤ, pos, nat_abs}
use Rattle.std.proofs.Common.{sym, subst, ◌∙◌, suc-le-suc, zero-lt-suc, arith}
use Rattle.std.specs.Prelude.{Option, Some, unwrap_or}
use Rattle.std.proofs.lemmas.Option.{same_Some}
use Rattle.algebra.specs.Sum.{sum}
use Rattle.algebra.specs.Integer.{Integers, nat_abs_add}
use Rattle.rules.specs.Conditions.{largest, total}
use Rattle.laws.specs.DegreeLaws.{largest_is, total_is, total_all}

pub nat_abs_largest : (k n : ℕ) (f : ℕ → Option ℤ) → ((j : ℕ) (x : ℤ) → j < n → f j ≡ Some x → nat_abs x ≤ k) → (z : ℤ) → largest n f ≡ Some z → nat_abs z ≤ k
nat_abs_largest k n f h z e = let (j, b, at) = largest_is n f z e in h j z b at

pub nat_abs_sum : (k n : ℕ) (f : ℕ → ℤ) → ((i : ℕ) → i < n → nat_abs (f i) ≤ k) → nat_abs (sum Integers n f) ≤ n * k
unfolding sum
nat_abs_sum k zero f h = omega arith
nat_abs_sum k (suc n) f h = omega (
  arith,
  nat_abs_add (f zero) (sum Integers n (λ i. f (suc i))),
  h zero (zero-lt-suc n),
  nat_abs_sum k n (λ i. f (suc i)) (λ i b. h (suc i) (suc-le-suc b)),
)

pub nat_abs_total : (k n : ℕ) (f : ℕ → Option ℤ) → ((i : ℕ) (x : ℤ) → i < n → f i ≡ Some x → nat_abs x ≤ k) → (z : ℤ) → total n f ≡ Some z → nat_abs z ≤ n * k
nat_abs_total k n f h z e =
    let g : ℕ → ℤ = λ i. unwrap_or (f i) (pos 0) in
    let all : (i : ℕ) → i < n → f i ≡ Some (g i) = total_all n f z e in
    let same : z ≡ sum Integers n g = same_Some _ _ (sym e ∙ total_is n f g all) in
    subst (λ x. nat_abs x ≤ n * k) (sym same) (nat_abs_sum k n g (λ i b. h i (g i) b (all i b)))
