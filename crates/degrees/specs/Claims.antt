-- The degrees of the rows and their sum, over the arrays of a claim, are those that the rules give the claim.
--   row_degree_rules, degree_sum_rules
use Rattle.std.specs.Prelude.{◌≡◌, refl, List, ℕ, zero, suc, ◌<◌, ℤ, length}
use Rattle.std.proofs.Math.Path.{ap₂}
use Rattle.std.specs.Prelude.{Option}
use Rattle.std.proofs.Common.{suc-le-suc, zero-lt-suc}
use Rattle.algebra.specs.Sum.{sum_cong}
use Rattle.algebra.specs.Integer.{Integers}
use Rattle.rules.specs.Matrices.{shift, at}
use Rattle.rules.specs.Conditions.{shifted_degree_of, larger, largest, plus, total, less, row_degree_of, row_degree, degree_sum_of, degree_sum}
use Rattle.layout.specs.Flat.{length_at, shift_at}
use Rattle.claim.specs.declared.Head.{Head}
use Rattle.claim.specs.Claims.{problem_of, basis_of}
use Rattle.claim.specs.Holds.{holds_shifts, holds_lengths}
use Rattle.degrees.specs.Degrees.{entry_term}

-- The largest and the sum depend on the values that count alone.
largest_cong : (n : ℕ) (f g : ℕ → Option ℤ) → ((j : ℕ) → j < n → f j ≡ g j) → largest n f ≡ largest n g
unfolding largest
largest_cong zero f g h = refl
largest_cong (suc n) f g h =
    ap₂ larger (h zero (zero-lt-suc n)) (largest_cong n (λ j. f (suc j)) (λ j. g (suc j)) (λ j b. h (suc j) (suc-le-suc b)))

total_cong : (n : ℕ) (f g : ℕ → Option ℤ) → ((j : ℕ) → j < n → f j ≡ g j) → total n f ≡ total n g
unfolding total
total_cong zero f g h = refl
total_cong (suc n) f g h =
    ap₂ plus (h zero (zero-lt-suc n)) (total_cong n (λ j. f (suc j)) (λ j. g (suc j)) (λ j b. h (suc j) (suc-le-suc b)))

module _ (head : Head) (f lengths entries : List ℕ) where
  -- Condition 1: the degrees of the rows and their sum.
  pub row_degree_rules : (i : ℕ) → i < head.m
      → row_degree_of head.m (length_at lengths i) (shift_at head.shifts) ≡ row_degree (problem_of head f) (basis_of head.m lengths entries) i
  unfolding row_degree_of
  row_degree_rules i hi =
      largest_cong head.m (entry_term lengths head.shifts i)
      (λ j. shifted_degree_of (length (at (basis_of head.m lengths entries) i j)) (shift (problem_of head f) j))
      (λ j h. ap₂ shifted_degree_of (holds_lengths head f lengths entries i j hi h) (holds_shifts head f j h))

  pub degree_sum_rules : degree_sum_of head.m (length_at lengths) (shift_at head.shifts) ≡ degree_sum (problem_of head f)
      (basis_of head.m lengths entries)
  unfolding degree_sum_of
  degree_sum_rules =
      ap₂ less
      (total_cong head.m (λ i. row_degree_of head.m (length_at lengths i) (shift_at head.shifts))
      (row_degree (problem_of head f) (basis_of head.m lengths entries)) row_degree_rules)
      (sum_cong Integers head.m (shift_at head.shifts) (shift (problem_of head f)) (holds_shifts head f))
