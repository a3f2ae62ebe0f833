use mathlib.Core.Path.{◌≡◌}
use Prim.Native.Nat.{ℕ, ◌-◌, ◌%◌, ◌≤◌, ◌<◌, ◌∣◌}
use Rattle.divisors.proofs.odd_divisor.Given as goal

pub record Tried (from p d : ℕ) : Type 0 where
  pub reached : from ≤ d
  pub three : 3 ≤ d
  pub odd : d % 2 ≡ 1
  pub clear : (k : ℕ) → from ≤ k → k % 2 ≡ 1 → k < d → ¬ (k ∣ p)

abbrev pub invariant-loop-p : goal.invariant-loop-p
invariant-loop-p l = Tried l.from l.p l.d

abbrev pub decreases-loop-p : goal.decreases-loop-p
decreases-loop-p l = l.p - l.d
