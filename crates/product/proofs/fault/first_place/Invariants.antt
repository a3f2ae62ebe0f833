use Rattle.std.proofs.Common.{◌≡◌, ℕ, ◌<◌, Bool}
use Rattle.product.specs.Search.{Fails}
use Rattle.product.proofs.fault.first_place.Given as goal

-- No row before this one has a fault, whichever test the closure makes.
abbrev pub invariant-loop-i : goal.invariant-loop-i
invariant-loop-i g l =
    (faults : ℕ → ℕ → Bool) → ((i j : ℕ) (r : Bool) → i < l.m → j < l.n → goal.F-post g l.fault i j r → r ≡ faults i j)
    → (row : ℕ) → row < l.i-counter → Fails l.n (faults row)
