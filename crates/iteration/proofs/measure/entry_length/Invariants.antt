use Rattle.std.proofs.Common.{◌≡◌, ℕ, ◌≤◌, ◌<◌}
use Rattle.rules.specs.Sizes.{most_length}
use Rattle.stepping.specs.Next.{coefficient_at}
use Rattle.iteration.proofs.measure.entry_length.Given as goal

abbrev pub invariant-loop-t : goal.invariant-loop-t
invariant-loop-t l = (t : ℕ) → l.t ≤ t → t < most_length → coefficient_at l.entries l.i l.j t ≡ 0
