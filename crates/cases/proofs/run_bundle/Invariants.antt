-- The rooms for the two files keep their length.
use Rattle.std.proofs.Common.{length, ◌≡◌}
use Rattle.cases.specs.Limits.{longest}
use Rattle.cases.proofs.run_bundle.Given as goal

abbrev pub invariant-loop : goal.invariant-loop
invariant-loop g l = (length l.problem ≡ longest) × (length l.answer ≡ longest)
