use mathlib.Core.Path.{◌≡◌}
use Rattle.std.specs.Prelude.{◌==◌, not, count_by, take}
use Rattle.polynomial.proofs.nonzeros.Given as goal

abbrev pub invariant-loop-x : goal.invariant-loop-x
invariant-loop-x l = l.n ≡ count_by (λ x. not (x == 0)) (take l.x-index l.xs)
