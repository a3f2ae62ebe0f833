use Rattle.std.proofs.Common.{◌≡◌, ℕ, ◌<◌, false}
use Rattle.drawn.specs.Columns.{other_than_zero}
use Rattle.drawn.proofs.every_column_zero.Given as goal

abbrev pub invariant-loop-j : goal.invariant-loop-j
invariant-loop-j l =
    (k : ℕ) → k < l.j → other_than_zero l.problem.head l.problem.f l.answer.basis.entries l.answer.c l.u l.point k ≡ false
