use Rattle.std.proofs.Common.{◌-◌}
use Rattle.pivots.specs.Order.{degree_at}
use Rattle.pivots.specs.Rows.{square_of}
use Rattle.pivots.specs.Fold.{Folds}
use Rattle.pivots.proofs.choose.Given as goal

-- As many rows are left to take as turns of the loop.
abbrev pub invariant-loop : goal.invariant-loop
invariant-loop l =
    Folds l.p l.m (degree_at l.degrees) (square_of l.p l.residuals) (l.m - l.counter) l.taken l.choice.moves l.work.residuals l.work.constants
    l.choice.factors
