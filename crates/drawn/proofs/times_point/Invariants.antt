use Rattle.std.proofs.Common.{ℕ, ◌≡◌, ◌≤◌, get_or}
use Rattle.drawn.specs.Values.{TimesPoint}
use Rattle.drawn.proofs.times_point.Given as goal

abbrev pub invariant-loop-x : goal.invariant-loop-x
invariant-loop-x l = record {
  times : TimesPoint l.p l.x-index l.fn.row l.point l.row;
  rest : (i : ℕ) → l.x-index ≤ i → get_or l.row i 0 ≡ get_or l.fn.row i 0;
}
