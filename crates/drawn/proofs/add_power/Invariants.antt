use Rattle.std.proofs.Common.{ℕ, ◌≡◌, ◌≤◌, get_or, length}
use Rattle.drawn.specs.Values.{AddedPower}
use Rattle.drawn.proofs.add_power.Given as goal

abbrev pub invariant-loop-l : goal.invariant-loop-l
invariant-loop-l l = record {
  added : AddedPower l.p (length l.row) l.l l.fn.values l.row l.basis.entries l.x l.values;
  rest : (i : ℕ) → l.l ≤ i → get_or l.values i 0 ≡ get_or l.fn.values i 0;
}
