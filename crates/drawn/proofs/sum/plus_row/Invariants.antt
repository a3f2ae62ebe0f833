use Rattle.std.proofs.Common.{◌≡◌, ◌<◌}
use Rattle.algebra.specs.Residue.{red}
use Rattle.drawn.specs.Sums.{room, plus_row}
use Rattle.drawn.proofs.sum.plus_row.Given as goal

abbrev pub invariant-loop-i : goal.invariant-loop-i
invariant-loop-i l = record {
  fits : l.sum < room l.p;
  value : red l.p l.sum ≡ plus_row l.p l.i l.start l.row l.numbers l.at l.stride;
}
