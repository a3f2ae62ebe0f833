use Rattle.std.proofs.Common.{◌≡◌, length}
use Rattle.rules.specs.Sizes.{most_rows, most_length}
use Rattle.drawn.specs.Values.{Powered, Valued, Table}
use Rattle.drawn.proofs.values.Given as goal

abbrev pub invariant-loop-x : goal.invariant-loop-x
invariant-loop-x l = record {
  table_long : length l.table ≡ most_length;
  row_long : length l.row ≡ most_rows;
  sums_long : length l.sums ≡ most_rows;
  powered : Powered l.head.p l.head.m l.u l.basis.entries l.point l.x l.row;
  valued : Valued l.head.p l.head.m l.u l.basis.entries l.point l.x l.sums;
  table : Table l.head.p l.head.m l.u l.basis.entries l.point l.x l.table;
}
