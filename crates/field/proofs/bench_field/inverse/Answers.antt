-- `field::bench_field::inverse` meets its contract: the table's rule is computed over all of its numbers. Assumes nothing.
use mathlib.Core.Path.{refl}
use Rattle.field.specs.Table.{inverts, inverses_from, inverses_of}
use Rattle.field.proofs.bench_field.inverse.Goals as goal

pub listed-requires-clause-inverses : goal.listed-requires-clause-inverses
unfolding inverts inverses_from
listed-requires-clause-inverses c = inverses_of _ _ tt refl
