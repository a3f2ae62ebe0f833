use Rattle.std.proofs.Common.{arith}
use Rattle.rules.specs.Sizes.{most_rows, most_order}
use Rattle.basis_making.specs.Cut.{cut_columns, cutting_all}
use Rattle.basis_making.proofs.cut.cut_columns.Goals as goal

pub returns : goal.returns
unfolding cut_columns most_rows most_order
returns c = cutting_all _ _ _ _ _ (omega arith) c.loop-place.invariant
