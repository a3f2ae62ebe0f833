use Rattle.std.proofs.Common.{refl}
use Rattle.rules.specs.Sizes.{most_rows, most_length}
use Rattle.rules.specs.Table.{table}
use Rattle.layout.specs.Flat.{entry_coefficients}
use Rattle.pivots.specs.Rows.{zeros_at}
use Rattle.iteration.specs.Begin.{unit_start}
use Rattle.iteration.proofs.start.identity.Goals as goal

pub loop-i-init : goal.loop-i-init
unfolding most_rows most_length table
loop-i-init c = unit_start _ refl (zeros_at entry_coefficients)
