use Rattle.std.proofs.Common.{refl}
use Rattle.rules.specs.Sizes.{most_rows}
use Rattle.layout.specs.Flat.{filled}
use Rattle.claim.proofs.no_head.Goals as goal

pub returns : goal.returns
unfolding filled most_rows
returns c = refl
