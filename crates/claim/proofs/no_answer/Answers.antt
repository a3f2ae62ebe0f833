use Rattle.std.proofs.Common.{ap}
use Rattle.rules.specs.Sizes.{most_rows}
use Rattle.layout.specs.Flat.{filled, square}
use Rattle.claim.proofs.no_answer.Goals as goal

pub returns : goal.returns
unfolding filled most_rows
returns c =
    let zeros = filled square 0 in
    ap (λ entries. record { basis = record { lengths = zeros; entries = entries }; c = zeros }) c.no_entries.ensures
