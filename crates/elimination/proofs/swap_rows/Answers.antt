-- The library's exchange is the store of each of the two rows in the other's place.
use mathlib.Core.Path.{sym, ap, ◌∙◌}
use Prim.Native.Nat.{◌<◌}
use mathlib.Core.List.{[]}
use native.Mathlib.Omega.{arith}
use lib.ListN.{length, get_or}
use Rattle.std.proofs.lemmas.List.Edits.{swap_is}
use Rattle.rules.specs.Sizes.{most_rows}
use Rattle.elimination.specs.Lists.{exchanged}
use Rattle.elimination.proofs.swap_rows.Goals as goal

pub returns : goal.returns
unfolding most_rows
returns c =
    let a = c.args.a.now in
    let i_in : c.args.i < length a = omega arith in
    let k_in : c.args.k < length a = omega arith in
    λ j. ap (λ b. get_or b j []) (c.swap.ensures.after ∙ sym (swap_is a c.args.i c.args.k [] i_in k_in)) ∙ exchanged [] a c.args.i c.args.k i_in k_in j
