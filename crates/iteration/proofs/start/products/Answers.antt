use Rattle.std.proofs.Common.{◌≡◌, refl, subst, arith}
use Rattle.rules.specs.Sizes.{most_rows, most_length}
use Rattle.rules.specs.Table.{table}
use Rattle.layout.specs.Flat.{entry_coefficients}
use Rattle.pivots.specs.Rows.{zeros_at}
use Rattle.iteration.specs.Begin.{Copying, copying_start, copied_all}
use Rattle.iteration.proofs.start.products.Goals as goal

pub loop-place-init : goal.loop-place-init
unfolding most_rows most_length table
loop-place-init c = copying_start _ _ refl (zeros_at entry_coefficients)

pub returns : goal.returns
unfolding most_rows most_length
returns c =
    let l = c.loop-place in
    let f = c.args.f.now in
    let end : l.place ≡ entry_coefficients = omega arith in
    copied_all f l.number-items (subst (λ n. Copying f n l.number-items) end l.invariant)
