use Rattle.std.proofs.Common.{w32, to_z, of_z}
use Rattle.std.proofs.lemmas.Int.{ints}
use Rattle.std.proofs.Common.{get_or}
use mathlib.Core.Path.{◌≡◌, sym, ap, ◌∙◌}
use native.Mathlib.Omega.{arith}
use borrow.Author.Rules.{rules}
use Rattle.rules.specs.Sizes.{most_length}
use Rattle.layout.specs.Flat.{cell, cell_at, cell_past}
use Rattle.matrix.specs.Leading.{at_converted, at_unconverted}
use Rattle.matrix.proofs.leading.entry_at.Goals as goal

pub returns-in-Ok : goal.returns-in-Ok
unfolding most_length
returns-in-Ok c =
    let back : to_z w32 (of_z w32 c.args.power) ≡ c.args.power = search rules in
    ap (λ k. get_or c.args.basis.now.entries k 0) c.entry_place.ensures
    ∙ sym (at_converted c.args.power c.in-Ok.k (cell c.args.basis.now.entries c.args.i c.args.j) (rw back at c.in-Ok.ensures)
    ∙ cell_at c.args.basis.now.entries c.args.i c.args.j c.in-Ok.k (omega arith))

pub returns-in_default : goal.returns-in_default
unfolding most_length
returns-in_default c =
    let back : to_z w32 (of_z w32 c.args.power) ≡ c.args.power = search rules in
    sym (at_converted c.args.power c.in-Ok.k (cell c.args.basis.now.entries c.args.i c.args.j) (rw back at c.in-Ok.ensures)
    ∙ cell_past c.args.basis.now.entries c.args.i c.args.j c.in-Ok.k (omega arith))

pub returns-in_default-2 : goal.returns-in_default-2
returns-in_default-2 c =
    let back : to_z w32 (of_z w32 c.args.power) ≡ c.args.power = search rules in
    sym (at_unconverted c.args.power (cell c.args.basis.now.entries c.args.i c.args.j) (omega (arith, ints)) (rw back at c.in_default.ensures))
