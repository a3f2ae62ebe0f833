use native.Mathlib.Omega.{arith}
use Rattle.rules.specs.Sizes.{most_rows, most_length}
use Rattle.polynomial.specs.Coefficients.{most_power}
use Rattle.convolution.specs.Padded.{capacity, Filled, filled_more}
use mathlib.Core.Path.{subst}
use lib.ListN.{get_or}
use Rattle.determinant.specs.Sign.{Signed, SignedCell, signed_cell, signed_entry}
use Rattle.determinant.proofs.signed_entry.Goals as goal

pub loop-k-preserved : goal.loop-k-preserved
unfolding capacity most_power most_rows most_length
loop-k-preserved c =
    let at-loop = c.loop-k in
    let a = c.args in
    let x = c.with_sign.result in
    let place = subst (λ n. Signed a.p a.j (get_or a.basis.now.entries n 0) x) c.entry_place.ensures c.with_sign.ensures in (
      omega arith,
      filled_more (SignedCell a.p a.row a.column a.j a.basis.now.entries) x (omega arith)
          (signed_cell a.p a.row a.column a.j a.basis.now.entries (omega arith) place) at-loop.invariant.1,
    )

pub returns : goal.returns
returns c =
    let a = c.args in
    let at-loop = c.loop-k in
    signed_entry a.p a.row a.column a.count a.j a.basis.now.entries at-loop.l (omega (arith, c.requires.each 0))
    (subst (λ n. Filled n (SignedCell a.p a.row a.column a.j a.basis.now.entries) at-loop.l) (omega arith) at-loop.invariant.1)
