use native.Mathlib.Omega.{arith}
use mathlib.Core.Path.{◌≡◌, subst}
use Rattle.determinant.specs.Tops.{TopsFrom, tops_all}
use Rattle.determinant.proofs.row_tops.Goals as goal

pub returns : goal.returns
returns c =
    let b = c.loop-i in
    let a = c.args in
    let end : b.i ≡ 0 = omega arith in
    let from = subst (λ i. TopsFrom i a.m b.sum a.basis.now.lengths b.tops) end b.invariant.1.1 in
    tops_all c.requires.m_le_most_rows from
