use Rattle.std.proofs.Common.{◌-◌, ◌≡◌, ◌∙◌, ap, arith, get_or, length-set}
use Rattle.algebra.specs.Sum.{skip, skip_below}
use Rattle.rules.specs.Sizes.{most_rows}
use Rattle.convolution.specs.Front.{front_more}
use Rattle.determinant.proofs.without.Goals as goal

pub offset_bounds-columns-other : goal.offset_bounds-columns-other
unfolding most_rows
offset_bounds-columns-other c = omega (arith, c.other.ensures, skip_below (most_rows - 1) c.args.j c.loop-k.k (omega arith))

pub bounds-columns-other : goal.bounds-columns-other
unfolding most_rows
bounds-columns-other c = omega (arith, c.other.ensures, skip_below (most_rows - 1) c.args.j c.loop-k.k (omega arith))

pub loop-k-preserved : goal.loop-k-preserved
unfolding most_rows
loop-k-preserved c =
    let a = c.args in
    let l = c.loop-k in
    let x = get_or a.columns.now c.other.result 0 in
    let same = ap (λ i. get_or a.columns.now i 0) c.other.ensures in (
      omega arith,
      (
        length-set l.left l.k x ∙ l.invariant.1.0,
        front_more (λ i y. y ≡ get_or a.columns.now (skip a.j i) 0) l.k l.left x (omega arith) same l.invariant.1.1,
      ),
    )
