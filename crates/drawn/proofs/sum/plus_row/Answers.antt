use Rattle.std.proofs.Common.{◌≡◌, arith, get_or, length, sym, ap, ◌+◌, ◌*◌, ◌∙◌}
use Rattle.algebra.specs.Residue.{K, red, red_value}
use Rattle.drawn.specs.Sums.{plus_row, plus_row_none, plus_row_more}
use Rattle.drawn.proofs.sum.plus_row.Goals as goal

pub loop-i-init : goal.loop-i-init
loop-i-init c =
    let a = c.args in
    record { fits = c.requires.p_nonzero.1.1; value = plus_row_none a.p a.start a.row.now a.numbers.now a.at a.stride }

pub loop-i-preserved : goal.loop-i-preserved
loop-i-preserved c =
    let a = c.args in
    let l = c.loop-i in
    let x = red a.p (get_or a.row.now l.i 0) in
    let y = red a.p (get_or a.numbers.now (a.at + l.i * a.stride) 0) in
    record {
      fits = c.add_product-sum.ensures.fits;
      value =
          c.add_product-sum.ensures.value
          ∙ ap (λ s. (K a.p).◌⊕◌ s ((K a.p).◌⊗◌ x y)) l.invariant.value
          ∙ plus_row_more a.p l.i a.start a.row.now a.numbers.now a.at a.stride;
    }

pub returns : goal.returns
returns c =
    let a = c.args in
    let l = c.loop-i in
    let ended : l.i ≡ length a.row.now = omega arith in
    c.residue.ensures
    ∙ sym (red_value a.p c.requires.p_nonzero.0 l.sum)
    ∙ ap (λ x. x.0) l.invariant.value
    ∙ ap (λ n. (plus_row a.p n a.start a.row.now a.numbers.now a.at a.stride).0) ended
