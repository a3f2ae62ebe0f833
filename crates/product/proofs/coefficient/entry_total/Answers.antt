use Rattle.std.proofs.Common.{◌≡◌, ◌+◌, refl, sym, ap, ap₂, ◌∙◌, lt_of_lt_of_le, arith}
use Rattle.std.proofs.Math.Nat.{mul-le-mul_right}
use Rattle.rules.specs.Conditions.{sum_below}
use Rattle.rules.specs.Sizes.{most_length}
use Rattle.laws.specs.SumLaws.{sum_below_last}
use Rattle.product.specs.Total.{summed_more, within_more}
use Rattle.product.specs.Product.{pair_number, product_number, convolved, each_part, pair_convolved}
use Rattle.product.proofs.coefficient.entry_total.Goals as goal

pub loop-l-init : goal.loop-l-init
unfolding sum_below
loop-l-init c = record { total = refl; within = record { high_most = omega arith; low_most = omega arith } }

pub add_pair-total-requires-clause-each : goal.add_pair-total-requires-clause-each
add_pair-total-requires-clause-each c = (
  rw c.entry.ensures.value (each_part _ c.args.basis.now.entries _ _ c.requires.each.0),
  rw c.column.ensures.value (each_part _ c.args.problem.now.f _ _ c.requires.each.1.0),
)

pub loop-l-preserved : goal.loop-l-preserved
unfolding most_length
loop-l-preserved c =
    let entries = c.args.basis.now.entries in
    let f = c.args.problem.now.f in
    let pair = pair_number entries f c.args.i c.args.j c.args.k in
    let (rows, (i_bound, (j_bound, k_bound))) = c.requires.m_le_most_rows in
    summed_more c.loop-l.invariant c.add_pair-total.ensures (omega arith)
    (sum_below_last c.loop-l.l pair
    ∙ ap (λ n. sum_below c.loop-l.l pair + n)
    (pair_convolved entries c.args.basis.now.lengths f c.requires.each.1.1 c.args.i c.args.j c.args.k c.loop-l.l i_bound
    (lt_of_lt_of_le c.loop-l-test.true rows)
    ∙ sym (ap₂ (λ p f. convolved p f c.args.k) c.entry.ensures.value c.column.ensures.value)))

pub returns : goal.returns
unfolding product_number
returns c =
    let all : c.loop-l.l ≡ c.args.problem.now.head.m = omega arith in
    let total =
    c.loop-l.invariant.total
    ∙ ap (λ n. sum_below n (pair_number c.args.basis.now.entries c.args.problem.now.f c.args.i c.args.j c.args.k)) all in
    record { total = total; within = within_more c.loop-l.invariant.within (mul-le-mul_right most_length (omega (arith, c.requires.m_le_most_rows.0))) }
