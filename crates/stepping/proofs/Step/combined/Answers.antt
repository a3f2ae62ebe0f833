use Rattle.std.proofs.Common.{◌≡◌, refl, sym, ap, ap₂, subst, ◌∙◌, ◌+◌, ◌*◌, ◌%◌, ◌≤◌, ◌<◌, get_or, mod-lt, arith}
use Rattle.rules.specs.Sizes.{most_rows}
use Rattle.rules.specs.Conditions.{sum_below}
use Rattle.laws.specs.SumLaws.{sum_below_last}
use Rattle.stepping.specs.Next.{term, most_product, term_most, combined_sum}
use Rattle.stepping.proofs.Step.combined.Goals as goal

-- The product of a turn is the next term of the combination, and not too large.
product_is : (c : goal.After-from-coefficient)
    → let s = c.args.self.now in
    c.from-factor.result * c.from-coefficient.result ≡ term s.old.now s.choice.now.factors c.args.i c.args.j c.args.t c.loop-q.q
product_is c =
    let s = c.args.self.now in
    ap₂ ◌*◌
    (c.from-factor.ensures ∙ ap (λ k. get_or s.choice.now.factors k 0) c.square_place.ensures)
    (c.from-coefficient.ensures ∙ ap (λ k. get_or s.old.now k 0) c.entry_place.ensures)

product_most : (c : goal.After-from-coefficient) → c.from-factor.result * c.from-coefficient.result ≤ most_product
product_most c =
    let a = c.args in
    let s = a.self.now in
    subst (λ x. x ≤ most_product) (sym (product_is c)) (term_most s.p s.old.now s.choice.now.factors c.requires.rows a.i a.j a.t c.loop-q.q)

pub loop-q-init : goal.loop-q-init
unfolding sum_below
loop-q-init c = record { small = omega arith; is = refl }

pub overflow_add-sum : goal.overflow_add-sum
unfolding most_rows
overflow_add-sum c = omega (arith, product_most c)

pub loop-q-preserved : goal.loop-q-preserved
loop-q-preserved c =
    let a = c.args in
    let l = c.loop-q in
    let s = a.self.now in
    record {
      small = omega (arith, product_most c);
      is = ap₂ ◌+◌ l.invariant.is (product_is c) ∙ sym (sum_below_last l.q (term s.old.now s.choice.now.factors a.i a.j a.t));
    }

pub nonzero_rem-result : goal.nonzero_rem-result
nonzero_rem-result c = omega (arith, c.requires.rows.old_below 0)

pub overflow_cast-result : goal.overflow_cast-result
overflow_cast-result c =
    let positive : 0 < c.from.result = omega (arith, c.requires.rows.old_below 0) in
    omega (arith, mod-lt c.loop-q.sum positive)

pub returns : goal.returns
returns c =
    let a = c.args in
    let l = c.loop-q in
    let s = a.self.now in
    let end : l.q ≡ s.m = omega arith in
    combined_sum s.p s.m s.old.now s.choice.now.factors a.i a.j a.t l.sum _ (omega (arith, c.requires.rows.old_below 0))
    (subst (λ q. l.sum ≡ sum_below q (term s.old.now s.choice.now.factors a.i a.j a.t)) end l.invariant.is)
    (ap (λ p. l.sum % p) c.from.ensures)
