use Rattle.std.proofs.Common.{◌+◌, ◌*◌, ◌-◌, ◌^◌, ◌<◌, get_or, length, zero-add, sym, ap, ap₂, subst, ◌∙◌}
use Rattle.rules.specs.Conditions.{sum_below}
use Rattle.layout.specs.Words.{product_small}
use Rattle.product.specs.Total.{grown_none, grown_more}
use Rattle.product.specs.Product.{dot, dot_more}
use Rattle.product.proofs.coefficient.add_products.Goals as goal

pub loop-t-init : goal.loop-t-init
unfolding dot sum_below
loop-t-init c = grown_none _ _

-- The product of a turn, of two numbers of 31 bits.
small : (c : goal.After-from-in-loop-t) → c.from.result * c.from-in-loop-t.result < 2 ^ 62
small c =
    product_small {x = c.from.result} {y = c.from-in-loop-t.result}
    (subst (λ n. n < 2 ^ 31) (sym c.from.ensures) (c.requires.each.0 c.loop-t.t))
    (subst (λ n. n < 2 ^ 31) (sym c.from-in-loop-t.ensures) (c.requires.each.1 (length c.args.down.now - 1 - c.loop-t.t)))

pub loop-t-preserved : goal.loop-t-preserved
loop-t-preserved c =
    grown_more (c.from.result * c.from-in-loop-t.result) c.loop-t.invariant (small c)
    (dot_more c.args.up.now c.args.down.now 0 (length c.args.down.now - 1) c.loop-t.t
    ∙ ap (λ n. dot c.args.up.now c.args.down.now 0 (length c.args.down.now - 1) c.loop-t.t + n)
    (ap₂ ◌*◌ (ap (λ k. get_or c.args.up.now k 0) (zero-add c.loop-t.t) ∙ sym c.from.ensures) (sym c.from-in-loop-t.ensures)))
