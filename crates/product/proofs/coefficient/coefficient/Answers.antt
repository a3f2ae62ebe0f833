use Rattle.std.proofs.Common.{◌+◌, ◌*◌, ◌%◌, sym, ap, ◌∙◌, arith}
use Rattle.algebra.specs.Residue.{red_value}
use Rattle.rules.specs.Sizes.{largest_prime}
use Rattle.field.specs.Modulus.{cut, made_of}
use Rattle.product.specs.Total.{below_small}
use Rattle.product.specs.Product.{product_number, product_residue}
use Rattle.product.proofs.coefficient.coefficient.Goals as goal

pub entry_total-total-requires-clause-each : goal.entry_total-total-requires-clause-each
entry_total-total-requires-clause-each c =
    let h = c.requires.factors in (
      below_small c.args.problem.now.head.p c.args.basis.now.entries h.modulus_most h.entry_below,
      (below_small c.args.problem.now.head.p c.args.problem.now.f h.modulus_most h.column_below, h.padded),
    )

pub residue-requires-clause-made : goal.residue-requires-clause-made
unfolding largest_prime
residue-requires-clause-made c = let h = c.requires.factors in made_of h.modulus_positive (omega (arith, h.modulus_most)) c.requires.modulus_value

pub returns : goal.returns
returns c =
    let b = c.args.problem.now in
    let sum = product_number c.args.basis.now.entries b.f b.head.m c.args.i c.args.j c.args.k in
    c.residue.ensures
    ∙ ap (λ μ. (c.entry_total-total.result.high * cut + c.entry_total-total.result.low) % μ.p) c.requires.modulus_value
    ∙ ap (λ n. n % b.head.p) c.entry_total-total.ensures.total
    ∙ sym (red_value b.head.p c.requires.factors.modulus_positive sum)
    ∙ ap (λ x. x.0) (product_residue b.head.p c.args.basis.now.entries b.f b.head.m c.args.i c.args.j c.args.k)
