use Rattle.std.proofs.Common.{arith, rules, sym, ap, ap₂, ◌∙◌, ℕ, ℤ}
use Rattle.std.specs.Prelude.{Option}
use Rattle.rules.specs.Conditions.{larger, largest, row_degree_of}
use Rattle.degrees.specs.From.{from_zero}
use Rattle.degrees.specs.Degrees.{entry_term, largest_from, largest_from_end, largest_from_step}
use Rattle.degrees.proofs.Larger.{max_larger}
use Rattle.degrees.proofs.row_degree.Goals as goal

pub loop-j-init : goal.loop-j-init
loop-j-init c = (search rules, sym (largest_from_end (entry_term c.args.basis.now.lengths c.args.head.now.shifts c.args.i) c.args.head.now.m))

pub loop-j-preserved : goal.loop-j-preserved
loop-j-preserved c = (
  search rules,
  c.max-most.ensures
      ∙ max_larger c.term.result c.loop-j.most
      ∙ ap₂ larger c.term.ensures c.loop-j.invariant.1
      ∙ largest_from_step (entry_term c.args.basis.now.lengths c.args.head.now.shifts c.args.i) c.args.head.now.m c.loop-j.j (omega arith)
      (omega arith),
)

pub returns : goal.returns
unfolding row_degree_of
returns c =
    let f : ℕ → Option ℤ = entry_term c.args.basis.now.lengths c.args.head.now.shifts c.args.i in
    c.loop-j.invariant.1 ∙ ap (largest_from f c.args.head.now.m) (omega arith) ∙ from_zero largest f c.args.head.now.m
