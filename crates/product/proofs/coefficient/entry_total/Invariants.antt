use Rattle.std.proofs.Common.{◌*◌}
use Rattle.rules.specs.Conditions.{sum_below}
use Rattle.rules.specs.Sizes.{most_length}
use Rattle.product.specs.Total.{Summed}
use Rattle.product.specs.Product.{pair_number}
use Rattle.product.proofs.coefficient.entry_total.Given as goal

abbrev pub invariant-loop-l : goal.invariant-loop-l
invariant-loop-l l = Summed (l.l * most_length) (sum_below l.l (pair_number l.basis.entries l.problem.f l.i l.j l.k)) l.total.high l.total.low
