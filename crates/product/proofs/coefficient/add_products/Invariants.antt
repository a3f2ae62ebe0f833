use Rattle.std.proofs.Common.{◌-◌, length}
use Rattle.product.specs.Total.{Grown}
use Rattle.product.specs.Product.{dot}
use Rattle.product.proofs.coefficient.add_products.Given as goal

abbrev pub invariant-loop-t : goal.invariant-loop-t
invariant-loop-t l = Grown l.t l.initial.high l.initial.low (dot l.up l.down 0 (length l.down - 1) l.t) l.high l.low
