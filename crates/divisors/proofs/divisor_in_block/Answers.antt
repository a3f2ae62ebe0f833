-- Where no number of the block can divide p, whose halves these are, none does.
use Rattle.std.proofs.Common.{◌+◌, subst, arith}
use native.Mathlib.Nat.{div-add-mod}
use Rattle.divisors.specs.Found.{block, found_none}
use Rattle.divisors.specs.Table.{Clear, none_open}
use Rattle.divisors.proofs.divisor_in_block.Goals as goal

pub returns-then-hits-eq0 : goal.returns-then-hits-eq0
returns-then-hits-eq0 c = found_none (λ i h. clear.none i h.start h.end h.divides)
  where
    clear : Clear c.args.primes.now c.args.from (c.args.from + block) c.args.p
    clear =
        subst (λ y. Clear c.args.primes.now c.args.from (c.args.from + block) y) (div-add-mod c.args.p 65536)
        (none_open c.requires.table _ _ _ _ block _ (omega arith) (omega arith) c.requires.block_in_bounds (omega arith) c.hits.ensures c.if-hits-eq0.true)
