-- Each part of the table passes its two tests, which are computed over all of it, and each that has been passed leaves no prime of its range.
use mathlib.Core.Path.{refl}
use native.Mathlib.Omega.{arith}
use Rattle.std.proofs.Common.{lit<, lit≤}
use Rattle.primality.specs.Laws.{below_four, test_of_other, test_of_range, test_of_rest}
use Rattle.primality.specs.Listed.{rows, divisors, composite, composites, gap, covers, part_of_tests}
use Rattle.primality.specs.Sifted.{divided, range_both, sifted_of_odd}
use Rattle.primality.proofs.is_prime.Goals as goal

pub returns-then-p-lt4 : goal.returns-then-p-lt4
returns-then-p-lt4 c = below_four _ (omega arith)

pub returns-then-p-eq0 : goal.returns-then-p-eq0
returns-then-p-eq0 c = test_of_other _ (divided _ 2 (omega arith) (omega arith) c.if-p-eq0.true)

pub returns-then-p-lt-SMALL : goal.returns-then-p-lt-SMALL
returns-then-p-lt-SMALL c = test_of_rest 3 _ _ (omega arith) (omega arith) (λ d prime lo hi. absurd (omega arith))
    (sifted_of_odd 3 _ _ (omega arith) c.odd_divisor.ensures)

pub divides-requires : goal.divides-requires
unfolding rows divisors composite composites gap covers
divides-requires c = (lit< tt, (part_of_tests 3 317 _ _ (lit≤ tt) refl tt refl tt, omega arith))

pub returns-then-divides : goal.returns-then-divides
returns-then-divides c = test_of_other _ (c.divides.ensures.found c.if-divides.true)

pub returns-then-p : goal.returns-then-p
returns-then-p c = test_of_range 317 _ (omega arith) (omega arith) (omega arith) (c.divides.ensures.none c.if-divides.false)

pub divides-requires-2 : goal.divides-requires-2
unfolding rows divisors composite composites gap covers
divides-requires-2 c = (lit< tt, (part_of_tests 317 3181 _ _ (lit≤ tt) refl tt refl tt, omega arith))

pub returns-then-divides-2 : goal.returns-then-divides-2
returns-then-divides-2 c = test_of_other _ (c.divides-2.ensures.found c.if-divides-2.true)

pub returns-then-p-2 : goal.returns-then-p-2
returns-then-p-2 c = test_of_range 3181 _ (omega arith) (omega arith) (omega arith)
    (range_both (c.divides.ensures.none c.if-divides.false) (c.divides-2.ensures.none c.if-divides-2.false))

pub divides-requires-3 : goal.divides-requires-3
unfolding rows divisors composite composites gap covers
divides-requires-3 c = (lit< tt, (part_of_tests 3181 14767 _ _ (lit≤ tt) refl tt refl tt, omega arith))

pub returns-then-divides-3 : goal.returns-then-divides-3
returns-then-divides-3 c = test_of_other _ (c.divides-3.ensures.found c.if-divides-3.true)

pub returns-then-p-3 : goal.returns-then-p-3
returns-then-p-3 c = test_of_range 14767 _ (omega arith) (omega arith) (omega arith)
    (range_both (range_both (c.divides.ensures.none c.if-divides.false) (c.divides-2.ensures.none c.if-divides-2.false))
    (c.divides-3.ensures.none c.if-divides-3.false))

pub divides-requires-4 : goal.divides-requires-4
unfolding rows divisors composite composites gap covers
divides-requires-4 c = (lit< tt, (part_of_tests 14767 46457 _ _ (lit≤ tt) refl tt refl tt, omega arith))

pub returns-then-divides-4 : goal.returns-then-divides-4
returns-then-divides-4 c = test_of_other _ (c.divides-4.ensures.found c.if-divides-4.true)

pub returns : goal.returns
returns c = test_of_rest 46457 _ _ (omega arith) (omega arith)
    (range_both
    (range_both (range_both (c.divides.ensures.none c.if-divides.false) (c.divides-2.ensures.none c.if-divides-2.false))
    (c.divides-3.ensures.none c.if-divides-3.false))
    (c.divides-4.ensures.none c.if-divides-4.false))
    (sifted_of_odd 46457 _ _ (omega arith) c.odd_divisor-2.ensures)
