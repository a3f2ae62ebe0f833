use native.Mathlib.Omega.{arith}
use Rattle.rules.specs.Sizes.{most_rows, most_length}
use Rattle.polynomial.specs.Coefficients.{most_power}
use Rattle.convolution.specs.Padded.{capacity, Filled, Remainder, filled_none, filled_more}
use mathlib.Core.Path.{ap, subst, sym}
use Prim.Native.Nat.{◌%◌}
use lib.ListN.{get_or}
use Rattle.convolution.proofs.residues.Goals as goal

pub loop-k-init : goal.loop-k-init
loop-k-init c =
    let a = c.args in
    let e = c.no_coefficients-l.ensures in
    let remainders = Remainder a.p a.sums.now in
    (omega arith, subst (Filled 0 remainders) (sym e) (filled_none remainders))

pub loop-k-preserved : goal.loop-k-preserved
unfolding capacity most_power most_rows most_length
loop-k-preserved c =
    let sums = c.args.sums.now in
    let x = get_or sums c.loop-k.k 0 % c.from.result in
    (omega arith, filled_more (Remainder c.args.p sums) x (omega arith) (ap (λ q. get_or sums c.loop-k.k 0 % q) c.from.ensures) c.loop-k.invariant.1)

pub returns : goal.returns
returns c =
    let a = c.args in
    let at-loop = c.loop-k in
    subst (λ n. Filled n (Remainder a.p a.sums.now) at-loop.l) (omega arith) at-loop.invariant.1
