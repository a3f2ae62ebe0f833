-- The number at place i does not divide p, as its remainder tells.
use mathlib.Core.Path.{refl, ap, ◌∙◌}
use Prim.Native.Nat.{◌%◌}
use native.Mathlib.Nat.{mod-eq-zero_of_dvd}
use Rattle.divisors.specs.Table.{clear_more}
use Rattle.divisors.proofs.divisor_by_division.Goals as goal

pub loop-i-preserved : goal.loop-i-preserved
loop-i-preserved c =
    clear_more refl (λ h. c.if-p-from-eq0.false (ap (λ x. c.args.p % x) c.from.ensures ∙ mod-eq-zero_of_dvd _ h)) c.loop-i.invariant
