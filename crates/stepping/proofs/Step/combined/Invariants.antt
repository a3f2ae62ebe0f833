use Rattle.std.proofs.Common.{◌≡◌, ◌*◌, ◌≤◌}
use Rattle.rules.specs.Conditions.{sum_below}
use Rattle.stepping.specs.Next.{term, most_product}
use Rattle.stepping.proofs.Step.combined.Given as goal

-- The sum of the first products, none of which is too large.
abbrev pub invariant-loop-q : goal.invariant-loop-q
invariant-loop-q l =
    record { small : l.sum ≤ l.q * most_product; is : l.sum ≡ sum_below l.q (term l.self.old.now l.self.choice.now.factors l.i l.j l.t) }
