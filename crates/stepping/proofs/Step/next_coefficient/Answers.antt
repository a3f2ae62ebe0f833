use Rattle.std.proofs.Common.{rules, ◌≡◌, ◌-◌, sym, ap, eq-eqb, arith}
use Rattle.std.specs.Prelude.{cond}
use Rattle.stepping.specs.Next.{coefficient_at}
use Rattle.stepping.proofs.Step.next_coefficient.Goals as goal

pub returns-in-None : goal.returns-in-None
returns-in-None c =
    let a = c.args in
    let lowest : a.t ≡ 0 = omega (arith, c.in-None.ensures) in
    record {
      below = omega (arith, c.requires.rows.old_below 0);
      combined = λ h. absurd (c.requires.moves.0 (search rules) h);
      shifted = λ h. sym (ap (λ t. cond t 0 (coefficient_at a.self.now.old.now a.i a.j (a.t - 1))) (eq-eqb a.t 0 lowest));
    }
