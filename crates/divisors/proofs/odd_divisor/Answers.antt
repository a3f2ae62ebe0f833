-- The odd numbers below d, from the first one on, do not divide p, nor does d.
use native.Mathlib.Omega.{arith}
use native.Mathlib.Nat.{mod-eq-zero_of_dvd}
use native.Mathlib.Decide.{ℕ_discrete}
use mathlib.Core.Logic.{by_cases}
use mathlib.Core.Path.{◌≡◌}
use Prim.Native.Nat.{ℕ, ◌+◌, ◌%◌}
use Rattle.divisors.proofs.odd_divisor.Invariants.{Tried}
use Rattle.divisors.proofs.odd_divisor.Goals as goal

turned : {from p d : ℕ} → ¬ (p % d ≡ 0) → Tried from p d → Tried from p (d + 2)
turned {from} {p} {d} left h = record {
  reached = omega (arith, h.reached);
  three = omega (arith, h.three);
  odd = omega (arith, h.odd);
  clear = λ k lo odd hi divides. by_cases (ℕ_discrete k d) (λ e. left (mod-eq-zero_of_dvd d (rw e at divides)))
      (λ ne. h.clear k lo odd (omega (arith, h.odd)) divides);
}

pub loop-p-preserved : goal.loop-p-preserved
loop-p-preserved c = turned c.if-p-d-eq0.false c.loop-p.invariant
