use mathlib.Core.Path.{◌≡◌}
use Prim.Native.Nat.{ℕ, ◌<◌}
use Rattle.algebra.specs.Residue.{K, red}
use Rattle.field.proofs.inverse_by_remainders.Given as goal

pub record Reached (a p r c : ℕ) : Type 0 where
  pub positive : 0 < r
  pub below : r < p
  pub small : c < p
  pub product : (K p).◌⊗◌ (red p a) (red p c) ≡ red p r

abbrev pub invariant-loop-r : goal.invariant-loop-r
invariant-loop-r l = Reached l.a l.p l.r l.c

abbrev pub decreases-loop-r : goal.decreases-loop-r
decreases-loop-r l = l.r
