-- `field::inverse_by_remainders` meets its contract. The loop's invariant: r is between 0 and p, and a · c = r modulo p, so that c is the
-- inverse of a once r is 1. The measure is r, which falls to p % r and does not come to 0, since p is prime. Assumes nothing.
use mathlib.Core.Path.{◌≡◌, ap, ◌∙◌}
use Prim.Native.Nat.{ℕ, ◌-◌, ◌*◌, ◌/◌, ◌%◌, ◌≤◌, ◌<◌}
use native.Mathlib.Nat.{mod-lt, le_of_lt}
use native.Mathlib.Omega.{arith}
use Rattle.algebra.specs.Prime.{Prime, prime_mod_pos}
use Rattle.algebra.specs.Residue.{K, red, red_mul_one_iff, inverse_step}
use Rattle.rules.specs.Inverse.{InverseOf}
use Rattle.field.specs.Laws.{remainder_below, red_of_mul, red_of_neg}
use Rattle.field.proofs.inverse_by_remainders.Invariants.{Reached}
use Rattle.field.proofs.inverse_by_remainders.Goals as goal

started : (a p : ℕ) → 0 < a → a < p → Reached a p a 1
started a p lo hi = record { positive = lo; below = hi; small = omega arith; product = (K p).mul_one (red p a) }

-- One turn, with t and n what `mul_mod` and `neg_mod` give.
turned : {a p r c : ℕ} (t n : ℕ) → Prime p → 1 < r → Reached a p r c → t ≡ p / r * c % p → n ≡ (p - t) % p → Reached a p (p % r) n
turned {a} {p} {r} {c} t n prime more h et en = record {
  positive = prime_mod_pos prime r more h.below;
  below = omega (arith, mod-lt p h.positive);
  small = remainder_below p (p - t) n (omega arith) en;
  product = ap (λ x. (K p).◌⊗◌ (red p a) x) (red_of_neg p t n (le_of_lt (remainder_below p (p / r * c) t (omega arith) et)) en ∙ ap (K p).⊖◌ (red_of_mul p (p / r) c t et)) ∙ inverse_step p r (red p a) (red p c) h.product;
}

ended : {a p r c : ℕ} → Prime p → r ≤ 1 → Reached a p r c → InverseOf p a c
ended {a} {p} {r} {c} prime last h =
    let one : r ≡ 1 = omega arith in
    record { below = h.small; one = (red_mul_one_iff p prime.two_le a c).0 (h.product ∙ ap (red p) one) }

pub loop-r-init : goal.loop-r-init
loop-r-init c = started _ _ c.requires.a_nonzero c.requires.a_lt_p

pub loop-r-preserved : goal.loop-r-preserved
loop-r-preserved c = turned _ _ c.requires.prime (omega arith) c.loop-r.invariant c.mul_mod.ensures c.neg_mod-c.ensures

pub returns : goal.returns
returns c = ended c.requires.prime (omega arith) c.loop-r.invariant
