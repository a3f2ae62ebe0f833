-- The two loops over F: the one that counts the numbers from a limit on, and the one that puts the bits of numbers together.
--   Counted f from limit over x      `over` of the numbers from one place to another are not below the limit
--   counted_none, counted_more, counted_all        before the first, after one more, after the last
--   Gathered f from bits x, gathered_none, gathered_more, gathered_all     the same of the loop that puts bits together
use Rattle.std.specs.Prelude.{◌≡◌, Bool, cond, List, ℕ, ◌+◌, ◌≤◌, ◌<◌, ltb, eqb, get_or}
use Rattle.std.proofs.Common.{sym, ap, subst, ◌∙◌, arith, lt-ltb, le-ltb, eqb-true}
use Rattle.std.proofs.Math.Logic.{by_cases}
use Rattle.std.proofs.Math.Decide.{dec_lt, ℕ_discrete}
use Rattle.std.proofs.lemmas.Bool.{eqb-false}
use Rattle.std.specs.Int.Bits.{bit_or, or_add_and}
use Rattle.std.proofs.lemmas.Nat.{and_le_l, and_le_r}
use Rattle.layout.specs.Settles.{Settles}
use Rattle.prepared.specs.Canonical.{Below}

pub record Counted (f : List ℕ) (from limit over x : ℕ) : Type 0 where
  pub few : over + from ≤ x
  pub none : over ≡ 0 → Below f from x limit
  pub all : Below f from x limit → over ≡ 0

pub counted_none : (f : List ℕ) (from limit : ℕ) → Counted f from limit 0 from
counted_none f from limit = record { few = omega arith; none = λ e x lo hi. absurd (omega arith); all = λ h. omega arith }

pub counted_more : (f : List ℕ) (from limit over x one : ℕ) → one ≡ cond (ltb (get_or f x 0) limit) 0 1 → Counted f from limit over x
    → Counted f from limit (over + one) (x + 1)
counted_more f from limit over x one e c = by_cases (dec_lt (get_or f x 0) limit)
    (λ h.
    let z : one ≡ 0 = e ∙ ap (λ (b : Bool). cond {A = ℕ} b 0 1) (lt-ltb (get_or f x 0) limit h) in
    record {
      few = omega (arith, c.few);
      none = λ e' y lo hi. by_cases (ℕ_discrete y x)
          (λ same. subst (λ k. get_or f k 0 < limit) (sym same) h)
          (λ other. c.none (omega arith) y lo (omega arith));
      all = λ below. omega (arith, c.all (λ y lo hi. below y lo (omega arith)));
    })
    (λ h.
    let z : one ≡ 1 = e ∙ ap (λ (b : Bool). cond {A = ℕ} b 0 1) (le-ltb (get_or f x 0) limit (omega arith)) in
    record {
      few = omega (arith, c.few);
      none = λ e'. absurd (omega arith);
      all = λ below. absurd (h (below x (omega (arith, c.few)) (omega arith)));
    })

pub counted_all : (f : List ℕ) (from limit over x : ℕ) → Counted f from limit over x → Settles (Below f from x limit) (eqb over 0)
counted_all f from limit over x c = record { holds = λ e. c.none (eqb-true over 0 e); fails = λ e h. eqb-false over 0 e (c.all h) }

-- The loop that puts the bits of numbers together.
pub record Gathered (f : List ℕ) (from bits x : ℕ) : Type 0 where
  pub none : bits ≡ 0 → Below f from x 1
  pub all : Below f from x 1 → bits ≡ 0

-- No bit is in two numbers together if none is in either.
or_zero : (a b : ℕ) → bit_or a b ≡ 0 → (a ≡ 0) × (b ≡ 0)
or_zero a b e = (omega (arith, or_add_and a b, and_le_r a b), omega (arith, or_add_and a b, and_le_l a b))

pub gathered_none : (f : List ℕ) (from : ℕ) → Gathered f from 0 from
gathered_none f from = record { none = λ e x lo hi. absurd (omega arith); all = λ h. omega arith }

pub gathered_more : (f : List ℕ) (from bits x : ℕ) → from ≤ x → Gathered f from bits x → Gathered f from (bit_or bits (get_or f x 0)) (x + 1)
gathered_more f from bits x le g = record {
  none = λ e y lo hi. by_cases (ℕ_discrete y x)
      (λ same. omega (arith, ap (λ k. get_or f k 0) same, (or_zero bits (get_or f x 0) e).1))
      (λ other. g.none (or_zero bits (get_or f x 0) e).0 y lo (omega arith));
  all = λ below.
      let first : bits ≡ 0 = g.all (λ y lo hi. below y lo (omega arith)) in
      let last : get_or f x 0 ≡ 0 = let z = below x le (omega arith) in omega arith in
      ap (λ b. bit_or b (get_or f x 0)) first ∙ last;
}

pub gathered_all : (f : List ℕ) (from bits x : ℕ) → Gathered f from bits x → Settles (Below f from x 1) (eqb bits 0)
gathered_all f from bits x g = record { holds = λ e. g.none (eqb-true bits 0 e); fails = λ e h. eqb-false bits 0 e (g.all h) }
