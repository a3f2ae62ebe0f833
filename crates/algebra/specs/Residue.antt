-- The numbers modulo p.
--   K p                      the ring of the residues modulo p, each the number below p that stands for it
--   red p a                  the residue of the number a; red_add, red_mul, red_neg, … say that it keeps the operations
--   K_decides, K_discrete    it can be told what is 0, and what is equal
--   K_inverse p              inverses, where p is prime: K_inverts, K_cancels
--   inverse_step             the step by which an inverse is found
--   inverse_unique           inverses are unique, in any ring
-- The ring is there for every p: where p is 0 the modulus is 1, so that K 0 is the ring with one element.
use Rattle.std.specs.Prelude.{◌≡◌, refl, ◌↔◌}
use Rattle.std.proofs.Math.Path.{sym, ap}
use Rattle.std.proofs.Common.{◌∙◌, mod-eq_of_lt, pos_of_ne-zero, le_refl, zero-lt-suc, le_of_lt, add-sub_of_le, sub-add_cancel, arith, lit<, lt→ltb}
use Rattle.std.proofs.Math.Logic.{by_cases, ite, if_pos, if_neg}
use mathlib.Core.HLevel.{Σ_set, prop→set}
use Prim.Native.Nat.{ℕ, zero, suc, pred, ◌+◌, ◌-◌, ◌*◌, ◌/◌, ◌%◌, ◌≤◌, ◌<◌}
use Rattle.std.proofs.Math.Nat as Nat
use Rattle.std.proofs.Math.Nat.{ℕ_set, mod-lt, mod-mod, mod-add-mod, zero-mod, mod_self, add-mul-mod_self_left, mod-add-div', mod-zero, suc-pred-eq_of_pos}
use Rattle.std.proofs.Math.Bridge.{le_prop}
use native.Mathlib.Fin
use Rattle.std.proofs.Math.Decide.{ℕ_discrete, Fin-discrete}
use Rattle.algebra.specs.Ring.{CommRing, Decides, Nontrivial, Inverts, neg_unique, mul_neg, mul_left_comm, one_mul}
use Rattle.algebra.specs.Prime.{Prime, prime_mod_pos, mul_by_mod_div}

-- The residues modulo p: the numbers below p, or below 1 where p is 0.
abbrev pub Residue : ℕ → Type 0
Residue p = (x : ℕ) × (x < suc (pred p))

-- The residue of a number. Its bound is proved from a comparison, so that residues of closed numbers are equal by `refl`.
unfoldable pub red : (p : ℕ) → ℕ → Residue p
red p a =
    let m : ℕ = suc (pred p) in
    (a % m, lit< (lt→ltb (a % m) m (mod-lt a (zero-lt-suc (pred p)))))

-- Residues are equal where the numbers are.
pub residue_ext : (p : ℕ) {x y : Residue p} → x.0 ≡ y.0 → x ≡ y
residue_ext p e = Fin.val_path e

-- Every residue is the residue of its own number.
pub red_onto : (p : ℕ) (x : Residue p) → red p x.0 ≡ x
unfolding red
red_onto p x = residue_ext p (mod-eq_of_lt x.1)

-- Reducing a summand does not change the residue of a sum …
pub red_add_left : (p a b : ℕ) → red p ((red p a).0 + b) ≡ red p (a + b)
unfolding red
red_add_left p a b = residue_ext p (mod-add-mod a (suc (pred p)) b)

-- … on either side …
pub red_add_right : (p a b : ℕ) → red p (a + (red p b).0) ≡ red p (a + b)
red_add_right p a b = ap (red p) (Nat.add_comm a (red p b).0) ∙ red_add_left p b a ∙ ap (red p) (Nat.add_comm b a)

-- … nor does reducing a factor that of a product …
pub red_mul_left : (p a b : ℕ) → red p ((red p a).0 * b) ≡ red p (a * b)
unfolding red
red_mul_left p a b =
    residue_ext p (sym (add-mul-mod_self_left (a % m * b) m (a / m * b)) ∙ ap (λ x. x % m) (rw (Nat.mul_left_comm m (a / m) b) (mul_by_mod_div a m b)))
  where
    m : ℕ
    m = suc (pred p)

-- … on either side.
pub red_mul_right : (p a b : ℕ) → red p (a * (red p b).0) ≡ red p (a * b)
red_mul_right p a b = ap (red p) (Nat.mul_comm a (red p b).0) ∙ red_mul_left p b a ∙ ap (red p) (Nat.mul_comm b a)

-- The residue of the modulus is 0.
pub red_modulus : (p : ℕ) → red p (suc (pred p)) ≡ red p 0
unfolding red
red_modulus p = residue_ext p (mod_self (suc (pred p)) ∙ sym (zero-mod (suc (pred p))))

-- The ring of the residues modulo p.
abbrev pub K : ℕ → CommRing
K p = record {
  C = Residue p;
  is_set = Σ_set ℕ_set (λ x. prop→set le_prop);
  𝟘 = red p 0;
  𝟙 = red p 1;
  ◌⊕◌ = λ x y. red p (x.0 + y.0);
  ◌⊗◌ = λ x y. red p (x.0 * y.0);
  ⊖◌ = λ x. red p (suc (pred p) - x.0);
  add_assoc = λ x y z. red_add_left p (x.0 + y.0) z.0 ∙ ap (red p) (Nat.add_assoc x.0 y.0 z.0) ∙ sym (red_add_right p x.0 (y.0 + z.0));
  add_comm = λ x y. ap (red p) (Nat.add_comm x.0 y.0);
  add_zero = λ x. red_add_right p x.0 0 ∙ ap (red p) (Nat.add-zero x.0) ∙ red_onto p x;
  add_neg = λ x. red_add_right p x.0 (suc (pred p) - x.0) ∙ ap (red p) (add-sub_of_le (le_of_lt x.1)) ∙ red_modulus p;
  mul_assoc = λ x y z. red_mul_left p (x.0 * y.0) z.0 ∙ ap (red p) (Nat.mul_assoc x.0 y.0 z.0) ∙ sym (red_mul_right p x.0 (y.0 * z.0));
  mul_comm = λ x y. ap (red p) (Nat.mul_comm x.0 y.0);
  mul_one = λ x. red_mul_right p x.0 1 ∙ ap (red p) (Nat.mul-one x.0) ∙ red_onto p x;
  mul_add =
      λ x y z. red_mul_right p x.0 (y.0 + z.0)
      ∙ ap (red p) (Nat.mul-add x.0 y.0 z.0)
      ∙ sym (red_add_left p (x.0 * y.0) (red p (x.0 * z.0)).0 ∙ red_add_right p (x.0 * y.0) (x.0 * z.0));
}

-- The residue of p itself is 0.
pub red_self : (p : ℕ) → red p p ≡ (K p).𝟘
red_self zero = refl
red_self (suc q) = red_modulus (suc q)

-- A number and its remainder have the same residue.
pub red_mod : (p a : ℕ) → red p (a % p) ≡ red p a
unfolding red
red_mod zero a = ap (red 0) (mod-zero a)
red_mod (suc q) a = residue_ext (suc q) (mod-mod a (suc q))

-- An element of a ring has one inverse at most.
pub inverse_unique : (R : CommRing) (a b c : R.C) → R.◌⊗◌ a b ≡ R.𝟙 → R.◌⊗◌ a c ≡ R.𝟙 → b ≡ c
inverse_unique R a b c hb hc =
    sym (R.mul_one b)
    ∙ ap (λ x. R.◌⊗◌ b x) (sym hc)
    ∙ mul_left_comm R b a c
    ∙ sym (R.mul_assoc a b c)
    ∙ ap (λ x. R.◌⊗◌ x c) hb
    ∙ one_mul R c

module _ (p : ℕ) where
  open K p use {C, 𝟘, 𝟙, ◌⊕◌, ◌⊗◌, ⊖◌, mul_one}

  infixl 60 ◌⊕◌
  infixl 70 ◌⊗◌
  infix 80 ⊖◌
  -- `red p` takes sums of numbers to sums of residues …
  pub red_add : (a b : ℕ) → red p (a + b) ≡ red p a ⊕ red p b
  red_add a b = sym (red_add_left p a (red p b).0 ∙ red_add_right p a b)

  -- … products to products …
  pub red_mul : (a b : ℕ) → red p (a * b) ≡ red p a ⊗ red p b
  red_mul a b = sym (red_mul_left p a (red p b).0 ∙ red_mul_right p a b)

  -- … 0 to 0 …
  pub red_zero : red p 0 ≡ 𝟘
  red_zero = refl

  -- … and 1 to 1.
  pub red_one : red p 1 ≡ 𝟙
  red_one = refl

  -- The residue of p − a is the negative of that of a.
  pub red_neg : (a : ℕ) → a ≤ p → red p (p - a) ≡ ⊖ red p a
  red_neg a h = neg_unique (K p) (red p (p - a)) (red p a) (sym (red_add (p - a) a) ∙ ap (red p) (sub-add_cancel h) ∙ red_self p)

  -- Where p is not 0, the number of a residue is below p …
  pub residue_below : 0 < p → (x : C) → x.0 < p
  residue_below h x = rw (suc-pred-eq_of_pos h) at x.1

  -- … and is the remainder by p.
  pub red_value : 0 < p → (a : ℕ) → (red p a).0 ≡ a % p
  unfolding red
  red_value h a = ap (λ m. a % m) (suc-pred-eq_of_pos h)

  -- Two numbers have the same residue where they have the same remainder.
  pub red_eq : 0 < p → (a b : ℕ) → (red p a ≡ red p b) ↔ (a % p ≡ b % p)
  red_eq h a b = (λ e. sym (red_value h a) ∙ ap (λ x. x.0) e ∙ red_value h b, λ e. residue_ext p (red_value h a ∙ e ∙ sym (red_value h b)))

  -- The residue is 0 where the remainder is.
  pub red_zero_iff : 0 < p → (a : ℕ) → (red p a ≡ 𝟘) ↔ (a % p ≡ 0)
  red_zero_iff h a = (λ e. (red_eq h a 0).0 e ∙ zero-mod p, λ e. (red_eq h a 0).1 (e ∙ sym (zero-mod p)))

  -- The product of two residues is 1 where that of the numbers leaves 1.
  pub red_mul_one_iff : 2 ≤ p → (a b : ℕ) → (red p a ⊗ red p b ≡ 𝟙) ↔ (a * b % p ≡ 1)
  red_mul_one_iff two a b = (
    λ e. (red_eq (le_of_lt two) (a * b) 1).0 (red_mul a b ∙ e) ∙ mod-eq_of_lt two,
    λ e. sym (red_mul a b) ∙ (red_eq (le_of_lt two) (a * b) 1).1 (e ∙ sym (mod-eq_of_lt two)),
  )

  -- It can be told whether two residues are equal.
  unfoldable pub K_discrete : Discrete C
  unfolding Fin-discrete
  K_discrete = Fin-discrete (suc (pred p))

  -- It can be told whether a residue is 0.
  unfoldable pub K_decides : Decides (K p)
  unfolding K_discrete red
  K_decides a = K_discrete a 𝟘

  -- The residues 0 and 1 differ where p is at least 2.
  pub K_nontrivial : 2 ≤ p → Nontrivial (K p)
  K_nontrivial two e = let one : 1 % p ≡ 0 = (red_zero_iff (le_of_lt two) 1).0 e in omega (arith, mod-eq_of_lt two)

  -- An inverse of a is found by dividing p again and again. From a number r and a c with a · c = r, a step makes the remainder of p by r
  -- and −(p / r) · c: a times that is the remainder.
  pub inverse_step : (r : ℕ) (a c : C) → a ⊗ c ≡ red p r → a ⊗ ⊖ (red p (p / r) ⊗ c) ≡ red p (p % r)
  inverse_step r a c h =
      let q : C = red p (p / r) in
      let divided : red p (p % r) ⊕ q ⊗ red p r ≡ 𝟘 =
      ap (λ x. red p (p % r) ⊕ x) (sym (red_mul (p / r) r))
      ∙ sym (red_add (p % r) (p / r * r))
      ∙ ap (red p) (mod-add-div' p r)
      ∙ red_self p in
      mul_neg (K p) a (q ⊗ c) ∙ ap (λ x. ⊖ x) (mul_left_comm (K p) a q c ∙ ap (λ x. q ⊗ x) h) ∙ sym (neg_unique (K p) (red p (p % r)) (q ⊗ red p r) divided)

  -- The steps, at most k of them, until the number is 1.
  unfoldable pub inverse_loop : (k r : ℕ) → C → C
  inverse_loop zero r c = 𝟘
  inverse_loop (suc k) r c =
      let rest : C = inverse_loop k (p % r) (⊖ (red p (p / r) ⊗ c)) in
      ite (ℕ_discrete r 1) c rest

  -- The inverse of a residue other than 0, modulo a prime.
  unfoldable pub K_inverse : C → C
  unfolding inverse_loop red ℕ_discrete
  K_inverse a = inverse_loop a.0 a.0 𝟙

  -- The number stays between 0 and p and falls at each step, so that r steps are enough to come to 1.
  inverse_loop_inverts : Prime p → (a : C) (k r : ℕ) (c : C) → r ≤ k → 0 < r → r < p → a ⊗ c ≡ red p r → a ⊗ inverse_loop k r c ≡ 𝟙
  unfolding inverse_loop
  inverse_loop_inverts prime a zero r c hk lo hi h = absurd (omega arith)
  inverse_loop_inverts prime a (suc k) r c hk lo hi h =
      by_cases (ℕ_discrete r 1) (λ e. ap (λ x. a ⊗ x) (if_pos (ℕ_discrete r 1) e c _) ∙ h ∙ ap (red p) e) (λ ne.
      let next : C = ⊖ (red p (p / r) ⊗ c) in
      let smaller : p % r < r = mod-lt p lo in
      let left : 0 < p % r = prime_mod_pos prime r (omega arith) hi in
      ap (λ x. a ⊗ x) (if_neg (ℕ_discrete r 1) ne c (inverse_loop k (p % r) next))
      ∙ inverse_loop_inverts prime a k (p % r) next (omega arith) left (omega arith) (inverse_step r a c h))

  -- The residues modulo a prime have inverses: they are a field.
  pub K_inverts : Prime p → Inverts (K p) K_inverse
  unfolding K_inverse
  K_inverts prime a na =
      inverse_loop_inverts prime a a.0 a.0 𝟙 (le_refl a.0) (pos_of_ne-zero (λ e. na (sym (red_onto p a) ∙ ap (red p) e)))
      (residue_below (le_of_lt prime.two_le) a) (mul_one a ∙ sym (red_onto p a))
