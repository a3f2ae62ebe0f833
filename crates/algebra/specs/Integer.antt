-- The integers as a commutative ring, so that sums of integers are `sum Integers` and their identities are proved by `ring Integers`.
--   Integers                 the ring
--   ℤ_induction              induction by successors and predecessors
--   *ℤ_assoc, *ℤ_+ℤ          the laws of the product beside those of the library
--   nat_abs_add, nat_abs_neg   how far a sum and a negative are from 0
--   More x y                 y is x and a natural number more: more_self, more_trans, more_either, more_none
use Rattle.std.specs.Prelude.{◌≡◌, refl, ◌⊎◌, Bool, true, false, cond, [], ◌∷◌, ℕ, zero, suc, ◌+◌, ◌-◌, ◌≤◌, ◌<◌, T, ltb, ℤ, pos, negsuc, nat_abs, neg_ℤ, ◌+ℤ◌, ◌-ℤ◌, ◌*ℤ◌}
use Rattle.std.proofs.Common.{sym, ap, ap₂, ◌∙◌, inl, inr, le_refl, le_trans, arith, ltb→lt}
use Rattle.std.proofs.Math.IntN.{sub_ℕ, suc_ℤ, pred_ℤ, one, ℤ_set, +ℤ_assoc, +ℤ_comm, +ℤ_idl, +ℤ_idr, +ℤ_invr, neg_ℤ-+ℤ, *ℤ_comm, *ℤ-one, zero-*ℤ, suc_ℤ-*ℤ, pred_ℤ-*ℤ}
use Rattle.algebra.specs.Ring.{CommRing}
use Rattle.algebra.specs.Solver.{v0, v1, ◌⊞◌, ⊟◌, ring}

-- What holds of 0, and with a number of its successor and of its predecessor, holds of every integer.
pub ℤ_induction : (P : ℤ → Type 0) → P (pos zero) → ((a : ℤ) → P a → P (suc_ℤ a)) → ((a : ℤ) → P a → P (pred_ℤ a)) → (a : ℤ) → P a
ℤ_induction P z s p (pos zero) = z
ℤ_induction P z s p (pos (suc n)) = s (pos n) (ℤ_induction P z s p (pos n))
ℤ_induction P z s p (negsuc zero) = p (pos zero) z
ℤ_induction P z s p (negsuc (suc n)) = p (negsuc n) (ℤ_induction P z s p (negsuc n))

interchange : (a b c d : ℤ) → a +ℤ b +ℤ (c +ℤ d) ≡ a +ℤ c +ℤ (b +ℤ d)
interchange a b c d =
    +ℤ_assoc a b (c +ℤ d)
    ∙ ap (λ x. a +ℤ x) (sym (+ℤ_assoc b c d) ∙ ap (λ x. x +ℤ d) (+ℤ_comm b c) ∙ +ℤ_assoc c b d)
    ∙ sym (+ℤ_assoc a c (b +ℤ d))

-- The product distributes over sums.
pub *ℤ_+ℤ : (a b c : ℤ) → a *ℤ (b +ℤ c) ≡ a *ℤ b +ℤ a *ℤ c
*ℤ_+ℤ a b c = ℤ_induction (λ a. a *ℤ (b +ℤ c) ≡ a *ℤ b +ℤ a *ℤ c)
    (zero-*ℤ (b +ℤ c) ∙ sym (ap₂ (λ x y. x +ℤ y) (zero-*ℤ b) (zero-*ℤ c)))
    (λ a ih. suc_ℤ-*ℤ a (b +ℤ c) ∙ ap (λ x. x +ℤ (b +ℤ c)) ih ∙ interchange (a *ℤ b) (a *ℤ c) b c ∙ sym (ap₂ (λ x y. x +ℤ y) (suc_ℤ-*ℤ a b) (suc_ℤ-*ℤ a c)))
    (λ a ih. pred_ℤ-*ℤ a (b +ℤ c)
    ∙ ap₂ (λ x y. x +ℤ y) ih (neg_ℤ-+ℤ b c)
    ∙ interchange (a *ℤ b) (a *ℤ c) (neg_ℤ b) (neg_ℤ c)
    ∙ sym (ap₂ (λ x y. x +ℤ y) (pred_ℤ-*ℤ a b) (pred_ℤ-*ℤ a c)))
    a

+ℤ_*ℤ : (a b c : ℤ) → (a +ℤ b) *ℤ c ≡ a *ℤ c +ℤ b *ℤ c
+ℤ_*ℤ a b c = *ℤ_comm (a +ℤ b) c ∙ *ℤ_+ℤ c a b ∙ ap₂ (λ x y. x +ℤ y) (*ℤ_comm c a) (*ℤ_comm c b)

-- The integer that adds to 0 is the negative.
neg_unique : (a b : ℤ) → a +ℤ b ≡ pos zero → a ≡ neg_ℤ b
neg_unique a b h = sym (+ℤ_idr a) ∙ ap (λ x. a +ℤ x) (sym (+ℤ_invr b)) ∙ sym (+ℤ_assoc a b (neg_ℤ b)) ∙ ap (λ x. x +ℤ neg_ℤ b) h ∙ +ℤ_idl (neg_ℤ b)

negℤ_*ℤ : (a b : ℤ) → neg_ℤ a *ℤ b ≡ neg_ℤ (a *ℤ b)
negℤ_*ℤ a b = neg_unique (neg_ℤ a *ℤ b) (a *ℤ b) (sym (+ℤ_*ℤ (neg_ℤ a) a b) ∙ ap (λ x. x *ℤ b) (+ℤ_comm (neg_ℤ a) a ∙ +ℤ_invr a) ∙ zero-*ℤ b)

-- The product is associative.
pub *ℤ_assoc : (a b c : ℤ) → a *ℤ b *ℤ c ≡ a *ℤ (b *ℤ c)
*ℤ_assoc a b c = ℤ_induction (λ a. a *ℤ b *ℤ c ≡ a *ℤ (b *ℤ c))
    (ap (λ x. x *ℤ c) (zero-*ℤ b) ∙ zero-*ℤ c ∙ sym (zero-*ℤ (b *ℤ c)))
    (λ a ih. ap (λ x. x *ℤ c) (suc_ℤ-*ℤ a b) ∙ +ℤ_*ℤ (a *ℤ b) b c ∙ ap (λ x. x +ℤ b *ℤ c) ih ∙ sym (suc_ℤ-*ℤ a (b *ℤ c)))
    (λ a ih. ap (λ x. x *ℤ c) (pred_ℤ-*ℤ a b) ∙ +ℤ_*ℤ (a *ℤ b) (neg_ℤ b) c ∙ ap₂ (λ x y. x +ℤ y) ih (negℤ_*ℤ b c) ∙ sym (pred_ℤ-*ℤ a (b *ℤ c)))
    a

-- The ring of the integers.
abbrev pub Integers : CommRing
Integers = record {
  C = ℤ;
  is_set = ℤ_set;
  𝟘 = pos zero;
  𝟙 = one;
  ◌⊕◌ = ◌+ℤ◌;
  ◌⊗◌ = ◌*ℤ◌;
  ⊖◌ = neg_ℤ;
  add_assoc = +ℤ_assoc;
  add_comm = +ℤ_comm;
  add_zero = +ℤ_idr;
  add_neg = +ℤ_invr;
  mul_assoc = *ℤ_assoc;
  mul_comm = *ℤ_comm;
  mul_one = *ℤ-one;
  mul_add = *ℤ_+ℤ;
}

nat_abs_subℕ : (a b : ℕ) → nat_abs (sub_ℕ a b) ≤ a + b
nat_abs_subℕ a b = go (ltb a b) (ltb→lt a b)
  where
    go : (c : Bool) → (T c → a < b) → nat_abs (cond c (negsuc (b - suc a)) (pos (a - b))) ≤ a + b
    go true less = omega (arith, less tt)
    go false less = omega arith

-- A sum is at most as far from 0 as its parts together …
pub nat_abs_add : (x y : ℤ) → nat_abs (x +ℤ y) ≤ nat_abs x + nat_abs y
nat_abs_add (pos a) (pos b) = le_refl (a + b)
nat_abs_add (pos a) (negsuc b) = nat_abs_subℕ a (suc b)
nat_abs_add (negsuc a) (pos b) = le_trans (nat_abs_subℕ b (suc a)) (omega arith)
nat_abs_add (negsuc a) (negsuc b) = omega arith

-- … and a negative as far as the number.
pub nat_abs_neg : (x : ℤ) → nat_abs (neg_ℤ x) ≡ nat_abs x
nat_abs_neg (pos zero) = refl
nat_abs_neg (pos (suc n)) = refl
nat_abs_neg (negsuc n) = refl

-- y is x and a natural number more: x is at most y.
abbrev pub More : ℤ → ℤ → Type 0
More x y = (k : ℕ) × (y ≡ x +ℤ pos k)

-- An integer is at most itself, …
pub more_self : (x : ℤ) → More x x
more_self x = (0, sym (+ℤ_idr x))

-- … the order is transitive, …
pub more_trans : (x : ℤ) {y z : ℤ} → More x y → More y z → More x z
more_trans x (k, e) (l, e') = (k + l, e' ∙ ap (λ y. y +ℤ pos l) e ∙ +ℤ_assoc x (pos k) (pos l))

-- … of two integers one is at most the other, …
pub more_either : (x y : ℤ) → More x y ⊎ More y x
more_either x y = by (y -ℤ x) refl
  where
    by : (d : ℤ) → y -ℤ x ≡ d → More x y ⊎ More y x
    by (pos k) e = inl (k, ring Integers (x ∷ y ∷ []) v1 (v0 ⊞ (v1 ⊞ ⊟ v0)) refl ∙ ap (λ d. x +ℤ d) e)
    by (negsuc k) e = inr (suc k, ring Integers (x ∷ y ∷ []) v0 (v1 ⊞ ⊟ (v1 ⊞ ⊟ v0)) refl ∙ ap (λ d. y -ℤ d) e)

-- … and none is more than itself.
pub more_none : (x : ℤ) (k : ℕ) → x ≡ x +ℤ pos k → k ≡ 0
more_none x k e =
    ap nat_abs (ring Integers (x ∷ pos k ∷ []) v1 (v0 ⊞ v1 ⊞ ⊟ v0) refl ∙ ap (λ y. y -ℤ x) (sym e) ∙ +ℤ_invr x)
