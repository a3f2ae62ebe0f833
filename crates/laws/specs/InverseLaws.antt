-- What the inverse in K is: none of 0, and of any other a "the b with a × b = 1".
--   inverse_exists           a number other than 0 has one
--   inverse_none_iff         0 alone has none
--   inverse_some_iff         the inverse is the number of K whose product with a is 1
use Rattle.std.specs.Prelude.{◌≡◌, ◌≢◌, ◌↔◌, ℕ, ◌*◌, ◌%◌, ◌<◌}
use Rattle.std.proofs.Common.{sym, ap, ◌∙◌, le_of_lt, mod-eq_of_lt, suc-ne-zero, arith}
use Rattle.std.specs.Prelude.{None, Some}
use Rattle.std.proofs.Math.Decide.{ℕ_discrete}
use Rattle.std.proofs.Math.Dec.{eqb}
use Rattle.algebra.specs.Ring as Ring
use Rattle.algebra.specs.Prime.{Prime}
use Rattle.algebra.specs.Residue.{K, red, red_mul, red_onto, red_eq, red_zero_iff, red_mul_one_iff, residue_below, inverse_unique, K_inverse, K_inverts}
use Rattle.rules.specs.Inverse.{inverse, InverseOf}
use Rattle.laws.specs.BoolLaws.{eqb_iff, false_iff}
use Rattle.laws.specs.SearchLaws.{first_below_none, first_below_some}

module _ (p : ℕ) (prime : Prime p) where
  positive : 0 < p
  positive = le_of_lt prime.two_le

  -- A number other than 0 has an inverse: the number of the field's.
  pub inverse_exists : (a : ℕ) → a % p ≢ 0 → (b : ℕ) × InverseOf p a b
  inverse_exists a ne =
      let x = K_inverse p (red p a) in (
        x.0,
        record {
          below = residue_below p positive x;
          one =
              (red_mul_one_iff p prime.two_le a x.0).0
              (ap (λ y. (K p).◌⊗◌ (red p a) y) (red_onto p x) ∙ K_inverts p prime (red p a) (λ e. ne ((red_zero_iff p positive a).0 e)));
        },
      )

  -- No product with 0 is 1.
  no_inverse : (a b : ℕ) → a % p ≡ 0 → a * b % p ≢ 1
  no_inverse a b z e = suc-ne-zero 0 (sym e ∙ vanishes)
    where
      vanishes : a * b % p ≡ 0
      vanishes =
          (red_zero_iff p positive (a * b)).0
          (red_mul p a b ∙ ap (λ x. (K p).◌⊗◌ x (red p b)) ((red_zero_iff p positive a).1 z) ∙ Ring.zero_mul (K p) (red p b))

  -- No number has two.
  one_inverse : (a b c : ℕ) → InverseOf p a b → InverseOf p a c → b ≡ c
  one_inverse a b c hb hc = sym (mod-eq_of_lt hb.below) ∙ (red_eq p positive b c).0 same ∙ mod-eq_of_lt hc.below
    where
      inverts : (x : ℕ) → InverseOf p a x → (K p).◌⊗◌ (red p a) (red p x) ≡ (K p).𝟙
      inverts x h = (red_mul_one_iff p prime.two_le a x).1 h.one

      same : red p b ≡ red p c
      same = inverse_unique (K p) (red p a) (red p b) (red p c) (inverts b hb) (inverts c hc)

  -- "The inverse of 0 shall have an answer of its own": 0 has none, and every other number has one.
  pub inverse_none_iff : (a : ℕ) → (inverse p a ≡ None) ↔ (a % p ≡ 0)
  unfolding inverse
  inverse_none_iff a = (
    λ e. elim (ℕ_discrete (a % p) 0) [
      | yes z ↦ z
      | no ne ↦
          let (b, h) = inverse_exists a ne in
          absurd ((false_iff _).0 ((first_below_none p (λ b. eqb (a * b % p) 1)).0 e _ h.below) ((eqb_iff _ 1).1 h.one))
    ],
    λ z. (first_below_none p (λ b. eqb (a * b % p) 1)).1 (λ b h. (false_iff _).1 (λ t. no_inverse a b z ((eqb_iff (a * b % p) 1).0 t))),
  )

  -- "of any other a it is the b with a × b = 1"
  pub inverse_some_iff : (a b : ℕ) → (inverse p a ≡ Some b) ↔ InverseOf p a b
  unfolding inverse
  inverse_some_iff a b = (
    λ e. let (h, t, before) = (first_below_some p (λ b. eqb (a * b % p) 1) b).0 e in record { below = h; one = (eqb_iff (a * b % p) 1).0 t },
    λ h. (first_below_some p (λ b. eqb (a * b % p) 1) b).1 (
      h.below,
      (eqb_iff (a * b % p) 1).1 h.one,
      λ k less. (false_iff _).1 (λ t.
          let same : k ≡ b = one_inverse a k b (record { below = omega (arith, h.below); one = (eqb_iff (a * k % p) 1).0 t }) h in
          absurd (omega arith)),
    ),
  )
