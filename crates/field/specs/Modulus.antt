-- A modulus, and what sums of products of numbers modulo p are folded with. Such a sum is cut in two at 2^40, so that it fits 64 bits, and
-- then 2^40 modulo p stands in the place of 2^40.
--   cut                      2^40
--   modulus_of p             the modulus p, with 2^40 modulo p
--   Made μ                   what is asked where sums are folded: μ is the modulus of some p, which is above 0 and below 2^31
--   fold_small, red_fold     the number that is folded with is below 2^31, and in the place of 2^40 it changes nothing modulo p
use Rattle.std.specs.Prelude.{◌≡◌, refl, ℕ, ◌+◌, ◌*◌, ◌%◌, ◌^◌, ◌<◌}
use Rattle.std.proofs.Common.{sym, ap, subst, ◌∙◌, mod-lt, arith}
use Rattle.algebra.specs.Residue.{K, red, red_mod, red_add, red_mul}
use Rattle.field.specs.declared.Modulus.{Modulus}

abbrev pub cut : ℕ
cut = 2 ^ 40

abbrev pub modulus_of : ℕ → Modulus
modulus_of p = record { p = p; fold = cut % p }

pub record Made (μ : Modulus) : Type 0 where
  pub positive : 0 < μ.p
  pub small : μ.p < 2 ^ 31
  pub made : μ ≡ modulus_of μ.p

pub made_of : {μ : Modulus} {p : ℕ} → 0 < p → p < 2 ^ 31 → μ ≡ modulus_of p → Made μ
made_of positive small e = subst Made (sym e) (record { positive = positive; small = small; made = refl })

module _ {μ : Modulus} (made : Made μ) where
  pub fold_small : μ.fold < 2 ^ 31
  fold_small = omega (arith, ap (λ x. x.fold) made.made, mod-lt cut made.positive, made.small)

  pub red_fold : (high low : ℕ) → red μ.p (high * μ.fold + low) ≡ red μ.p (high * cut + low)
  red_fold high low =
      red_add μ.p (high * μ.fold) low
      ∙ ap (λ x. (K μ.p).◌⊕◌ x (red μ.p low))
      (red_mul μ.p high μ.fold ∙ ap (λ x. (K μ.p).◌⊗◌ (red μ.p high) x) carried ∙ sym (red_mul μ.p high cut))
      ∙ sym (red_add μ.p (high * cut) low)
    where
      carried : red μ.p μ.fold ≡ red μ.p cut
      carried = ap (λ x. red μ.p x.fold) made.made ∙ red_mod μ.p cut
