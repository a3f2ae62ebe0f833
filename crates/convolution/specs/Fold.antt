-- Folding a sum, and adding three products to it: both stay within 64 bits, and modulo p they are what they should be.
--   high_small, folded_small   a folded number is below 2^56
--   folded_same              folding changes nothing modulo p
use Rattle.std.specs.Prelude.{◌≡◌, ℕ, ◌*◌, ◌/◌, ◌%◌, ◌^◌, ◌≤◌, ◌<◌}
use Rattle.std.proofs.Math.Path.{ap}
use Rattle.std.proofs.Common.{◌∙◌, mul-le-mul, div-add-mod', arith}
use Rattle.std.proofs.Math.Nat.{le-pred_of_lt}
use Rattle.algebra.specs.Residue.{red}
use Rattle.field.specs.declared.Modulus.{Modulus}
use Rattle.field.specs.Modulus.{cut, Made, fold_small, red_fold}
use Rattle.convolution.specs.Steps.{folded}

module _ {μ : Modulus} (made : Made μ) where
  -- The high digits of a number of 64 bits, times a number below 2^31.
  pub high_small : {v : ℕ} → v < 2 ^ 64 → v / cut * μ.fold < 2 ^ 55
  high_small {v} fits =
      let high : v / cut ≤ 2 ^ 24 = omega arith in
      omega (arith, mul-le-mul high (le-pred_of_lt (fold_small made)))

  pub folded_small : {v : ℕ} → v < 2 ^ 64 → folded μ v < 2 ^ 56
  unfolding folded
  folded_small fits = omega (arith, high_small fits)

  pub folded_same : (v : ℕ) → red μ.p (folded μ v) ≡ red μ.p v
  unfolding folded
  folded_same v = red_fold made (v / cut) (v % cut) ∙ ap (red μ.p) (div-add-mod' v cut)
