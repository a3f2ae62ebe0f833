-- What is found for a code. No proof cites it now; it stands because it was stated.
--   found_as                 by another name of the code
--   found_nothing            no code but 9 to 13 is for a claim
use Rattle.std.specs.Prelude.{◌≡◌, ℕ, Option, None}
use Rattle.std.proofs.Common.{sym, ap, ◌∙◌}
use Rattle.rules.specs.Claim.{Claim}
use Rattle.rules.specs.Verdict.{Verdict}
use Rattle.conditions.specs.Applies.{applies, applies_none}

module _ (c : Claim) where
  pub found_as : {code k : ℕ} {r o : Option Verdict} → code ≡ k → r ≡ o → o ≡ applies k c → r ≡ applies code c
  found_as e h g = h ∙ g ∙ ap (λ i. applies i c) (sym e)

  pub found_nothing : (code : ℕ) → ¬ (code ≡ 9) → ¬ (code ≡ 10) → ¬ (code ≡ 11) → ¬ (code ≡ 12) → ¬ (code ≡ 13) → None ≡ applies code c
  found_nothing code h9 h10 h11 h12 h13 = sym (applies_none c code h9 h10 h11 h12 h13)
