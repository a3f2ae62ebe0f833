-- How many roots a polynomial has. What vanishes at as many different points as it may have coefficients is 0, so that a polynomial of
-- degree at most d that is not 0 has at most d roots. A root is divided out by the one lemma for every point (`Root`).
--   red_distinct             the p numbers below p are different points
use Rattle.std.specs.Prelude.{ℕ, ◌<◌}
use Rattle.std.proofs.Math.Path.{sym}
use Rattle.std.proofs.Common.{◌∙◌, mod-eq_of_lt}
use Rattle.algebra.specs.Residue.{red, red_eq}
use Rattle.algebra.specs.Count.{Distinct}

-- The p numbers below p have different residues.
pub red_distinct : (p : ℕ) → 0 < p → Distinct p (red p)
red_distinct p positive i k hi hk e = sym (mod-eq_of_lt hi) ∙ (red_eq p positive i k).0 e ∙ mod-eq_of_lt hk
