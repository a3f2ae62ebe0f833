-- Demand 3: a pass means what it says. The statement is in `Plain`; here it is proved, for every claim whose numbers are within document
-- 01's sizes, and so for every two files that the readers accept.
--   pass_means_plain         a claim passes exactly if `Plain` holds of it
--   demand_three             the same of the files
--   passed_exponent          Δ is the exponent of X in the determinant
use Rattle.std.specs.Prelude.{◌≡◌, ◌↔◌, [], ℕ, ◌<◌, pos, get_or}
use Rattle.std.proofs.Common.{sym, ◌∙◌, le_of_lt, mod-eq_of_lt}
use Rattle.std.proofs.Math.Logic.Iff
use Rattle.std.specs.Prelude.{Some}
use Rattle.std.proofs.Math.Decide.{ℕ_discrete}
use Rattle.algebra.specs.Prime.{Prime}
use Rattle.algebra.specs.Residue.{red_eq, K_decides, K_inverse, K_inverts, K_nontrivial}
use Rattle.algebra.proofs.Series.{Series}
use Rattle.algebra.specs.Matrix.{mmul}
use Rattle.algebra.proofs.OrderBasis.{Vanishes, order_basis}
use Rattle.rules.specs.Claim.{Claim}
use Rattle.rules.specs.Matrices.{order, matrix_F, matrix_P, matrix_C, product}
use Rattle.rules.specs.Conditions.{degree_sum}
use Rattle.laws.specs.Valid.{Valid}
use Rattle.laws.specs.Ranges.{claim_valid}
use Rattle.rules.specs.Verdict.{passed, judge_claim}
use Rattle.laws.specs.VerdictLaws.{verdict_of_claim}
use Rattle.laws.specs.ReducedLaws.{reduced_iff}
use Rattle.laws.specs.DeterminantLaws.{degree_sum_exponent}
use Rattle.meaning.specs.Plain.{row_P, Generates, Plain, PassMeansPlain}
use Rattle.meaning.specs.Generating.{field_of, series_F, series_P}
use Rattle.meaning.proofs.Generating.{zero_below_iff, lists_iff_polynomials}
use Rattle.meaning.specs.Verdicts.{IsMonomial, SomeMonomial, FullRank, Says, product_number}
use Rattle.meaning.proofs.Verdicts.{red_product, judge_claim_meaning}

module _ (c : Claim) (prime : Prime c.problem.p) (C_below : (i j : ℕ) → get_or (get_or c.answer.C i []) j 0 < c.problem.p) where
  positive : 0 < c.problem.p
  positive = le_of_lt prime.two_le

  -- Where the product is as conditions 2 and 3 want it, the determinant and the rank decide whether P generates.
  generates_iff : ((i j k : ℕ) → i < c.problem.m → j < c.problem.n → k < order c.problem j → product_number c i j k ≡ 0)
      → ((i j : ℕ) → i < c.problem.m → j < c.problem.n → product_number c i j (order c.problem j) ≡ get_or (get_or c.answer.C i []) j 0)
      → (SomeMonomial c × FullRank c) ↔ Generates c
  unfolding product
  generates_iff low at =
      Iff.trans
      (order_basis (field_of c)
      (K_decides c.problem.p) (K_inverse c.problem.p) (K_inverts c.problem.p prime) (K_nontrivial c.problem.p prime.two_le)
      c.problem.m c.problem.n (matrix_P c.problem c.answer.P) (matrix_F c.problem)
      (order c.problem) (matrix_C c.problem c.answer.C) vanishes evidence)
      (Iff.symm (lists_iff_polynomials c positive))
    where
      vanishes : (i : ℕ) → i < c.problem.m
          → Vanishes (field_of c) c.problem.m c.problem.n (series_F c) (order c.problem) (series_P c i)
      vanishes i hi j k hj hk = (zero_below_iff c positive (row_P c i) j k).0 (low i j k hi hj hk)

      evidence : (i j : ℕ) → i < c.problem.m → j < c.problem.n
          → mmul (Series (field_of c)) c.problem.m (series_P c) (series_F c) i j (order c.problem j)
          ≡ matrix_C c.problem c.answer.C i j
      evidence i j hi hj =
          sym (red_product c positive i j (order c.problem j))
          ∙ (red_eq c.problem.p positive _ _).1 (at i j hi hj ∙ sym (mod-eq_of_lt (C_below i j)))

  plain_of_pass : (d : ℕ) → Says c (passed d) → Plain c
  plain_of_pass d (r, (ne, others), no_low, no_order, full, exponent) =
      record {
        is_reduced = (reduced_iff c.problem c.answer.P).1 r;
        low_coefficients = low;
        order_coefficients = at;
        generates = (generates_iff low at).0 ((d, ne, others), full);
      }
    where
      low : (i j k : ℕ) → i < c.problem.m → j < c.problem.n → k < order c.problem j → product_number c i j k ≡ 0
      low i j k hi hj hk = elim (ℕ_discrete (product_number c i j k) 0) [ yes e ↦ e | no ne ↦ absurd (no_low i j hi hj (k, hk, ne)) ]

      at : (i j : ℕ) → i < c.problem.m → j < c.problem.n → product_number c i j (order c.problem j) ≡ get_or (get_or c.answer.C i []) j 0
      at i j hi hj =
          elim (ℕ_discrete (product_number c i j (order c.problem j)) (get_or (get_or c.answer.C i []) j 0)) [
            | yes e ↦ e
            | no ne ↦ absurd (no_order i j hi hj ne)
          ]

  pass_of_plain : Plain c → (d : ℕ) × Says c (passed d)
  pass_of_plain plain =
      let ((e, ne, others), full) = (generates_iff plain.low_coefficients plain.order_coefficients).1 plain.generates in (
        e,
        (
          (reduced_iff c.problem c.answer.P).0 plain.is_reduced,
          (ne, others),
          λ i j hi hj (k, hk, fault). fault (plain.low_coefficients i j k hi hj hk),
          λ i j hi hj fault. fault (plain.order_coefficients i j hi hj),
          full,
          degree_sum_exponent c.problem c.answer.P plain.is_reduced (e, ne, others),
        ),
      )

  -- A claim modulo a prime, with C's numbers below it, passes for some Δ exactly if `Plain` holds of it.
  pub pass_iff_plain : ((d : ℕ) × (judge_claim c ≡ passed d)) ↔ Plain c
  pass_iff_plain = (
    λ (d, e). plain_of_pass d ((judge_claim_meaning c positive (passed d)).0 e),
    λ plain. let (d, says) = pass_of_plain plain in (d, (judge_claim_meaning c positive (passed d)).1 says),
  )

-- A claim within document 01's sizes passes, for some Δ, exactly if `Plain` holds of it.
pub pass_means_plain : (c : Claim) → Valid c → ((d : ℕ) × (judge_claim c ≡ passed d)) ↔ Plain c
pass_means_plain c valid = pass_iff_plain c valid.valid_problem.prime valid.valid_answer.C_range

-- For a passed claim the number in the verdict is the degree sum itself, and the determinant is a nonzero constant times X to it.
pub passed_exponent : (c : Claim) → Valid c → (d : ℕ) → judge_claim c ≡ passed d → (degree_sum c.problem c.answer.P ≡ Some (pos d)) × IsMonomial c d
passed_exponent c valid d e =
    let (r, monomial, no_low, no_order, full, exponent) = (judge_claim_meaning c (le_of_lt valid.valid_problem.prime.two_le) (passed d)).0 e in
    (exponent, monomial)

-- Demand 3 of any two files.
pub demand_three : PassMeansPlain
demand_three s t c q e = (
  λ (d, h). (pass_means_plain c (claim_valid s t e)).0 (d, sym (verdict_of_claim s t c q e) ∙ h),
  λ plain. let (d, h) = (pass_means_plain c (claim_valid s t e)).1 plain in (d, verdict_of_claim s t c q e ∙ h),
)
