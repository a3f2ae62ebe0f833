-- L6: the degrees of a passed answer are least. The statements are in `Least`; here they are proved, from the theory's predictable
-- degree and from generation.
--   shifted_degree_iff       a shifted degree, in numbers, is the theory's degree of the row over K
use Rattle.std.specs.Prelude.{◌≡◌, ◌≢◌, ◌↔◌, ℤ}
use Rattle.std.proofs.Common.{sym, ◌∙◌, le_of_lt}
use Prim.Native.Nat.{ℕ, ◌%◌, ◌<◌}
use Rattle.algebra.specs.Prime.{Prime}
use Rattle.algebra.specs.Residue.{K, red, red_zero_iff, K_decides}
use Rattle.algebra.proofs.Series.{Series}
use Rattle.algebra.specs.Matrix.{Row}
use Rattle.algebra.proofs.Predictable.{RowDegree, row_degree_coefficients}
use Rattle.rules.specs.Claim.{Claim}
use Rattle.meaning.specs.Plain.{Plain}
use Rattle.meaning.specs.Least.{HasShiftedDegree}

module _ (p : ℕ) (positive : 0 < p) (m : ℕ) (s : ℕ → ℤ) where
  -- A shifted degree is the degree of the row of the residues.
  pub shifted_degree_iff : (f : ℕ → ℕ → ℕ) (v : Row (Series (K p))) → ((j k : ℕ) → j < m → red p (f j k) ≡ v j k) → (D : ℤ)
      → HasShiftedDegree p m s f D ↔ RowDegree (K p) m s D v
  shifted_degree_iff f v same D = (
    λ h. let (j, k, b, ne, e) = h.attained in
        (row_degree_coefficients (K p) (K_decides p) m s D v).1 ((j, k, b, (in_K j k b).0 ne, e), λ j k b ne. h.bounded j k b ((in_K j k b).1 ne)),
    λ h. let ((j, k, b, ne, e), top) = (row_degree_coefficients (K p) (K_decides p) m s D v).0 h in
        record { attained = (j, k, b, (in_K j k b).1 ne, e); bounded = λ j k b ne. top j k b ((in_K j k b).0 ne) },
  )
    where
      in_K : (j k : ℕ) → j < m → (f j k % p ≢ 0) ↔ (v j k ≢ (K p).𝟘)
      in_K j k b = (
        λ ne z. ne ((red_zero_iff p positive (f j k)).0 (same j k b ∙ z)),
        λ ne z. ne (sym (same j k b) ∙ (red_zero_iff p positive (f j k)).1 z),
      )

module _ (c : Claim) (prime : Prime c.problem.p) (plain : Plain c) where
  pub positive : 0 < c.problem.p
  positive = le_of_lt prime.two_le
