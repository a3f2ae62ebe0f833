-- Each condition over the arrays of a claim is that of the rules over the claim, and what the functions that it is made of ask follows from
-- what is asked of the arrays.
--   leading_grid, rank_grid  the leading matrix and [P(0) C] modulo p, as the code has them
--   sized_of, square_of      what is asked by the degrees and the determinant
--   reduced_of, monomial_of, rank_of       conditions 1, 2 and 4
use Rattle.std.specs.Prelude.{◌≡◌, Bool, true, false, not, List, ℕ, ◌+◌}
use Rattle.std.proofs.Math.Path.{refl, subst}
use Rattle.std.proofs.Common.{sym, ap, ◌∙◌, arith}
use Rattle.std.proofs.Math.Nat.{le_of_lt}
use Rattle.algebra.specs.Residue.{K, red}
use Rattle.algebra.specs.Series.{series_ext}
use Rattle.algebra.proofs.Series.{Series}
use Rattle.algebra.specs.Matrix.{Matrix, Same}
use Rattle.algebra.specs.Det.{det, det_local}
use Rattle.algebra.specs.Dependence.{Dependent, dependent_local}
use Rattle.algebra.specs.OrderBasis.{Monomial}
use Rattle.algebra.proofs.PolyMatrix.{entries as series_entries}
use Rattle.rules.specs.Claim.{Problem}
use Rattle.rules.specs.Matrices.{matrix_P}
use Rattle.rules.specs.Conditions.{leading_matrix, reduced, monomial_determinant, rank_matrix, rank_below}
use Rattle.rules.specs.Sizes.{largest_prime}
use Rattle.laws.specs.BoolLaws.{false_iff}
use Rattle.laws.specs.ReducedLaws.{reduced_iff}
use Rattle.laws.specs.DeterminantLaws.{monomial_determinant_iff}
use Rattle.laws.specs.ProductLaws.{rank_below_iff}
use Rattle.field.specs.declared.Modulus.{Modulus}
use Rattle.field.specs.Modulus.{modulus_of, Made, made_of}
use Rattle.layout.specs.Flat.{cells}
use Rattle.layout.specs.Holds.{padded_fewer}
use Rattle.layout.specs.Settles.{Settles}
use Rattle.claim.specs.declared.Head.{Head}
use Rattle.claim.specs.Claims.{problem_of, basis_of, constants_of}
use Rattle.claim.specs.Sound.{SoundHead, SoundBasis}
use Rattle.claim.specs.Holds.{holds_entries}
use Rattle.degrees.specs.Degrees.{Sized}
use Rattle.determinant.specs.Square.{Holds}
use Rattle.matrix.specs.Claims.{leading_rules, rank_rules}
use Rattle.matrix.specs.Fill.{array_of}
use Rattle.matrix.specs.Leading.{leading_number}
use Rattle.matrix.specs.Rank.{rank_number}
use Rattle.elimination.specs.Grid.{grid}

-- The leading matrix, and [P(0) C].
abbrev pub leading_grid : (head : Head) → (lengths entries : List ℕ) → Matrix (K head.p)
leading_grid head lengths entries = grid head.p (array_of head.m head.m (leading_number entries lengths head.shifts head.m))

abbrev pub rank_grid : (head : Head) → (entries c : List ℕ) → Matrix (K head.p)
rank_grid head entries c = grid head.p (array_of head.m (head.m + head.n) (rank_number entries c head.m))

-- WHAT IS ASKED

module _ {head : Head} {lengths entries : List ℕ} (sound_head : SoundHead head) (sound_basis : SoundBasis head lengths entries) where
  pub sized_of : Sized lengths head.shifts
  sized_of = record { length_most = sound_basis.P_padded.length_most; shift_most = sound_head.shifts_most }

  pub square_of : {μ : Modulus} → μ ≡ modulus_of head.p → Made μ × Holds μ.p head.m entries lengths
  unfolding largest_prime
  square_of e =
      let positive = le_of_lt sound_head.prime.two_le in
      subst (λ μ. Made μ × Holds μ.p head.m entries lengths) (sym e) (
        made_of positive (omega (arith, sound_head.prime_most)) refl,
        record {
          two_le = sound_head.prime.two_le;
          allowed = sound_head.prime_most;
          some_row = sound_head.rows_least;
          few_rows = sound_head.rows_most;
          below = sound_basis.P_below;
          padded = padded_fewer sound_head.rows_most sound_basis.P_padded;
        },
      )

-- WHAT THE TESTS SAY

module _ (head : Head) (f lengths entries : List ℕ) (sound_head : SoundHead head) (sound_basis : SoundBasis head lengths entries) where
  abbrev b : Problem
  b = problem_of head f

  abbrev P : List (List (List ℕ))
  P = basis_of head.m lengths entries

  -- The same polynomials.
  same_P : Same (Series (K head.p)) head.m head.m (cells head.p entries) (series_entries (K head.p) (matrix_P b P))
  same_P i j hi hj = series_ext (K head.p) (λ k. ap (red head.p) (holds_entries head f lengths entries sound_head sound_basis i j k hi hj))

  same_leading : Same (K head.p) head.m head.m (leading_grid head lengths entries) (leading_matrix b P)
  same_leading = leading_rules head f lengths entries sound_head sound_basis

  -- Conditions 1 and 2, …
  pub reduced_of : (r : Bool) → Settles (det (K head.p) head.m (leading_grid head lengths entries) ≡ (K head.p).𝟘) r → reduced b P ≡ not r
  reduced_of true s =
      (false_iff (reduced b P)).1 (λ e. (reduced_iff b P).0 e (sym (det_local (K head.p) head.m _ _ same_leading) ∙ s.holds refl))
  reduced_of false s = (reduced_iff b P).1 (λ e. s.fails refl (det_local (K head.p) head.m _ _ same_leading ∙ e))

  monomial_settled : (r : Bool) → Settles (Monomial (K head.p) (det (Series (K head.p)) head.m (cells head.p entries))) r → monomial_determinant b P ≡ r
  monomial_settled true s =
      (monomial_determinant_iff b P).1 (subst (Monomial (K head.p)) (det_local (Series (K head.p)) head.m _ _ same_P) (s.holds refl))
  monomial_settled false s =
      (false_iff (monomial_determinant b P)).1
      (λ e. s.fails refl (subst (Monomial (K head.p)) (sym (det_local (Series (K head.p)) head.m _ _ same_P)) ((monomial_determinant_iff b P).0 e)))

  pub monomial_of : (r : Bool) {μ : Modulus} → μ ≡ modulus_of head.p
      → Settles (Monomial (K μ.p) (det (Series (K μ.p)) head.m (cells μ.p entries))) r → monomial_determinant b P ≡ r
  monomial_of r e s =
      monomial_settled r (subst (λ μ. Settles (Monomial (K μ.p) (det (Series (K μ.p)) head.m (cells μ.p entries))) r) e s)

  -- … and condition 4.
  module _ (c : List ℕ) where
    abbrev C : List (List ℕ)
    C = constants_of head.m head.n c

    same_rank : Same (K head.p) head.m (head.m + head.n) (rank_grid head entries c) (rank_matrix b P C)
    same_rank = rank_rules head f lengths entries sound_head sound_basis c

    pub rank_of : (r : Bool) → Settles (Dependent (K head.p) head.m (head.m + head.n) (rank_grid head entries c)) r → rank_below b P C ≡ r
    rank_of true s =
        (rank_below_iff b P C (le_of_lt sound_head.prime.two_le)).1 (dependent_local (K head.p) head.m (head.m + head.n) _ _ same_rank (s.holds refl))
    rank_of false s =
        (false_iff (rank_below b P C)).1
        (λ e. s.fails refl
        (dependent_local (K head.p) head.m (head.m + head.n) _ _ (λ i j hi hj. sym (same_rank i j hi hj))
        ((rank_below_iff b P C (le_of_lt sound_head.prime.two_le)).0 e)))
