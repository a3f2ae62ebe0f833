-- L6: the degrees of a passed answer are least. The statements are in `Least`; here they are proved, from the theory's predictable
-- degree and from generation.
--   largest_iff              the largest of row degree plus multiplier's degree is the degree of the row of multipliers, where the shifts
--                            are the row degrees
--   least_of_plain, degrees_least        what a pass says of the degrees, of a claim and of two files
--   degrees_agree            what two passes say of two answers to one problem
use Rattle.std.specs.Prelude.{◌≡◌, refl, ◌≢◌, ◌↔◌, List, [], ◌∷◌, ℤ, pos, nat_abs, ◌+ℤ◌, ◌-ℤ◌, length}
use Rattle.std.proofs.Common.{sym, ap, subst, ◌∙◌, le_of_suc-le-suc, not-suc-le-zero, zero-lt-suc, le_of_lt, lt_of_not-le, arith}
use Rattle.std.proofs.Math.Logic.{inl, inr}
use Rattle.std.proofs.Math.Logic.Iff
use Rattle.std.specs.Prelude.{Some}
use Prim.Native.Nat.{ℕ, zero, suc, ◌+◌, ◌-◌, ◌%◌, ◌≤◌, ◌<◌, suc-le-suc}
use Rattle.std.proofs.Math.Decide.{dec_le, ℕ_discrete}
use Rattle.std.proofs.Math.IntN.{+ℤ_comm, +ℤ-neg_ℤ_cancel}
use Rattle.std.proofs.Math.ListN.{get_or}
use Rattle.algebra.specs.Solver.{v0, v1, v2, v3, ◌⊞◌, ring}
use Rattle.algebra.specs.Integer.{Integers, more_self, more_trans, more_either}
use Rattle.algebra.specs.Prime.{Prime}
use Rattle.algebra.specs.Residue.{K, red, red_eq, red_zero_iff, K_decides}
use Rattle.algebra.proofs.Residue.{K_cancels}
use Rattle.algebra.specs.Sum.{zeros_or_not}
use Rattle.algebra.proofs.Series.{Series}
use Rattle.algebra.proofs.Polynomial.{degree}
use Rattle.algebra.specs.Matrix.{Matrix, vmul}
use Rattle.algebra.specs.Det.{det, det_local}
use Rattle.algebra.proofs.Adjugate.{det_zero_row}
use Rattle.algebra.proofs.Degree.{leading}
use Rattle.algebra.proofs.Predictable.{row_zero_or_degree, row_degree_unique, predictable_degree}
use Rattle.algebra.proofs.Generation.{Generated}
use Rattle.algebra.proofs.TwoBases.{same_degrees}
use Rattle.rules.specs.Claim.{Problem, Answer, Claim}
use Rattle.rules.specs.Matrices.{shift, at, polynomial, matrix_P}
use Rattle.laws.specs.Ranges.{claim_got, claim_valid}
use Rattle.laws.specs.ReducedLaws.{degrees, entries_at_most, leading_by_degrees, reduced_iff, reduced_degrees}
use Rattle.meaning.specs.Plain.{row_P, VanishesBelowOrders, Plain}
use Rattle.meaning.proofs.Bridge.{red_row_times_column}
use Rattle.meaning.specs.Generating.{field_of, series_P}
use Rattle.meaning.proofs.Generating.{zero_below_iff, lists_iff_polynomials}
use Rattle.meaning.proofs.Meaning.{demand_three}
use Rattle.meaning.specs.Least.{◌at_most◌, AllZero, HasDegree, HasShiftedDegree, ShiftedDegree, IsLargest, combined, coefficients, Lowest, Least}
use Rattle.meaning.specs.Least.{PassMeansLeast, SameRowDegrees, PassesAgree}
use Rattle.meaning.specs.LeastDegrees.{shifted_degree_iff, positive}

-- A power is what is left of its sum with an integer.
power_of_sum : (x : ℤ) (a b : ℕ) → pos a +ℤ x ≡ pos b +ℤ x → a ≡ b
power_of_sum x a b e = ap nat_abs (sym (+ℤ-neg_ℤ_cancel (pos a) x) ∙ ap (λ y. y -ℤ x) e ∙ +ℤ-neg_ℤ_cancel (pos b) x)

-- Of one row or more there is a lowest.
lowest_row : (m : ℕ) (r : ℕ → ℤ) → 0 < m → (i : ℕ) × Lowest m r i
lowest_row zero r h = absurd (not-suc-le-zero h)
lowest_row (suc zero) r h = (0, (h, elim [ zero ↦ λ b. more_self (r 0) | suc k ↦ λ b. absurd (not-suc-le-zero (le_of_suc-le-suc b)) ]))
lowest_row (suc (suc m)) r h =
    let (i, (hi, low)) = lowest_row (suc m) (λ i. r (suc i)) (zero-lt-suc m) in
    elim (more_either (r 0) (r (suc i))) [
      | inl le ↦ (0, (h, elim [ zero ↦ λ b. more_self (r 0) | suc k ↦ λ b. more_trans (r 0) le (low k (le_of_suc-le-suc b)) ]))
      | inr le ↦ (suc i, (suc-le-suc hi, elim [ zero ↦ λ b. le | suc k ↦ λ b. low k (le_of_suc-le-suc b) ]))
    ]

module _ (p : ℕ) (positive : 0 < p) (m : ℕ) (s : ℕ → ℤ) where
  -- Polynomials that are not all zero have a shifted degree.
  shifted_degree : (v : List (List ℕ)) → ¬ AllZero p m v → (D : ℤ) × HasShiftedDegree p m s (coefficients v) D
  shifted_degree v ne =
      elim (row_zero_or_degree (K p) (K_decides p) m s (λ j. polynomial p (get_or v j []))) [
        | inl zeros ↦ absurd (ne (λ j k b. (red_zero_iff p positive (coefficients v j k)).0 (ap (λ f. f k) (zeros j b))))
        | inr (D, h) ↦ (D, ((shifted_degree_iff p positive m s) (coefficients v) (λ j. (polynomial p (get_or v j [])).series) (λ j k b. refl) D).1 h)
      ]

module _ (p : ℕ) (positive : 0 < p) (m : ℕ) (r : ℕ → ℤ) (w : List (List ℕ)) (D : ℤ) where
  -- A polynomial that has a coefficient other than 0 has a degree, and no smaller one.
  degree_above : (f : List ℕ) (k : ℕ) → get_or f k 0 % p ≢ 0 → (a : ℕ) × HasDegree p f a × (k ≤ a)
  degree_above f k ne =
      elim (degree (K p) (K_decides p) (polynomial p f)) [
        | inl zeros ↦ absurd (ne ((red_zero_iff p positive (get_or f k 0)).0 (ap (λ g. g k) zeros)))
        | inr (a, below, top) ↦
            let above : (k : ℕ) → a < k → get_or f k 0 % p ≡ 0 = λ k h. (red_zero_iff p positive (get_or f k 0)).0 (below k h) in (
              a,
              record { not_zero = λ z. top ((red_zero_iff p positive (get_or f a 0)).1 z); zero_above = above },
              elim (dec_le k a) [ yes le ↦ le | no gt ↦ absurd (ne (above k (lt_of_not-le gt))) ],
            )
      ]

  -- The largest sum is the degree of the row of the multipliers: no coefficient other than 0 stands above its polynomial's degree, …
  bounded_by_largest : IsLargest p m r w D → (i k : ℕ) → i < m → coefficients w i k % p ≢ 0 → pos k +ℤ r i at_most D
  bounded_by_largest h i k b ne =
      let (a, degree, le) = degree_above (get_or w i []) k ne in
      let (l, over) = h.none_larger i a b degree in (
        a - k + l,
        over
            ∙ ap (λ n. r i +ℤ pos n +ℤ pos l) (omega arith)
            ∙ ring Integers (r i ∷ pos k ∷ pos (a - k) ∷ pos l ∷ []) (v0 ⊞ (v1 ⊞ v2) ⊞ v3) (v1 ⊞ v0 ⊞ (v2 ⊞ v3)) refl,
      )

  degree_of_largest : IsLargest p m r w D → HasShiftedDegree p m r (coefficients w) D
  degree_of_largest h =
      let (i, a, b, degree, e) = h.one_of_them in
      record { attained = (i, a, b, degree.not_zero, e ∙ +ℤ_comm (r i) (pos a)); bounded = bounded_by_largest h }

  -- … and the other way round: where a coefficient other than 0 attains that degree, those above it in its polynomial are 0, …
  zero_above_attained : HasShiftedDegree p m r (coefficients w) D → (i a : ℕ) → i < m → D ≡ pos a +ℤ r i → (k : ℕ) → a < k → coefficients w i k % p ≡ 0
  zero_above_attained h i a b e k above =
      elim (ℕ_discrete (coefficients w i k % p) 0) [
        | yes z ↦ z
        | no ne ↦
            let (l, over) = h.bounded i k b ne in
            let same : a ≡ k + l =
            power_of_sum (r i) a (k + l) (sym e ∙ over ∙ ring Integers (pos k ∷ r i ∷ pos l ∷ []) (v0 ⊞ v1 ⊞ v2) (v0 ⊞ v2 ⊞ v1) refl) in
            absurd (omega arith)
      ]

  -- … and a multiplier that has a degree has a coefficient other than 0 there.
  sum_at_most : HasShiftedDegree p m r (coefficients w) D → (i a : ℕ) → i < m → HasDegree p (get_or w i []) a → r i +ℤ pos a at_most D
  sum_at_most h i a b degree = let (l, over) = h.bounded i a b degree.not_zero in (l, over ∙ ap (λ x. x +ℤ pos l) (+ℤ_comm (pos a) (r i)))

  largest_of_degree : HasShiftedDegree p m r (coefficients w) D → IsLargest p m r w D
  largest_of_degree h =
      let (i, a, b, ne, e) = h.attained in
      record {
        one_of_them = (i, a, b, record { not_zero = ne; zero_above = zero_above_attained h i a b e }, e ∙ +ℤ_comm (pos a) (r i));
        none_larger = sum_at_most h;
      }

  -- "the largest, over the rows with a nonzero multiplier, of row degree plus the multiplier's degree" is the degree of the row of the
  -- multipliers, where the shifts are the row degrees.
  pub largest_iff : IsLargest p m r w D ↔ HasShiftedDegree p m r (coefficients w) D
  largest_iff = (degree_of_largest, largest_of_degree)

-- ONE ANSWER

module _ (c : Claim) (plain : Plain c) where
  -- The leading matrix for the row degrees is nonsingular: P is reduced.
  leading_nonsingular : det (field_of c) c.problem.m (leading (field_of c) (degrees c.problem c.answer.P) (shift c.problem) (series_P c))
      ≢ (field_of c).𝟘
  leading_nonsingular z =
      (reduced_iff c.problem c.answer.P).0 plain.is_reduced
      (det_local (field_of c) c.problem.m _ _ (leading_by_degrees c.problem c.answer.P) ∙ z)

module _ (c : Claim) (prime : Prime c.problem.p) (plain : Plain c) where
  r : ℕ → ℤ
  r = degrees c.problem c.answer.P

  -- The degree of a combination of the rows of P is predictable.
  degree_of_combination : (w : List (List ℕ)) (D : ℤ)
      → IsLargest c.problem.p c.problem.m r w D ↔ ShiftedDegree c.problem (combined c w) D
  unfolding r
  degree_of_combination w D =
      let p : ℕ = c.problem.p in
      let m : ℕ = c.problem.m in
      Iff.trans (largest_iff p (positive c prime plain) m r w D)
      (Iff.trans (shifted_degree_iff p (positive c prime plain) m r (coefficients w) (λ i. (polynomial p (get_or w i [])).series) (λ i k b. refl) D)
      (Iff.trans
      (predictable_degree (K p) (K_cancels p prime) m r (shift c.problem) (series_P c) (entries_at_most c.problem c.answer.P)
      (leading_nonsingular c plain) (K_decides p) (λ i. polynomial p (get_or w i [])) D)
      (Iff.symm (shifted_degree_iff p (positive c prime plain) m (shift c.problem) (combined c w)
      (vmul (Series (K p)) m (λ i. (polynomial p (get_or w i [])).series) (series_P c))
      (λ j k b. red_row_times_column p m (λ i. get_or w i []) (λ i j. at c.answer.P i j) j k) D))))

  -- The row degrees are the degrees of the rows: of each row a leading coefficient is not 0.
  degree_of_row : (i : ℕ) → i < c.problem.m → ShiftedDegree c.problem (coefficients (get_or c.answer.P i [])) (r i)
  unfolding r
  degree_of_row i b =
      let p : ℕ = c.problem.p in
      let m : ℕ = c.problem.m in
      let L : Matrix (K p) = leading (K p) r (shift c.problem) (series_P c) in
      (shifted_degree_iff p (positive c prime plain) m (shift c.problem) (coefficients (get_or c.answer.P i [])) (series_P c i) (λ j k h. refl) (r i)).1 (
        λ j h. entries_at_most c.problem c.answer.P i j b h,
        elim (zeros_or_not (K p) (K_decides p) m (L i)) [
          | inl zeros ↦ absurd (leading_nonsingular c plain (det_zero_row (K p) m L i b zeros))
          | inr found ↦ found
        ],
      )

  -- Rows that are the same modulo p have the same degree.
  degree_kept : (f g : ℕ → ℕ → ℕ) (D : ℤ) → ((j k : ℕ) → j < c.problem.m → f j k % c.problem.p ≡ g j k % c.problem.p)
      → ShiftedDegree c.problem f D → ShiftedDegree c.problem g D
  degree_kept f g D same h =
      let p : ℕ = c.problem.p in
      (shifted_degree_iff p (positive c prime plain) c.problem.m (shift c.problem) g (λ j k. red p (f j k))
      (λ j k b. (red_eq p (positive c prime plain) (g j k) (f j k)).1 (sym (same j k b))) D).1
      ((shifted_degree_iff p (positive c prime plain) c.problem.m (shift c.problem) f (λ j k. red p (f j k)) (λ j k b. refl) D).0 h)

  -- "no nonzero relation lies lower than the lowest row": it is a combination of the rows, of which one with a nonzero multiplier has no
  -- larger degree.
  relation_not_lower : (i : ℕ) → Lowest c.problem.m r i → (v : List (List ℕ)) → length v ≡ c.problem.m
      → ¬ AllZero c.problem.p c.problem.m v → VanishesBelowOrders c v
      → (D : ℤ) × ShiftedDegree c.problem (coefficients v) D × (r i at_most D)
  relation_not_lower i (b, low) v long ne zero_below =
      let (w, w_long, same) = plain.generates v long zero_below in
      let (D, h) = shifted_degree c.problem.p (positive c prime plain) c.problem.m (shift c.problem) v ne in
      let (k, a, b', degree, e) = ((degree_of_combination w D).1 (degree_kept (coefficients v) (combined c w) D same h)).one_of_them in
      (D, h, more_trans (r i) (low k b') (a, e))

  -- A pass says that the degrees are least.
  pub least_of_plain : 0 < c.problem.m → Least c
  unfolding r
  least_of_plain rows =
      let p : ℕ = c.problem.p in
      let m : ℕ = c.problem.m in
      record {
        r = r;
        row_degrees = reduced_degrees c.problem c.answer.P plain.is_reduced;
        own_degrees = degree_of_row;
        largest = λ w long ne. let (D, h) = shifted_degree p (positive c prime plain) m r w ne in (D, (largest_iff p (positive c prime plain) m r w D).1 h);
        degree_of_sum = λ w D long. degree_of_combination w D;
        one_degree = λ f D E hD hE.
            row_degree_unique (K p) m (shift c.problem) D E (λ j k. red p (f j k))
            ((shifted_degree_iff p (positive c prime plain) m (shift c.problem) f (λ j k. red p (f j k)) (λ j k b. refl) D).0 hD)
            ((shifted_degree_iff p (positive c prime plain) m (shift c.problem) f (λ j k. red p (f j k)) (λ j k b. refl) E).0 hE);
        lowest = lowest_row m r rows;
        no_lower = relation_not_lower;
      }

-- L6 of any two files.
pub degrees_least : PassMeansLeast
degrees_least s t c (q, d, e, h) =
    let valid = (claim_valid s t e).valid_problem in
    least_of_plain c valid.prime ((demand_three s t c q e).0 (d, h)) valid.rows_least

-- TWO ANSWERS

-- A problem and an answer to it.
abbrev claim : Problem → Answer → Claim
claim b a = record { problem = b; answer = a }

module _ (b : Problem) (prime : Prime b.p) where
  -- The rows of one are relations, and so combinations of those of the other.
  rows_generated : (a a' : Answer) → Plain (claim b a) → Plain (claim b a') → (i : ℕ) → i < b.m
      → Generated (K b.p) b.m (matrix_P b a'.P) (matrix_P b a.P i)
  rows_generated a a' plain plain' i hi =
      (lists_iff_polynomials (claim b a') (le_of_lt prime.two_le)).0 plain'.generates (matrix_P b a.P i)
      (λ j k hj hk. (zero_below_iff (claim b a') (le_of_lt prime.two_le) (row_P (claim b a) i) j k).0 (plain.low_coefficients i j k hi hj hk))

  answers_agree : (a a' : Answer) → Plain (claim b a) → Plain (claim b a') → SameRowDegrees (claim b a) (claim b a')
  answers_agree a a' plain plain' =
      let (partner, permutes, same) =
      same_degrees (K b.p) (K_decides b.p) (K_cancels b.p prime) b.m (shift b) (degrees b a.P) (degrees b a'.P)
      (matrix_P b a.P) (matrix_P b a'.P)
      (entries_at_most b a.P, leading_nonsingular (claim b a) plain) (entries_at_most b a'.P, leading_nonsingular (claim b a') plain')
      (rows_generated a a' plain plain') (rows_generated a' a plain' plain) in
      record {
        partner = partner;
        is_row = permutes.within;
        no_two = permutes.apart;
        same_degree = λ i hi.
            reduced_degrees b a.P plain.is_reduced i hi
            ∙ ap Some (same i hi)
            ∙ sym (reduced_degrees b a'.P plain'.is_reduced (partner i) (permutes.within i hi));
      }

-- Two files of answers to one file of a problem: what is read of the problem is the same.
pub degrees_agree : PassesAgree
degrees_agree s t t' c c' (q, d, e, h) (q', d', e', h') =
    subst (λ b. Plain (claim b c'.answer) → SameRowDegrees c (claim b c'.answer)) same
    (answers_agree c.problem (claim_valid s t e).valid_problem.prime c.answer c'.answer ((demand_three s t c q e).0 (d, h)))
    ((demand_three s t' c' q' e').0 (d', h'))
  where
    same : c.problem ≡ c'.problem
    same = let (place, read, rest) = claim_got s t c q e in let (place', read', rest') = claim_got s t' c' q' e' in cc
