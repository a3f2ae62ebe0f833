-- What condition 1 says, and what it says of Δ: the entries obey the row degrees, so that the leading matrix decides the degree of the
-- determinant.
--   leading_power_natural, degrees, entries_at_most, leading_by_degrees      the entries obey the row degrees
--   reduced_iff, zero_row_not_reduced, no_degree_not_reduced                 condition 1
--   reduced_degrees, degree_sum_is, degree_sum_natural                       the rows of a reduced P have degrees, and Δ is the
--                                                                            degree of the determinant
use Rattle.std.specs.Prelude.{◌≡◌, ◌≢◌, ◌↔◌, true, false, List, [], ◌∷◌, ℤ, ◌+ℤ◌, ◌-ℤ◌, get_or}
use Rattle.std.proofs.Math.Path.{refl, ap, subst}
use Rattle.std.proofs.Common.{sym, ◌∙◌, true≢false}
use Rattle.std.proofs.Math.Logic.Iff
use Rattle.std.specs.Prelude.{Option, None, Some, unwrap_or}
use Prim.Native.Nat.{ℕ, zero, suc, ◌+◌, ◌≤◌, ◌<◌}
use native.Mathlib.Omega.{arith}
use Rattle.std.proofs.Math.IntN.{pos}
use Rattle.std.proofs.Math.ListN.{length}
use Rattle.algebra.specs.Solver.{v0, v1, v2, ◌⊞◌, ⊟◌, ring}
use Rattle.algebra.specs.Integer.{Integers}
use Rattle.algebra.specs.Residue.{K, red}
use Rattle.algebra.specs.Polynomial.{Below}
use Rattle.algebra.specs.Det.{det, det_local}
use Rattle.algebra.proofs.Adjugate.{det_zero_row}
use Rattle.algebra.specs.Sum.{sum}
use Rattle.algebra.specs.Degree.{AtMost, at_most_zeros, coefficient, coefficient_zeros}
use Rattle.algebra.proofs.Degree.{EntriesAtMost, leading, degree_of_det}
use Rattle.algebra.proofs.PolyMatrix.{entries}
use Rattle.rules.specs.Claim.{Problem}
use Rattle.rules.specs.Matrices.{shift, at, matrix_P}
use Rattle.rules.specs.Conditions.{shifted_degree_of, row_degree_of, row_degree, leading_coefficient, leading_matrix, reduced, determinant}
use Rattle.rules.specs.Conditions.{degree_sum_of, degree_sum}
use Rattle.laws.specs.BoolLaws.{false_iff, not_iff}
use Rattle.laws.specs.SearchLaws.{is_zero_iff}
use Rattle.laws.specs.DegreeLaws.{largest_above, largest_none, total_is, shifted_some, shifted_none}

module _ (b : Problem) (P : List (List (List ℕ))) where
  -- The power at which an entry other than 0 has its leading coefficient is a natural number, and the entry's degree is not above it. Of
  -- a zero entry the power may be negative.
  pub leading_power_natural : (i j d : ℕ) (r : ℤ) → row_degree b P i ≡ Some r → j < b.m → length (at P i j) ≡ suc d
      → (e : ℕ) × (r -ℤ shift b j ≡ pos e) × (d ≤ e)
  unfolding row_degree_of
  leading_power_natural i j d r e h l =
      let (k, over) = largest_above b.m (λ j. shifted_degree_of (length (at P i j)) (shift b j)) r e j (pos d +ℤ shift b j) h
      (ap (λ n. shifted_degree_of n (shift b j)) l ∙ shifted_some d (shift b j)) in (
        d + k,
        ap (λ x. x -ℤ shift b j) over ∙ ring Integers (pos d ∷ shift b j ∷ pos k ∷ []) (v0 ⊞ v1 ⊞ v2 ⊞ ⊟ v1) (v0 ⊞ v2) refl,
        omega arith,
      )

  -- A zero entry is the polynomial 0.
  zero_entry : (i j : ℕ) → length (at P i j) ≡ 0 → (k : ℕ) → (matrix_P b P i j).series k ≡ (K b.p).𝟘
  zero_entry i j l k = (matrix_P b P i j).below k (omega (arith, l))

  -- A row that has no degree has zero entries alone.
  pub no_degree_zero : (i j : ℕ) → row_degree b P i ≡ None → j < b.m → (k : ℕ) → (matrix_P b P i j).series k ≡ (K b.p).𝟘
  unfolding row_degree_of
  no_degree_zero i j e h =
      zero_entry i j (shifted_none _ (shift b j) (largest_none b.m (λ j. shifted_degree_of (length (at P i j)) (shift b j)) e j h))

  -- The degree of each entry is at most its row's degree less its column's shift.
  pub entry_at_most : (i j : ℕ) (r : ℤ) → row_degree b P i ≡ Some r → j < b.m → AtMost (K b.p) (r -ℤ shift b j) (matrix_P b P i j).series
  unfolding AtMost
  entry_at_most i j r e h = by (length (at P i j)) refl
    where
      by : (n : ℕ) → length (at P i j) ≡ n → AtMost (K b.p) (r -ℤ shift b j) (matrix_P b P i j).series
      by zero l = at_most_zeros (K b.p) (r -ℤ shift b j) (matrix_P b P i j).series (zero_entry i j l)
      by (suc d) l =
          let (f, power, le) = leading_power_natural i j d r e h l in
          subst (λ x. AtMost (K b.p) x (matrix_P b P i j).series) (sym power) (λ k above. (matrix_P b P i j).below k (omega (arith, l)))

  -- The row degrees as integers, 0 for a row that has none: of that row every entry is 0, whatever its degree.
  abbrev pub degrees : ℕ → ℤ
  degrees i = unwrap_or (row_degree b P i) (pos 0)

  pub entries_at_most : EntriesAtMost (K b.p) b.m b.m degrees (shift b) (entries (K b.p) (matrix_P b P))
  entries_at_most i j hi hj = by (row_degree b P i) refl
    where
      by : (o : Option ℤ) → row_degree b P i ≡ o → AtMost (K b.p) (unwrap_or o (pos 0) -ℤ shift b j) (matrix_P b P i j).series
      by None e = at_most_zeros (K b.p) (pos 0 -ℤ shift b j) (matrix_P b P i j).series (no_degree_zero i j e hj)
      by (Some r) e = entry_at_most i j r e hj

  -- The leading matrix is the theory's for these degrees.
  pub leading_by_degrees : (i j : ℕ) → i < b.m → j < b.m
      → leading_matrix b P i j ≡ leading (K b.p) degrees (shift b) (entries (K b.p) (matrix_P b P)) i j
  leading_by_degrees i j hi hj = by (row_degree b P i) refl
    where
      by : (o : Option ℤ) → row_degree b P i ≡ o
          → leading_coefficient b.p o (shift b j) (matrix_P b P i j).series
          ≡ coefficient (K b.p) (unwrap_or o (pos 0) -ℤ shift b j) (matrix_P b P i j).series
      by None e = sym (coefficient_zeros (K b.p) (pos 0 -ℤ shift b j) (matrix_P b P i j).series (no_degree_zero i j e hj))
      by (Some r) e = refl

  -- Condition 1: "P is reduced if the leading matrix has a determinant other than 0".
  pub reduced_iff : (reduced b P ≡ true) ↔ (det (K b.p) b.m (leading_matrix b P) ≢ (K b.p).𝟘)
  unfolding reduced
  reduced_iff = Iff.trans (not_iff _) (Iff.not (is_zero_iff b.p (det (K b.p) b.m (leading_matrix b P))))

  -- "A zero row is never reduced."
  pub zero_row_not_reduced : (i : ℕ) → i < b.m → ((j k : ℕ) → j < b.m → red b.p (get_or (at P i j) k 0) ≡ (K b.p).𝟘) → reduced b P ≡ false
  zero_row_not_reduced i hi zeros =
      (false_iff (reduced b P)).1 (λ r. reduced_iff.0 r (det_zero_row (K b.p) b.m (leading_matrix b P) i hi (λ j hj.
      leading_by_degrees i j hi hj
      ∙ coefficient_zeros (K b.p) (degrees i -ℤ shift b j) (matrix_P b P i j).series (λ k. zeros j k hj))))

  -- A row that has no degree is a zero row.
  pub no_degree_not_reduced : (i : ℕ) → i < b.m → row_degree b P i ≡ None → reduced b P ≡ false
  no_degree_not_reduced i hi e = zero_row_not_reduced i hi (λ j k hj. no_degree_zero i j e hj k)

  -- So every row of a reduced P has a degree.
  pub reduced_degrees : reduced b P ≡ true → (i : ℕ) → i < b.m → row_degree b P i ≡ Some (degrees i)
  reduced_degrees r i hi = by (row_degree b P i) refl
    where
      by : (o : Option ℤ) → row_degree b P i ≡ o → o ≡ Some (unwrap_or o (pos 0))
      by None e = absurd (true≢false (sym r ∙ no_degree_not_reduced i hi e))
      by (Some d) e = refl

  -- Where the rows have degrees, their sum less that of the shifts is the degree sum.
  pub degree_sum_is : (r : ℕ → ℤ) → ((i : ℕ) → i < b.m → row_degree b P i ≡ Some (r i))
      → degree_sum b P ≡ Some (sum Integers b.m r -ℤ sum Integers b.m (shift b))
  unfolding degree_sum_of
  degree_sum_is r h = rw (total_is b.m (row_degree b P) r h, degree_sum_of)

  -- Of a reduced P the degree sum is a natural number, and the degree of the determinant.
  pub degree_sum_natural : reduced b P ≡ true
      → (d : ℕ) × (degree_sum b P ≡ Some (pos d)) × Below (K b.p) (suc d) (determinant b P) × (determinant b P d ≢ (K b.p).𝟘)
  degree_sum_natural r =
      let (d, same, below, ne) = degree_of_det (K b.p) b.m degrees (shift b) (entries (K b.p) (matrix_P b P)) entries_at_most
      (λ z. reduced_iff.0 r (det_local (K b.p) b.m _ _ leading_by_degrees ∙ z)) in
      (d, degree_sum_is degrees (reduced_degrees r) ∙ ap Some same, below, ne)
