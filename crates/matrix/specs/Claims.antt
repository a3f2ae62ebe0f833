-- What the code makes of the arrays of a claim is what the rules say of the claim.
--   leading_rules            condition 1
--   rank_rules               condition 4
use Rattle.std.specs.Prelude.{◌≡◌, List, [], ℕ, ◌+◌, ◌<◌, get_or}
use Rattle.std.proofs.Common.{ap, ap₂, ◌∙◌}
use Rattle.std.proofs.Math.Path.{fun_ext}
use Rattle.algebra.specs.Residue.{K, red}
use Rattle.algebra.specs.Matrix.{beside_same}
use Rattle.rules.specs.Matrices.{shift, at, matrix_C}
use Rattle.rules.specs.Conditions.{row_degree, leading_coefficient, leading_matrix, rank_matrix}
use Rattle.layout.specs.Flat.{square_place, cells}
use Rattle.claim.specs.declared.Head.{Head}
use Rattle.claim.specs.Claims.{problem_of, basis_of, constants_of}
use Rattle.claim.specs.Sound.{SoundHead, SoundBasis}
use Rattle.claim.specs.Holds.{holds_shifts, holds_entries, holds_constants}
use Rattle.degrees.specs.Claims.{row_degree_rules}
use Rattle.matrix.specs.Fill.{array_of}
use Rattle.matrix.specs.Leading.{leading_number, leading_array}
use Rattle.matrix.specs.Rank.{rank_number, rank_array}

module _ (head : Head) (f lengths entries : List ℕ) (sound_head : SoundHead head) (sound : SoundBasis head lengths entries) where
  -- Condition 1: the leading matrix.
  pub leading_rules : (i j : ℕ) → i < head.m → j < head.m
      → red head.p (get_or (get_or (array_of head.m head.m (leading_number entries lengths head.shifts head.m)) i []) j 0)
      ≡ leading_matrix (problem_of head f) (basis_of head.m lengths entries) i j
  leading_rules i j hi hj =
      leading_array head.p entries lengths head.shifts head.m i j hi hj sound_head.rows_most
      ∙ ap₂ (λ o s. leading_coefficient head.p o s (cells head.p entries i j)) (row_degree_rules head f lengths entries i hi) (holds_shifts head f j hj)
      ∙ ap (leading_coefficient head.p (row_degree (problem_of head f) (basis_of head.m lengths entries) i) (shift (problem_of head f) j))
      (fun_ext (λ k. ap (red head.p) (holds_entries head f lengths entries sound_head sound i j k hi hj)))

  -- Condition 4: the matrix [P(0) C].
  pub rank_rules : (c : List ℕ) (i j : ℕ) → i < head.m → j < head.m + head.n
      → red head.p (get_or (get_or (array_of head.m (head.m + head.n) (rank_number entries c head.m)) i []) j 0)
      ≡ rank_matrix (problem_of head f) (basis_of head.m lengths entries) (constants_of head.m head.n c) i j
  rank_rules c i j hi hj =
      rank_array head.p entries c head.m head.n i j hi hj sound_head.rows_most sound_head.columns_most
      ∙ beside_same (K head.p) head.m head.m head.n (λ i j. cells head.p entries i j 0)
      (λ i j. red head.p (get_or (at (basis_of head.m lengths entries) i j) 0 0))
      (λ i j. red head.p (get_or c (square_place i j) 0)) (matrix_C (problem_of head f) (constants_of head.m head.n c))
      (λ i j hi hj. ap (red head.p) (holds_entries head f lengths entries sound_head sound i j 0 hi hj))
      (λ i j hi hj. ap (red head.p) (holds_constants head f c i j hi hj)) i j hi hj
