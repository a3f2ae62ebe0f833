-- The arrays of a claim hold the claim that they stand for, each number at its place.
--   holds_orders, holds_shifts, holds_columns      of the problem
--   holds_lengths, holds_entries                   of P
--   holds_constants                                of C
use Rattle.std.specs.Prelude.{◌≡◌, ℕ, ◌≤◌, ◌<◌, pos}
use Rattle.std.proofs.Math.Path.{sym}
use Rattle.std.proofs.Common.{ap, ◌∙◌, arith}
use Rattle.std.proofs.Math.Logic.{by_cases}
use mathlib.Core.List.{List, []}
use Rattle.std.proofs.Math.Decide.{dec_le}
use Rattle.std.proofs.Math.ListN.{length, get_or, get_or-eq_default}
use Rattle.rules.specs.Matrices.{at}
use Rattle.rules.specs.Table.{table, length_table, get_or_table}
use Rattle.layout.specs.Flat.{square_place, length_at, shift_at, cell, column_cell}
use Rattle.layout.specs.Holds.{EntryCells, EntryLengths, ColumnCells, Orders, Shifts, Constants}
use Rattle.claim.specs.declared.Head.{Head}
use Rattle.claim.specs.Claims.{orders_of, shifts_of, columns_of, problem_of, basis_of, constants_of}
use Rattle.claim.specs.Sound.{SoundHead, SoundColumns, SoundBasis}

-- A function that is 0 from n on is what the table of its first n values holds.
cut_off : (n : ℕ) (g : ℕ → ℕ) → ((k : ℕ) → n ≤ k → g k ≡ 0) → (k : ℕ) → g k ≡ get_or (table n g) k 0
cut_off n g ends k = by_cases (dec_le n k)
    (λ h. ends k h ∙ sym (get_or-eq_default (table n g) 0 (omega (arith, length_table n g))))
    (λ h. sym (get_or_table n g 0 k (omega arith)))

-- An entry of a table of tables.
at_table : (m n : ℕ) (g : ℕ → ℕ → List ℕ) (i j : ℕ) → i < m → j < n → at (table m (λ i. table n (g i))) i j ≡ g i j
at_table m n g i j hi hj = ap (λ l. get_or l j []) (get_or_table m (λ i. table n (g i)) [] i hi) ∙ get_or_table n (g i) [] j hj

module _ (head : Head) (f : List ℕ) where
  pub holds_orders : Orders (problem_of head f) head.orders
  unfolding orders_of
  holds_orders j hj = sym (get_or_table head.n (λ j. get_or head.orders j 0) 0 j hj)

  pub holds_shifts : Shifts (problem_of head f) head.shifts
  unfolding shifts_of
  holds_shifts j hj = sym (get_or_table head.m (shift_at head.shifts) (pos 0) j hj)

  pub holds_columns : SoundColumns head f → ColumnCells (problem_of head f) f
  unfolding columns_of
  holds_columns sound i j k hi hj =
      cut_off (get_or head.orders j 0) (column_cell f i j) (λ k. sound.F_ends i j k hi hj) k
      ∙ sym (ap (λ l. get_or l k 0) (at_table head.n head.m (λ j i. table (get_or head.orders j 0) (column_cell f i j)) j i hj hi))

  module _ (lengths entries : List ℕ) where
    pub holds_lengths : EntryLengths (problem_of head f) (basis_of head.m lengths entries) lengths
    unfolding basis_of
    holds_lengths i j hi hj =
        sym
        (ap length (at_table head.m head.m (λ i j. table (length_at lengths i j) (cell entries i j)) i j hi hj)
        ∙ length_table (length_at lengths i j) (cell entries i j))

    pub holds_entries : SoundHead head → SoundBasis head lengths entries → EntryCells (problem_of head f) (basis_of head.m lengths entries) entries
    unfolding basis_of
    holds_entries sound_head sound i j k hi hj =
        cut_off (length_at lengths i j) (cell entries i j)
        (λ k. sound.P_padded.past_length i j k (omega (arith, sound_head.rows_most)) (omega (arith, sound_head.rows_most))) k
        ∙ sym (ap (λ l. get_or l k 0) (at_table head.m head.m (λ i j. table (length_at lengths i j) (cell entries i j)) i j hi hj))

  pub holds_constants : (c : List ℕ) → Constants (problem_of head f) (constants_of head.m head.n c) c
  unfolding constants_of
  holds_constants c i j hi hj =
      sym
      (ap (λ l. get_or l j 0) (get_or_table head.m (λ i. table head.n (λ j. get_or c (square_place i j) 0)) [] i hi)
      ∙ get_or_table head.n (λ j. get_or c (square_place i j) 0) 0 j hj)
