-- The arrays of P after some steps.
--   EntriesAfter, BasisAfter           its coefficients, and the lengths of its entries beside them
--   entries_after            what the arrays hold after the steps says so
--   basis_of_entries         the lengths are those that are measured
use Rattle.std.specs.Prelude.{◌≡◌, List, ℕ, ◌≤◌, ◌<◌, ℤ, length, get_or}
use Rattle.rules.specs.Sizes.{most_rows, most_order, most_length}
use Rattle.rules.specs.Claim.{Problem}
use Rattle.rules.specs.Matrices.{at}
use Rattle.rules.specs.Maker.{basis_after}
use Rattle.laws.specs.Valid.{ValidProblem}
use Rattle.laws.specs.MakerLaws.{after_valid}
use Rattle.layout.specs.Flat.{square, length_at}
use Rattle.stepping.specs.Next.{coefficient_at}
use Rattle.stepping.specs.Filled.{Kept}
use Rattle.iteration.specs.After.{After}
use Rattle.iteration.specs.Measure.{Lengths, measured_length}

pub record EntriesAfter (b : Problem) (k : ℕ) (entries : List ℕ) : Type 0 where
  pub kept : Kept b.p entries
  pub hold : (i j t : ℕ) → i < most_rows → j < most_rows → t < most_length → coefficient_at entries i j t ≡ get_or (at (basis_after b k) i j) t 0

pub record BasisAfter (b : Problem) (k : ℕ) (lengths entries : List ℕ) : Type 0 where
  pub kept : Kept b.p entries
  pub hold : (i j t : ℕ) → i < most_rows → j < most_rows → t < most_length → coefficient_at entries i j t ≡ get_or (at (basis_after b k) i j) t 0
  pub lengths_full : length lengths ≡ square
  pub lengths_are : (i j : ℕ) → i < most_rows → j < most_rows → length_at lengths i j ≡ length (at (basis_after b k) i j)

pub entries_after : {b : Problem} {k : ℕ} {entries products : List ℕ} {degrees : List ℤ} → After b k entries products degrees → EntriesAfter b k entries
entries_after h = record { kept = h.entries_kept; hold = h.entries_hold }

pub basis_of_entries : (b : Problem) → ValidProblem b → (k : ℕ) → k ≤ most_order → (lengths entries : List ℕ) → EntriesAfter b k entries → Lengths entries lengths
    → BasisAfter b k lengths entries
basis_of_entries b valid k small lengths entries h m = record {
  kept = h.kept;
  hold = h.hold;
  lengths_full = m.full;
  lengths_are = λ i j hi hj.
      let basis = after_valid b valid k small in
      measured_length entries i j (length_at lengths i j) (at (basis_after b k) i j) (m.measured i j hi hj) (basis.P_entry_length i j)
      (λ t ht. h.hold i j t hi hj ht) (basis.P_last i j);
}
