-- The shifts and the degrees of rows as the machine reads them back.
use Rattle.std.proofs.Common.{◌≡◌, List, ℕ, ℤ, ◌+◌, ◌^◌, ◌<◌, nat_abs, ap, arith, w32, to_z, of_z}
use Rattle.std.specs.Prelude.{Some}
use Rattle.std.proofs.lemmas.Int.{ints, to_z-of_z}
use Rattle.rules.specs.Conditions.{row_degree_of}
use Rattle.rules.specs.Sizes.{most_length, most_shift}
use Rattle.layout.specs.Flat.{length_at, shift_at}
use Rattle.degrees.specs.Degrees.{Sized, row_degree_size}

module _ (lengths : List ℕ) (shifts : List ℤ) (sized : Sized lengths shifts) where
  pub shift_back : (j : ℕ) → to_z w32 (of_z w32 (shift_at shifts j)) ≡ shift_at shifts j
  unfolding most_shift
  shift_back j = to_z-of_z w32 (shift_at shifts j) (let h = sized.shift_most j in omega (arith, ints))

  -- A row degree and a shift are small enough to be subtracted.
  pub difference_small : (m i j : ℕ) (r : ℤ) → row_degree_of m (length_at lengths i) (shift_at shifts) ≡ Some r
      → nat_abs r + nat_abs (to_z w32 (of_z w32 (shift_at shifts j))) < 2 ^ 31
  unfolding most_length most_shift
  difference_small m i j r e = omega (arith, row_degree_size lengths shifts sized m i r e, ap nat_abs (shift_back j), sized.shift_most j)
