-- What the code asks of the arrays of a claim, each part of a part of it: document 01's ranges, and zeros where nothing stands. A last
-- coefficient other than 0, an order of at least 1 and a column at least are not asked for: no verdict needs them.
--   SoundHead, SoundColumns        of a problem: its numbers, and F
--   SoundBasis                     of P
--   Sound head f lengths entries c of a claim
--   SoundProblem b, SoundClaim b a       the same of the code's structs, whole
use Rattle.std.specs.Prelude.{◌≡◌, List, ℕ, ◌≤◌, ◌<◌, nat_abs, get_or}
use Rattle.algebra.specs.Prime.{Prime}
use Rattle.rules.specs.Sizes.{largest_prime, most_rows, most_shift}
use Rattle.layout.specs.Flat.{shift_at, column_cell}
use Rattle.layout.specs.Holds.{Each, Padded, Ordered}
use Rattle.claim.specs.declared.Head.{Head}
use Rattle.claim.specs.declared.Problem.{Problem}
use Rattle.claim.specs.declared.Answer.{Answer}

-- p is an allowed prime, and the sizes, the orders and the shifts are within theirs.
pub record SoundHead (head : Head) : Type 0 where
  pub prime : Prime head.p
  pub prime_most : head.p ≤ largest_prime
  pub rows_least : 1 ≤ head.m
  pub rows_most : head.m ≤ most_rows
  pub columns_most : head.n ≤ most_rows
  pub orders_most : Ordered head.orders
  pub shifts_most : (j : ℕ) → nat_abs (shift_at head.shifts j) ≤ most_shift

-- F's coefficients are below p, and 0 from each column's order on.
pub record SoundColumns (head : Head) (f : List ℕ) : Type 0 where
  pub F_below : Each head.p f
  pub F_ends : (i j k : ℕ) → i < head.m → j < head.n → get_or head.orders j 0 ≤ k → column_cell f i j k ≡ 0

-- P's coefficients are below p, no entry has too many, and past an entry's length there are zeros.
pub record SoundBasis (head : Head) (lengths entries : List ℕ) : Type 0 where
  pub P_below : Each head.p entries
  pub P_padded : Padded most_rows entries lengths

-- And C's numbers are below p.
pub record Sound (head : Head) (f lengths entries c : List ℕ) : Type 0 where
  pub sound_head : SoundHead head
  pub sound_columns : SoundColumns head f
  pub sound_basis : SoundBasis head lengths entries
  pub C_below : Each head.p c

-- The same of the code's structs: a problem, and a claim.
pub record SoundProblem (b : Problem) : Type 0 where
  pub sound_head : SoundHead b.head
  pub sound_columns : SoundColumns b.head b.f

abbrev pub SoundClaim : Problem → Answer → Type 0
SoundClaim b a = Sound b.head b.f a.basis.lengths a.basis.entries a.c
