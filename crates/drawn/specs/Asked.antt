-- What is asked of a claim in arrays and of the numbers drawn.
--   Arrays head f entries c            document 01's ranges
--   Asked head f entries c u point     … and numbers drawn below p
--   ArraysIn b a, AskedIn b a u point  the same of the code's structs, whole
--   Largest n orders d                 no order of the first n columns is above d, which is no larger than document 01 allows
use Rattle.std.specs.Prelude.{List, ℕ, ◌≤◌, ◌<◌, get_or}
use Rattle.rules.specs.Sizes.{most_order}
use Rattle.layout.specs.Holds.{Each}
use Rattle.claim.specs.declared.Head.{Head}
use Rattle.claim.specs.declared.Problem.{Problem}
use Rattle.claim.specs.declared.Answer.{Answer}
use Rattle.claim.specs.Sound.{SoundHead, SoundColumns}
use Rattle.drawn.specs.Sums.{FirstBelow}

-- The arrays of a claim, without the lengths of P's entries, which are not read.
pub record Arrays (head : Head) (f entries c : List ℕ) : Type 0 where
  pub sound_head : SoundHead head
  pub sound_columns : SoundColumns head f
  pub P_below : Each head.p entries
  pub C_below : Each head.p c

-- And the numbers drawn: of u, the first m alone.
pub record Asked (head : Head) (f entries c u : List ℕ) (point : ℕ) : Type 0 where
  pub arrays : Arrays head f entries c
  pub u_below : FirstBelow head.m head.p u
  pub point_below : point < head.p

-- The same of the code's structs.
abbrev pub ArraysIn : Problem → Answer → Type 0
ArraysIn b a = Arrays b.head b.f a.basis.entries a.c

abbrev pub AskedIn : Problem → Answer → List ℕ → ℕ → Type 0
AskedIn b a u point = Asked b.head b.f a.basis.entries a.c u point

pub record Largest (n : ℕ) (orders : List ℕ) (d : ℕ) : Type 0 where
  pub most : d ≤ most_order
  pub above : (j : ℕ) → j < n → get_or orders j 0 ≤ d
