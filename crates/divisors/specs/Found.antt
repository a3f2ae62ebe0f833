-- What a search for divisors answers.
--   Found                    true with a number that is such, false if none is
--   found_one, found_none    the two answers
--   found_unique             two answers to the same search are equal
--   block                    how many numbers a block of a table has
--   InBlock                  a place of a block whose number divides p
--   InTable                  a place of a table whose number divides p, in a block that starts with a number whose square is at most p
--   OddDivisor               an odd divisor of p from some number on, with a square of at most p
use Rattle.std.specs.Prelude.{◌≡◌, ℕ, ◌+◌, ◌*◌, ◌/◌, ◌%◌, ◌<◌, ◌≤◌, Bool, true, false, List, length, slice_index, slice_index_or, refl}
use Rattle.std.proofs.Common.{true≢false}
use Rattle.std.proofs.lemmas.Bool.{false≢true}
use Rattle.std.specs.Int.{◌∣◌}

-- The answer r is true, and some number is such; or it is false, and none is.
pub record Found (Such : ℕ → Type 0) (r : Bool) : Type 0 where
  pub some : r ≡ true → (i : ℕ) × Such i
  pub none : r ≡ false → (i : ℕ) → ¬ Such i

pub found_one : {Such : ℕ → Type 0} (i : ℕ) → Such i → Found Such true
found_one i h = record { some = λ e. (i, h); none = λ e. absurd (true≢false e) }

pub found_none : {Such : ℕ → Type 0} → ((i : ℕ) → ¬ Such i) → Found Such false
found_none h = record { some = λ e. absurd (false≢true e); none = λ e. h }

pub found_unique : {Such : ℕ → Type 0} (r s : Bool) → Found Such r → Found Such s → r ≡ s
found_unique true true f g = refl
found_unique true false f g = let (i, h) = f.some refl in absurd (g.none refl i h)
found_unique false true f g = let (i, h) = g.some refl in absurd (f.none refl i h)
found_unique false false f g = refl

-- The numbers of a block of a table.
abbrev pub block : ℕ
block = 64

-- The place i is in the block that starts at a, and its number divides p.
pub record InBlock (q : List ℕ) (a p i : ℕ) : Type 0 where
  pub start : a ≤ i
  pub end : i < a + block
  pub divides : slice_index_or q i 0 ∣ p

-- The first number of the block of place i.
abbrev pub first : List ℕ → ℕ → ℕ
first q i = slice_index q (i / block * block)

-- The place i is in the table, in a block that starts with a number whose square is at most p, and its number divides p.
pub record InTable (q : List ℕ) (p i : ℕ) : Type 0 where
  pub inside : i < length q
  pub square : first q i * first q i ≤ p
  pub divides : slice_index_or q i 0 ∣ p

-- d is odd, not below lo, its square is at most p, and it divides p.
pub record OddDivisor (lo p d : ℕ) : Type 0 where
  pub above : lo ≤ d
  pub odd : d % 2 ≡ 1
  pub square : d * d ≤ p
  pub divides : d ∣ p
