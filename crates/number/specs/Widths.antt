-- Numbers of one, two and four bytes.
--   Width                    the widths of fields
--   number_of_1, -2, -4      the number of one, two or four bytes
use Rattle.std.specs.Prelude.{◌≡◌, ◌⊎◌, List, ℕ, ◌+◌, ◌*◌, get_or}
use Rattle.std.proofs.Common.{arith}
use Rattle.rules.specs.Reader.{number_at}

-- The widths of fields.
abbrev pub Width : ℕ → Type 0
Width k = (k ≡ 1) ⊎ ((k ≡ 2) ⊎ (k ≡ 4))

pub number_of_1 : (s : List ℕ) (at : ℕ) → number_at 1 s at ≡ get_or s at 0
unfolding number_at
number_of_1 s at = omega arith

pub number_of_2 : (s : List ℕ) (at : ℕ) → number_at 2 s at ≡ get_or s at 0 + 256 * get_or s (at + 1) 0
unfolding number_at
number_of_2 s at = omega arith

pub number_of_4 : (s : List ℕ) (at : ℕ) → number_at 4 s at ≡ get_or s at 0 + 256 * (get_or s (at + 1) 0 + 256 * (get_or s (at + 2) 0 + 256 * get_or s (at + 3) 0))
unfolding number_at
number_of_4 s at =
    let two : at + 1 + 1 ≡ at + 2 = omega arith in
    let three : at + 1 + 1 + 1 ≡ at + 3 = omega arith in
    rw (three, two) (omega arith)
