-- What holds of the part of a buffer that was loaded. No proof cites it now; it stands because it was stated.
use Rattle.std.specs.Prelude.{◌≡◌, List, ℕ, ◌≤◌, length, take}
use Rattle.std.proofs.Common.{sym, ◌∙◌, length-take}
use Rattle.std.proofs.Math.Nat.{min-eq_left}

-- The bytes loaded are as many as they are.
pub part_length : (n : ℕ) (l : List ℕ) → n ≤ length l → n ≡ length (take n l)
part_length n l h = sym (length-take n l ∙ min-eq_left h)
