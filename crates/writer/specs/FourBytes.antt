-- The four bytes of a number are those of the rules' writer.
use Rattle.std.specs.Prelude.{◌≡◌, ℕ}
use Rattle.std.specs.Int.{w32, to_le_bytes}
use Rattle.std.proofs.Math.Nat.{div-div-eq-div-mul}
use Rattle.rules.specs.Writer.{bytes}

pub four_le_bytes : (v : ℕ) → bytes 4 v ≡ to_le_bytes w32 v
unfolding bytes
four_le_bytes v = simp div-div-eq-div-mul
