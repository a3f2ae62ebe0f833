-- What holds of the width of a field and of the bytes that are left. No proof cites it now; it stands because it was stated.
--   width_four               a width that is neither 1 nor 2
--   enough_past              whether so many bytes are there
use Rattle.std.specs.Prelude.{◌≡◌, refl, ◌⊎◌, Bool, true, false, ℕ, ◌+◌, ◌-◌, ◌≤◌, leb}
use Rattle.std.proofs.Common.{⊎_elim, arith, le-leb, leb-true, leb-false}
use Rattle.std.proofs.lemmas.Bool.{lt-leb}
use Rattle.number.specs.Widths.{Width}

-- A width that is neither 1 nor 2 is 4.
pub width_four : (k : ℕ) → Width k → (k ≡ 1 → ⊥) → (k ≡ 2 → ⊥) → k ≡ 4
width_four k w one two = ⊎_elim (λ e. absurd (one e)) (λ u. ⊎_elim (λ e. absurd (two e)) (λ e. e) u) w

-- k bytes are there after `at` exactly if the file reaches `at` + k.
pub enough_past : (k at n : ℕ) → at ≤ n → leb k (n - at) ≡ leb (at + k) n
enough_past k at n h = go (leb (at + k) n) refl
  where
    go : (b : Bool) → leb (at + k) n ≡ b → leb k (n - at) ≡ b
    go true e = le-leb k (n - at) (omega (arith, leb-true (at + k) n e))
    go false e = lt-leb k (n - at) (omega (arith, leb-false (at + k) n e))
