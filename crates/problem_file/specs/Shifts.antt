-- One shift of the `SH` record, as the code reads it.
--   shift_off, shift_on      what reading it gives, stored
--   two_bytes                the number of two bytes
use Rattle.std.specs.Prelude.{◌≡◌, List, ℕ, ◌<◌, ℤ}
use Rattle.std.proofs.Common.{sym, ◌∙◌, arith}
use Rattle.std.proofs.Math.Path.{ap}
use Rattle.rules.specs.Reader.{Place, Refusal, Result, refused, got, next, field, unless}
use Rattle.rules.specs.Files.{shift_in_size, two's_complement, shift_reader}
use Rattle.laws.specs.ReaderLaws.{field_got}
use Rattle.laws.specs.ByteNumbers.{AllBytes, number_at_below}
use Rattle.storing.specs.Storing.{into}

module _ {B : Type 0} (g : ℤ → B) (s : List ℕ) (p : Place) where
  pub shift_off : {x : Refusal} → refused x ≡ field 2 (unless 3 shift_in_size) s p → into g (shift_reader s p) ≡ refused x
  unfolding into next
  shift_off e = ap (λ (m : Result ℕ). into g (next m (λ v q. got (two's_complement v) q))) (sym e)

  pub shift_on : {v : ℕ} {q : Place} {z : ℤ} → got v q ≡ field 2 (unless 3 shift_in_size) s p → z ≡ two's_complement v → into g (shift_reader s p) ≡ got (g z) q
  unfolding into next
  shift_on {q = q} e f =
      ap (λ (m : Result ℕ). into g (next m (λ v q. got (two's_complement v) q))) (sym e) ∙ ap (λ (z : ℤ). got (g z) q) (sym f)

-- Two bytes give a number below 65,536.
pub two_bytes : (test : ℕ → ℕ) (s : List ℕ) (p : Place) {v : ℕ} {q : Place} → AllBytes s → got v q ≡ field 2 test s p → v < 65_536
two_bytes test s p {v = v} bytes gave = omega (arith, ((field_got 2 test s p v _).0 (sym gave)).1, number_at_below 2 s p.at bytes)
