-- The numbers of a file's fields, and the bytes by which they are written.
--   AllBytes s               every member of s is a byte
--   number_at_below, number_at_bytes, bytes_number_at, length_bytes      a number of k bytes read, written, and read again
--   two's_complement_unsigned, unsigned_two's_complement a shift written and read, read and written
use Rattle.std.specs.Prelude.{◌≡◌, refl, List, [], ◌∷◌, ◌++◌, ℕ, zero, suc, ◌+◌, ◌-◌, ◌*◌, ◌/◌, ◌%◌, ◌^◌, ◌≤◌, ◌<◌, ltb, ℤ, pos, negsuc, nat_abs, ◌-ℤ◌, length, get_or, take, drop}
use Rattle.std.proofs.Common.{sym, ap, ap₂, ◌∙◌, append_assoc, pow-suc, add-one, arith, ltb→lt, nltb→le, length-append, drop-cons}
use Rattle.std.proofs.Math.Nat.{mod-one, one-le-pow}
use Rattle.std.proofs.Math.Arith.{mod-mul}
use Rattle.std.proofs.Math.Seq.{append_snoc, get_or-append_seam}
use Rattle.rules.specs.Reader.{number_at}
use Rattle.rules.specs.Sizes.{most_shift}
use Rattle.rules.specs.Files.{two's_complement}
use Rattle.rules.specs.Writer.{bytes, unsigned}
use Rattle.laws.specs.BoolLaws.{cond_cases}

-- Every member is a byte.
abbrev pub AllBytes : List ℕ → Type 0
AllBytes s = (i : ℕ) → get_or s i 0 < 256

-- Of bytes, a number of k of them is below 256 ^ k.
pub number_at_below : (k : ℕ) (s : List ℕ) (at : ℕ) → AllBytes s → number_at k s at < 256 ^ k
unfolding number_at
number_at_below zero s at h = omega arith
number_at_below (suc k) s at h = omega (arith, h at, number_at_below k s (at + 1) h)

-- What is written as k bytes is read as the remainder by 256 ^ k.
pub number_at_bytes : (k v : ℕ) (before behind : List ℕ) → number_at k (before ++ bytes k v ++ behind) (length before) ≡ v % 256 ^ k
unfolding number_at bytes
number_at_bytes zero v before behind = sym (mod-one v)
number_at_bytes (suc k) v before behind =
    ap₂ (λ x y. x + 256 * y)
    (ap (λ l. get_or l (length before) 0) (append_assoc before (v % 256 ∷ bytes k (v / 256)) behind)
    ∙ get_or-append_seam before (v % 256) (bytes k (v / 256) ++ behind) 0)
    (ap₂ (λ l n. number_at k (l ++ behind) n) (sym (append_snoc before (v % 256) (bytes k (v / 256)))) (sym (length-append before (v % 256 ∷ [])))
    ∙ number_at_bytes k (v / 256) (before ++ v % 256 ∷ []) behind)
    ∙ sym (ap (λ n. v % n) (pow-suc 256 k) ∙ mod-mul v (one-le-pow k 256 (omega arith)) (omega arith) ∙ (omega arith))

-- The k bytes of the number that k bytes make are those bytes.
pub bytes_number_at : (k : ℕ) (s : List ℕ) (at : ℕ) → AllBytes s → at + k ≤ length s → bytes k (number_at k s at) ≡ take k (drop at s)
unfolding number_at bytes
bytes_number_at zero s at h le = refl
bytes_number_at (suc k) s at h le =
    ap₂ (λ x y. x ∷ bytes k y) (omega (arith, h at)) (omega (arith, h at))
    ∙ ap (λ l. get_or s at 0 ∷ l) (bytes_number_at k s (at + 1) h (omega arith) ∙ ap (λ n. take k (drop n s)) (add-one at))
    ∙ ap (take (suc k)) (sym (drop-cons s at 0 (omega arith)))

-- They are k.
pub length_bytes : (k v : ℕ) → length (bytes k v) ≡ k
unfolding bytes
length_bytes zero v = refl
length_bytes (suc k) v = ap suc (length_bytes k (v / 256))

-- A shift within its size is two bytes, and they are read as that shift.
pub two's_complement_unsigned : (z : ℤ) → nat_abs z ≤ most_shift → (two's_complement (unsigned z) ≡ z) × (unsigned z < 65_536)
unfolding two's_complement unsigned most_shift
two's_complement_unsigned (pos v) h = (
  cond_cases (ltb v 32_768) (pos v) (pos v -ℤ pos 65_536) (λ z. z ≡ pos v) (λ t. refl) (λ t. absurd (omega (arith, nltb→le v 32_768 t))),
  omega arith,
)
two's_complement_unsigned (negsuc v) h = (
  cond_cases (ltb (65_535 - v) 32_768) (pos (65_535 - v)) (pos (65_535 - v) -ℤ pos 65_536) (λ z. z ≡ negsuc v)
      (λ t. absurd (omega (arith, ltb→lt (65_535 - v) 32_768 t)))
      (λ t. cond_cases (ltb (65_535 - v) 65_536) (negsuc (65_536 - suc (65_535 - v))) (pos (65_535 - v - 65_536)) (λ z. z ≡ negsuc v)
      (λ u. ap negsuc (omega arith)) (λ u. absurd (omega (arith, nltb→le (65_535 - v) 65_536 u)))),
  omega arith,
)

-- Two bytes that are read as a shift are those by which it is written.
pub unsigned_two's_complement : (v : ℕ) → v < 65_536 → unsigned (two's_complement v) ≡ v
unfolding two's_complement unsigned
unsigned_two's_complement v h = cond_cases (ltb v 32_768) (pos v) (pos v -ℤ pos 65_536) (λ z. unsigned z ≡ v)
    (λ t. refl)
    (λ t. cond_cases (ltb v 65_536) (negsuc (65_536 - suc v)) (pos (v - 65_536)) (λ z. unsigned z ≡ v) (λ u. omega arith)
    (λ u. absurd (omega (arith, nltb→le v 65_536 u))))
