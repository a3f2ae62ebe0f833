-- An entry with the sign of its column, p − x in the place of x in every other column.
--   Signed p j x r           r is x with the sign (−1)^j modulo p
--   signed p entries row column j  the entry with that sign, as a polynomial
--   SignedEntry              an array that stands for it
use Rattle.std.specs.Prelude.{◌≡◌, ◌≢◌, List, get_or}
use Rattle.std.proofs.Math.Path.{refl}
use Rattle.std.proofs.Common.{sym, ap, ◌∙◌, le_of_lt, arith}
use Prim.Native.Nat.{ℕ, zero, suc, ◌-◌, ◌%◌, ◌≤◌, ◌<◌}
use Rattle.algebra.specs.Ring as Ring
use Rattle.algebra.specs.Ring.{CommRing, sign}
use Rattle.algebra.specs.Residue.{K, Residue, red}
use Rattle.rules.specs.Sizes.{most_length}
use Rattle.field.specs.Laws.{remainder_below, red_of_neg}
use Rattle.layout.specs.Flat.{cell, cells, entry_place, cell_at}
use Rattle.layout.specs.Holds.{Each}
use Rattle.convolution.specs.Padded.{Stands, Filled, filled_small, filled_stands}

-- r is below p and is x with the sign of column j.
pub record Signed (p j x r : ℕ) : Type 0 where
  pub small : r < p
  pub same : red p r ≡ (K p).◌⊗◌ (sign (K p) j) (red p x)

-- The entry with the sign of column j.
abbrev pub signed : (p : ℕ) → List ℕ → (row column j : ℕ) → ℕ → Residue p
signed p entries row column j k = (K p).◌⊗◌ (sign (K p) j) (cells p entries row column k)

-- The array l stands for the entry with the sign of column j, if the entry has no power from n on.
pub record SignedEntry (p row column n j : ℕ) (entries l : List ℕ) : Type 0 where
  pub small : Each p l
  pub stands : ((k : ℕ) → n ≤ k → cell entries row column k ≡ 0) → Stands p l (signed p entries row column j)

module _ (R : CommRing) where
  open R use {𝟙, ⊖◌}

  infix 80 ⊖◌
  sign_even : (j : ℕ) → j % 2 ≡ 0 → sign R j ≡ 𝟙
  unfolding sign
  sign_even zero h = refl
  sign_even (suc zero) h = absurd (omega arith)
  sign_even (suc (suc j)) h = Ring.neg_neg R (sign R j) ∙ sign_even j (omega arith)

  sign_odd : (j : ℕ) → j % 2 ≢ 0 → sign R j ≡ ⊖ 𝟙
  unfolding sign
  sign_odd zero h = absurd (h refl)
  sign_odd (suc zero) h = refl
  sign_odd (suc (suc j)) h = Ring.neg_neg R (sign R j) ∙ sign_odd j (λ e. h (omega arith))

-- In the even columns the sign changes nothing …
pub signed_even : {p j x : ℕ} → x < p → j % 2 ≡ 0 → Signed p j x x
signed_even {p} {j} {x} h e = record { small = h; same = sym (ap (λ u. (K p).◌⊗◌ u (red p x)) (sign_even (K p) j e) ∙ Ring.one_mul (K p) (red p x)) }

-- … and in the odd columns it makes the negative.
pub signed_odd : {p j x r : ℕ} → x < p → j % 2 ≢ 0 → r ≡ (p - x) % p → Signed p j x r
signed_odd {p} {j} {x} {r} h ne e = record {
  small = remainder_below p (p - x) r (omega arith) e;
  same =
      red_of_neg p x r (le_of_lt h) e
      ∙ sym (ap (λ u. (K p).◌⊗◌ u (red p x)) (sign_odd (K p) j ne) ∙ Ring.neg_mul (K p) (K p).𝟙 (red p x) ∙ ap (λ u. (K p).⊖◌ u) (Ring.one_mul (K p) (red p x)));
}

-- What the k-th number of a signed entry is.
abbrev pub SignedCell : (p row column j : ℕ) → List ℕ → ℕ → ℕ → Type 0
SignedCell p row column j entries k x = Signed p j (cell entries row column k) x

pub signed_cell : (p row column j : ℕ) (entries : List ℕ) {k x : ℕ} → k < most_length → Signed p j (get_or entries (entry_place row column k) 0) x
    → SignedCell p row column j entries k x
signed_cell p row column j entries {k} h s = rw (cell_at entries row column k h) s

pub signed_entry : (p row column n j : ℕ) (entries l : List ℕ) → 0 < p → Filled n (SignedCell p row column j entries) l → SignedEntry p row column n j entries l
signed_entry p row column n j entries l pos filled = record {
  small = filled_small (SignedCell p row column j entries) p pos (λ k x s. s.small) filled;
  stands = λ zeros. filled_stands (SignedCell p row column j entries) p (signed p entries row column j) (λ k x s. s.same)
      (λ k h. ap (λ y. (K p).◌⊗◌ (sign (K p) j) (red p y)) (zeros k h) ∙ Ring.mul_zero (K p) (sign (K p) j)) filled;
}
