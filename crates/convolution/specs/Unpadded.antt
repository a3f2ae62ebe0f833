-- The coefficients of a polynomial in an array, without the zeros around them.
--   coefficient l k          the coefficient at power k
--   Unpadded l n x           x has the coefficients of l, and the length n
--   one_unpadded             there is one such x
--   work_zeros, unpadded_coefficients      what they are of the polynomial that l stands for
use Rattle.std.specs.Prelude.{◌≡◌, List, ℕ, suc, ◌+◌, ◌≤◌, ◌<◌, length, get_or}
use Rattle.std.proofs.Common.{sym, subst, ◌∙◌, mod-eq_of_lt, arith, ext_get_or}
use Rattle.std.proofs.Math.Path.{ap}
use Rattle.std.proofs.Math.Numerals.{add-two}
use Rattle.std.proofs.Math.Decide.{dec_lt}
use Rattle.std.proofs.Math.ListN.{get_or-eq_default}
use Rattle.algebra.specs.Residue.{K, Residue, red, red_zero_iff}
use Rattle.algebra.specs.Series.{shift, series_ext}
use Rattle.polynomial.specs.declared.Polynomial.{Polynomial}
use Rattle.polynomial.specs.Coefficients.{most_power, most_coefficients, ZerosFrom, Ends, Coefficients}
use Rattle.convolution.specs.Padded.{StandsFor}

-- Two zeros stand in front.
abbrev pub coefficient : List ℕ → ℕ → ℕ
coefficient l k = get_or l (k + 2) 0

pub record Unpadded (l : List ℕ) (n : ℕ) (x : Polynomial) : Type 0 where
  pub long : length x.coefficients ≡ most_coefficients
  pub same : (k : ℕ) → k < most_coefficients → get_or x.coefficients k 0 ≡ coefficient l k
  pub counts : x.length ≡ n

-- What it says settles x.
pub one_unpadded : {l : List ℕ} {n : ℕ} {x x' : Polynomial} → Unpadded l n x → Unpadded l n x' → x ≡ x'
one_unpadded {x = x} {x' = x'} h h' i = record { coefficients = numbers i; length = (h.counts ∙ sym h'.counts) i }
  where
    numbers : x.coefficients ≡ x'.coefficients
    numbers =
        ext_get_or 0 x.coefficients x'.coefficients (h.long ∙ sym h'.long)
        (λ k b. h.same k (omega (arith, h.long)) ∙ sym (h'.same k (omega (arith, h.long))))

module _ {p top : ℕ} {f : ℕ → Residue p} {l : List ℕ} (most : top ≤ most_power) (stands : StandsFor p top f l) where
  positive : 0 < p
  positive = omega (arith, stands.small 0)

  value : (k : ℕ) → red p (coefficient l k) ≡ f k
  unfolding shift
  value k = ap (λ i. red p (get_or l i 0)) (add-two k) ∙ stands.stands (suc (suc k))

  -- There are none above the bound …
  above : (k : ℕ) → top < k → coefficient l k ≡ 0
  above k h = sym (mod-eq_of_lt (stands.small (k + 2))) ∙ (red_zero_iff p positive (coefficient l k)).0 (value k ∙ stands.below k h)

  pub work_zeros : ZerosFrom (coefficient l) (top + 1)
  work_zeros = record { room = omega arith; past = λ k h. above k (omega arith) }

  -- … and the others stand in front.
  pub unpadded_coefficients : {n : ℕ} {x : Polynomial} → Ends (coefficient l) n → Unpadded l n x → Coefficients p f x
  unpadded_coefficients {n} {x} ends unpadded = record {
    long = unpadded.long;
    small = λ k. subst (λ y. y < p) (sym (all k)) (stands.small (k + 2));
    same = series_ext (K p) (λ k. ap (red p) (all k) ∙ value k);
    trimmed = record {
      zeros = record { room = omega (arith, ends.zeros.room, unpadded.counts); past = λ k h. all k ∙ ends.zeros.past k (omega (arith, unpadded.counts)) };
      last = λ k e z. ends.last k (e ∙ unpadded.counts) (sym (all k) ∙ z);
    };
  }
    where
      all : (k : ℕ) → get_or x.coefficients k 0 ≡ coefficient l k
      all k = elim (dec_lt k most_coefficients) [
        | yes h ↦ unpadded.same k h
        | no h ↦ get_or-eq_default x.coefficients 0 (omega (arith, unpadded.long)) ∙ sym (above k (omega arith))
      ]
