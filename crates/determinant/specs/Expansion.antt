-- The determinant of a square by expansion along its first row, as the arrays have it.
--   terms p entries row columns n     the signed products of the first row's entries and the determinants of the squares left, of size n
--   total p entries row columns n j   the sum of the first j of them
--   Expanded                    the sums hold that, and it has no power above the row's bound
use Rattle.std.specs.Prelude.{◌≡◌, List, length, get_or, replicate}
use Rattle.std.proofs.Common.{sym, ◌∙◌, mod-lt, add-one, arith}
use Rattle.std.proofs.Math.Path.{ap, ap₂, subst}
use Prim.Native.Nat.{ℕ, zero, suc, pred, ◌+◌, ◌≤◌, ◌<◌}
use Rattle.algebra.specs.Ring as Ring
use Rattle.algebra.specs.Ring.{CommRing, sign}
use Rattle.algebra.specs.Sum.{sum, sum_last, skip, skip_below}
use Rattle.algebra.specs.Residue.{K, Residue, red, red_mod}
use Rattle.algebra.specs.Series.{series_ext, convolve}
use Rattle.algebra.proofs.Series.{Series}
use Rattle.algebra.specs.Polynomial.{Below, below_mono}
use Rattle.algebra.proofs.Polynomial.{below_zero, below_add, below_mul_suc}
use Rattle.algebra.specs.Matrix.{Matrix}
use Rattle.algebra.specs.Det.{det, minor, det_local}
use Rattle.rules.specs.Sizes.{most_rows}
use Rattle.field.specs.declared.Modulus.{Modulus}
use Rattle.field.specs.Modulus.{Made}
use Rattle.layout.specs.Flat.{length_at, cell, cells}
use Rattle.polynomial.specs.Coefficients.{most_power}
use Rattle.convolution.specs.Padded.{Stands, Filled, Remainder, filled_small, filled_stands, get_or_zeros, capacity}
use Rattle.convolution.specs.Steps.{with_product}
use Rattle.convolution.specs.Product.{AddedProduct, added_product}
use Rattle.determinant.specs.Sign.{signed, SignedEntry}
use Rattle.determinant.specs.Tops.{Tops}
use Rattle.determinant.specs.Square.{Holds, Asked, Determinant, square, Without}

-- A sign in front of a series is that sign in front of each coefficient.
sign_series : (R : CommRing) (j : ℕ) (h : ℕ → R.C) (k : ℕ) → (Series R).◌⊗◌ (sign (Series R) j) h k ≡ R.◌⊗◌ (sign R j) (h k)
unfolding sign
sign_series R zero h k = ap (λ s. s k) (Ring.one_mul (Series R) h) ∙ sym (Ring.one_mul R (h k))
sign_series R (suc j) h k =
    ap (λ s. s k) (Ring.neg_mul (Series R) (sign (Series R) j) h) ∙ ap (λ x. R.⊖◌ x) (sign_series R j h k) ∙ sym (Ring.neg_mul R (sign R j) (h k))

-- The determinant of one number.
det_one : (R : CommRing) (A : Matrix R) → det R 1 A ≡ A zero zero
unfolding det sum sign
det_one R A = R.add_zero _ ∙ R.mul_one _ ∙ Ring.one_mul R (A zero zero)

-- The ring of the polynomials modulo p.
abbrev pub Polynomials : ℕ → CommRing
Polynomials p = Series (K p)

-- The signed products of the first row's entries and the determinants of the squares that are left.
abbrev pub terms : (p : ℕ) (entries : List ℕ) (row : ℕ) (columns : List ℕ) (n : ℕ) → ℕ → ℕ → Residue p
terms p entries row columns n j =
    (Polynomials p).◌⊗◌ ((Polynomials p).◌⊗◌ (sign (Polynomials p) j) (square p entries row columns zero j)) (det (Polynomials p) n (minor zero j (square p entries row columns)))

-- The sum of the first j of them.
abbrev pub total : (p : ℕ) (entries : List ℕ) (row : ℕ) (columns : List ℕ) (n : ℕ) → ℕ → ℕ → Residue p
total p entries row columns n j = sum (Polynomials p) j (terms p entries row columns n)

pub record Expanded (p row n j : ℕ) (entries tops columns s : List ℕ) : Type 0 where
  pub value : (i : ℕ) → red p (get_or s i 0) ≡ total p entries row columns n j i
  pub below : Below (K p) (suc (get_or tops row 0)) (total p entries row columns n j)

-- Nothing has been added to sums that are 0.
pub expanded_none : (p row n : ℕ) (entries tops columns : List ℕ) → Expanded p row n 0 entries tops columns (replicate capacity 0)
unfolding sum
expanded_none p row n entries tops columns = record { value = λ i. ap (red p) (get_or_zeros capacity i); below = below_zero (K p) (suc (get_or tops row 0)) }

module _ {μ : Modulus} {n row : ℕ} {entries lengths tops columns : List ℕ} (asked : Asked μ (suc n) row entries lengths tops columns) where
  abbrev p : ℕ
  p = μ.p

  few : row + suc n ≤ most_rows
  few = asked.holds.few_rows

  -- The j-th entry of the first row, with its length and what holds of them.
  entry_zeros : (j : ℕ) → j < suc n → (k : ℕ) → length_at lengths row (get_or columns j 0) ≤ k → cell entries row (get_or columns j 0) k ≡ 0
  entry_zeros j h k le = asked.holds.padded.past_length row (get_or columns j 0) k (omega arith) (asked.within j h) le

  first_row : (j k : ℕ) → square p entries row columns zero j k ≡ cells p entries row (get_or columns j 0) k
  first_row j k = ap (λ i. red p (cell entries i (get_or columns j 0) k)) (omega arith)

  signed_term : (j : ℕ) → signed p entries row (get_or columns j 0) j ≡ (Polynomials p).◌⊗◌ (sign (Polynomials p) j) (square p entries row columns zero j)
  signed_term j = series_ext (K p) (λ k. sym (sign_series (K p) j (square p entries row columns zero j) k ∙ ap (λ x. (K p).◌⊗◌ (sign (K p) j) x) (first_row j k)))

  -- What is asked for the square that is left.
  pub asked_left : {j : ℕ} (left : List ℕ) → j < suc n → 1 ≤ n → Without j columns left → Asked μ n (row + 1) entries lengths tops left
  asked_left {j} left h some without =
      let rows : row + suc n ≡ row + 1 + n = omega arith in record {
        holds = subst (λ m. Holds p m entries lengths) rows asked.holds;
        bounded = subst (λ m. Tops m lengths tops) rows asked.bounded;
        made = asked.made;
        some = some;
        within = λ k b. omega (arith, without k (omega arith), asked.within (skip j k) (skip_below n j k b));
      }

  minor_left : (j : ℕ) (left : List ℕ) → Without j columns left
      → det (Polynomials p) n (square p entries (row + 1) left) ≡ det (Polynomials p) n (minor zero j (square p entries row columns))
  unfolding skip
  minor_left j left without =
      det_local (Polynomials p) n (square p entries (row + 1) left) (minor zero j (square p entries row columns))
      (λ r k hr hk. ap₂ (λ i l. cells p entries i l) (omega arith) (without k (omega arith)))

  -- The sum of one term more.
  more_terms : (j : ℕ) → total p entries row columns n (j + 1) ≡ (Polynomials p).◌⊕◌ (total p entries row columns n j) (terms p entries row columns n j)
  more_terms j = ap (total p entries row columns n) (add-one j) ∙ sum_last (Polynomials p) j (terms p entries row columns n)

  -- A term whose entry has length 0 is 0: the sums stay as they are.
  pub expanded_zero : {j : ℕ} {s : List ℕ} → j < suc n → length_at lengths row (get_or columns j 0) ≡ 0
      → Expanded p row n j entries tops columns s → Expanded p row n (j + 1) entries tops columns s
  expanded_zero {j} h empty done = record {
    value = λ i. done.value i ∙ ap (λ f. f i) (sym same);
    below = subst (Below (K p) (suc (get_or tops row 0))) (sym same) done.below;
  }
    where
      zeros : square p entries row columns zero j ≡ (Polynomials p).𝟘
      zeros = series_ext (K p) (λ k. first_row j k ∙ ap (red p) (entry_zeros j h k (omega arith)))

      same : total p entries row columns n (j + 1) ≡ total p entries row columns n j
      same =
          more_terms j
          ∙ ap (λ x. (Polynomials p).◌⊕◌ (total p entries row columns n j) x)
          (ap (λ x. (Polynomials p).◌⊗◌ x (det (Polynomials p) n (minor zero j (square p entries row columns))))
          (ap (λ x. (Polynomials p).◌⊗◌ (sign (Polynomials p) j) x) zeros ∙ Ring.mul_zero (Polynomials p) (sign (Polynomials p) j))
          ∙ Ring.zero_mul (Polynomials p) (det (Polynomials p) n (minor zero j (square p entries row columns))))
          ∙ (Polynomials p).add_zero (total p entries row columns n j)

  -- The entry with its sign has no power from its length on.
  signed_below : (j k : ℕ) → j < suc n → length_at lengths row (get_or columns j 0) ≤ k → signed p entries row (get_or columns j 0) j k ≡ (K p).𝟘
  signed_below j k h le = ap (λ x. (K p).◌⊗◌ (sign (K p) j) (red p x)) (entry_zeros j h k le) ∙ Ring.mul_zero (K p) (sign (K p) j)

  -- The power of the entry and that of the square that is left stay below the bound.
  top_step : (j n' : ℕ) → j < suc n → length_at lengths row (get_or columns j 0) ≡ n' → pred n' + get_or tops (row + 1) 0 ≤ get_or tops row 0
  top_step j n' h has =
      subst (λ x. pred x + get_or tops (row + 1) 0 ≤ get_or tops row 0) has
      (subst (λ i. pred (length_at lengths row (get_or columns j 0)) + get_or tops i 0 ≤ get_or tops row 0) (sym (add-one row))
      (asked.bounded.step row (get_or columns j 0) (omega arith) (asked.within j h)))

  -- The product fits the array.
  pub product_fits : {j n' : ℕ} → j < suc n → length_at lengths row (get_or columns j 0) ≡ n' → n' + get_or tops (row + 1) 0 ≤ most_power + 1
  product_fits {j} {n'} h has = omega (arith, top_step j n' h has, asked.bounded.high row, asked.bounded.high (row + 1))

  -- Where the product of the entry with its sign and the determinant of the square that is left is added, the sums have one term more.
  pub expanded_more : {j n' : ℕ} {e l s s' : List ℕ} (left : List ℕ) → j < suc n → length_at lengths row (get_or columns j 0) ≡ n' → 0 < n'
      → Without j columns left → Determinant p n (row + 1) entries tops left l → SignedEntry p row (get_or columns j 0) n' j entries e
      → length s ≡ capacity → s' ≡ with_product μ n' (get_or tops (row + 1) 0) e l s → Expanded p row n j entries tops columns s
      → (length s' ≡ capacity) × Expanded p row n (j + 1) entries tops columns s'
  expanded_more {j} {n'} {e} {l} {s} {s'} left h has pos without minor_is entry long is done = (
    added.long,
    record {
      value = λ i.
          added.same f g (entry.stands zeros) below_f minor_is.stands minor_is.below i
          ∙ ap₂ (λ x t. (K p).◌⊕◌ x (t i)) (done.value i) same
          ∙ ap (λ t. t i) (sym (more_terms j));
      below =
          subst (Below (K p) (suc (get_or tops row 0))) (sym (more_terms j))
          (below_add (K p) (total p entries row columns n j) (terms p entries row columns n j) done.below (subst (Below (K p) (suc (get_or tops row 0))) same below_term));
    },
  )
    where
      added : AddedProduct p n' (get_or tops (row + 1) 0) e l s s'
      added = subst (AddedProduct p n' (get_or tops (row + 1) 0) e l s) (sym is) (added_product asked.made (product_fits h has) long)

      f : ℕ → Residue p
      f = signed p entries row (get_or columns j 0) j

      g : ℕ → Residue p
      g = det (Polynomials p) n (square p entries (row + 1) left)

      zeros : (k : ℕ) → n' ≤ k → cell entries row (get_or columns j 0) k ≡ 0
      zeros k le = entry_zeros j h k (omega arith)

      below_f : Below (K p) n' f
      below_f k le = signed_below j k h (omega arith)

      below_term : Below (K p) (suc (get_or tops row 0)) (convolve (K p) f g)
      below_term =
          below_mono (K p) (convolve (K p) f g) (omega (arith, top_step j n' h has))
          (below_mul_suc (K p) {d = pred n'} {e = get_or tops (row + 1) 0} f g (below_mono (K p) f (omega arith) below_f) minor_is.below)

      same : convolve (K p) f g ≡ terms p entries row columns n j
      same = ap₂ (λ x y. convolve (K p) x y) (signed_term j) (minor_left j left without)

  -- All terms make the determinant.
  pub expanded_all : {s l : List ℕ} → Expanded p row n (suc n) entries tops columns s → Filled (get_or tops row 0 + 1) (Remainder p s) l
      → Determinant p (suc n) row entries tops columns l
  unfolding det
  expanded_all {s} done filled = record {
    stands =
        filled_stands (Remainder p s) p D (λ k x e. ap (red p) e ∙ red_mod p (get_or s k 0) ∙ done.value k)
        (below_mono (K p) D (omega arith) done.below) filled;
    below = done.below;
    small = filled_small (Remainder p s) p positive (λ k x e. subst (λ y. y < p) (sym e) (mod-lt (get_or s k 0) positive)) filled;
  }
    where
      D : ℕ → Residue p
      D = total p entries row columns n (suc n)

      positive : 0 < p
      positive = omega (arith, asked.holds.two_le)

-- The determinant of a square of size 1 is its entry.
pub determinant_one : {μ : Modulus} {row : ℕ} {entries lengths tops columns l : List ℕ} → Asked μ 1 row entries lengths tops columns
    → SignedEntry μ.p row (get_or columns 0 0) (length_at lengths row (get_or columns 0 0)) 0 entries l → Determinant μ.p 1 row entries tops columns l
unfolding sign
determinant_one {μ} {row} {entries} {lengths} {tops} {columns} {l} asked entry = record {
  stands = subst (Stands μ.p l) is_entry (entry.stands zeros);
  below = subst (Below (K μ.p) (suc (get_or tops row 0))) is_entry
      (λ k le. signed_below asked 0 k (omega arith) (omega (arith, asked.bounded.step row (get_or columns 0 0) (omega arith) (asked.within 0 (omega arith)))));
  small = entry.small;
}
  where
    zeros : (k : ℕ) → length_at lengths row (get_or columns 0 0) ≤ k → cell entries row (get_or columns 0 0) k ≡ 0
    zeros = entry_zeros asked 0 (omega arith)

    p : ℕ
    p = μ.p

    is_entry : signed p entries row (get_or columns 0 0) 0 ≡ det (Polynomials p) 1 (square p entries row columns)
    is_entry = signed_term asked 0 ∙ Ring.one_mul (Polynomials p) (square p entries row columns zero zero) ∙ sym (det_one (Polynomials p) (square p entries row columns))

-- Every column, in order.
abbrev pub InOrder : List ℕ → Type 0
InOrder columns = (j : ℕ) → j < most_rows → get_or columns j 0 ≡ j

-- What is asked of the whole matrix.
pub asked_whole : {μ : Modulus} {m : ℕ} {entries lengths tops : List ℕ} (columns : List ℕ) → Made μ → Holds μ.p m entries lengths → Tops m lengths tops
    → InOrder columns → Asked μ m 0 entries lengths tops columns
asked_whole {μ} {m} {entries} {lengths} {tops} columns made holds bounded ordered =
    let whole : m ≡ 0 + m = omega arith in record {
      holds = subst (λ n. Holds μ.p n entries lengths) whole holds;
      bounded = subst (λ n. Tops n lengths tops) whole bounded;
      made = made;
      some = holds.some_row;
      within = λ j h. omega (arith, ordered j (omega (arith, holds.few_rows)));
    }

-- The square of all rows and columns is the matrix.
pub whole_square : (p m : ℕ) (entries columns : List ℕ) → m ≤ most_rows → InOrder columns
    → det (Polynomials p) m (square p entries 0 columns) ≡ det (Polynomials p) m (cells p entries)
whole_square p m entries columns few ordered =
    det_local (Polynomials p) m (square p entries 0 columns) (cells p entries) (λ i j hi hj. ap₂ (λ x y. cells p entries x y) (omega arith) (ordered j (omega arith)))
