-- A polynomial modulo p by its coefficients: the numbers below p that stand for them, from power 0 on, then zeros.
--   most_power, most_coefficients    the highest power in a determinant, and how many coefficients there are room for
--   ZerosFrom g n            the coefficients are 0 from n on
--   Ends g n                 n is the length of the polynomial: its last coefficient is not 0, and everything past it is
--   Trimmed x                x has that length
--   Coefficients p f x       x has the coefficients of f
--   ends_unique              a polynomial has one length
--   coefficients_unique      a polynomial's coefficients are settled by it
use Rattle.std.specs.Prelude.{◌≡◌, ◌≢◌, ℕ, suc, pred, ◌+◌, ◌-◌, ◌*◌, ◌≤◌, length, get_or}
use Rattle.std.proofs.Common.{sym, ap, subst, ◌∙◌, mod-eq_of_lt, arith, ext_get_or}
use Rattle.std.proofs.Math.Decide.{dec_lt}
use Rattle.algebra.specs.Residue.{Residue, red_eq}
use Rattle.rules.specs.Sizes.{most_rows, most_length}
use Rattle.rules.specs.Matrices.{polynomial}
use Rattle.layout.specs.Holds.{Each}
use Rattle.polynomial.specs.declared.Polynomial.{Polynomial}

-- Each of the rows contributes one entry, whose powers are below most_length.
unfoldable pub most_power : ℕ
most_power = most_rows * (most_length - 1)

abbrev pub most_coefficients : ℕ
most_coefficients = 1 + most_power

-- There is room for n coefficients, and from there on all are 0.
pub record ZerosFrom (g : ℕ → ℕ) (n : ℕ) : Type 0 where
  pub room : n ≤ most_coefficients
  pub past : (k : ℕ) → n ≤ k → g k ≡ 0

-- … and the last before them is not.
pub record Ends (g : ℕ → ℕ) (n : ℕ) : Type 0 where
  pub zeros : ZerosFrom g n
  pub last : (k : ℕ) → suc k ≡ n → g k ≢ 0

-- The polynomial's length is that of its coefficients.
abbrev pub Trimmed : Polynomial → Type 0
Trimmed x = Ends (λ k. get_or x.coefficients k 0) x.length

-- The numbers below p that stand for the coefficients of f.
pub record Coefficients (p : ℕ) (f : ℕ → Residue p) (x : Polynomial) : Type 0 where
  pub long : length x.coefficients ≡ most_coefficients
  pub small : Each p x.coefficients
  pub same : (polynomial p x.coefficients).series ≡ f
  pub trimmed : Trimmed x

-- A last coefficient of 0 counts among the zeros …
pub one_zero_more : {g : ℕ → ℕ} {n : ℕ} → g (n - 1) ≡ 0 → ZerosFrom g n → ZerosFrom g (n - 1)
one_zero_more {g} {n} e zeros = record {
  room = omega (arith, zeros.room);
  past = λ k h. elim (dec_lt k n) [ yes b ↦ ap g (omega arith) ∙ e | no b ↦ zeros.past k (omega arith) ];
}

-- … another ends the polynomial …
pub ends_there : {g : ℕ → ℕ} {n : ℕ} → g (n - 1) ≢ 0 → ZerosFrom g n → Ends g n
ends_there {g} {n} ne zeros = record { zeros = zeros; last = λ k e z. ne (ap g (omega arith) ∙ z) }

-- … and where all are 0 there is none.
pub ends_nowhere : {g : ℕ → ℕ} → ZerosFrom g 0 → Ends g 0
ends_nowhere zeros = record { zeros = zeros; last = λ k e. absurd (omega arith) }

-- A polynomial is no longer than its length …
no_longer : (g : ℕ → ℕ) (n n' : ℕ) → Ends g n → Ends g n' → n ≤ n'
no_longer g n n' e e' = elim (dec_lt n' n) [
  | yes h ↦ absurd (e.last (pred n) (omega arith) (e'.zeros.past (pred n) (omega arith)))
  | no h ↦ omega arith
]

-- … so that it has one.
pub ends_unique : (g : ℕ → ℕ) (n n' : ℕ) → Ends g n → Ends g n' → n ≡ n'
ends_unique g n n' e e' = omega (arith, no_longer g n n' e e', no_longer g n' n e' e)

-- The polynomial settles its coefficients and their number.
pub coefficients_unique : (p : ℕ) (f : ℕ → Residue p) (x x' : Polynomial) → Coefficients p f x → Coefficients p f x' → x ≡ x'
coefficients_unique p f x x' h h' i = record { coefficients = numbers i; length = lengths i }
  where
    number : (k : ℕ) → get_or x.coefficients k 0 ≡ get_or x'.coefficients k 0
    number k =
        sym (mod-eq_of_lt (h.small k))
        ∙ (red_eq p (omega (arith, h.small k)) (get_or x.coefficients k 0) (get_or x'.coefficients k 0)).0 (ap (λ g. g k) (h.same ∙ sym h'.same))
        ∙ mod-eq_of_lt (h'.small k)

    numbers : x.coefficients ≡ x'.coefficients
    numbers = ext_get_or 0 x.coefficients x'.coefficients (h.long ∙ sym h'.long) (λ k b. number k)

    lengths : x.length ≡ x'.length
    lengths = ends_unique (λ k. get_or x'.coefficients k 0) x.length x'.length (subst (λ l. Ends (λ k. get_or l k 0) x.length) numbers h.trimmed)
        h'.trimmed
