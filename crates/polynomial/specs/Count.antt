-- How a count of the numbers other than 0 tells whether exactly one coefficient of a polynomial is not 0.
--   counted x                0 for 0 and 1 for every other number
--   nonzeros g n             how many of g 0, …, g (n − 1) are not 0
--   nonzeros_of              the library's count of a list's first n numbers is that
--   TestsMonomial l r        r tells whether the polynomial of l is a nonzero constant times a power of X, whatever its modulus
--   count_settles            the count tells it
--   tests_unique             the test has one answer
--   tests_monomial           what that tells of the polynomial whose coefficients they are
use Rattle.std.specs.Prelude.{◌≡◌, refl, ◌≢◌, Bool, cond, not, List, [], ◌∷◌, ℕ, zero, suc, ◌+◌, ◌≤◌, ◌<◌, eqb, length, get_or, take, count_by}
use Rattle.std.proofs.Common.{sym, ap, subst, ◌∙◌, mod-eq_of_lt, not-suc-le-zero, zero-lt-suc, add-one, arith, eqb-true, eq-eqb, ne_eqb}
use Rattle.std.proofs.Math.Decide.{dec_lt, ℕ_discrete}
use Rattle.std.proofs.lemmas.Bool.{eqb-false}
use Rattle.std.proofs.lemmas.List.{take_all, get_or_past}
use Rattle.std.proofs.lemmas.List.Sums.{count_by_more_no, count_by_more_yes}
use Rattle.algebra.specs.Residue.{K, Residue, red, red_zero_iff}
use Rattle.algebra.specs.OrderBasis.{Monomial}
use Rattle.rules.specs.Matrices.{polynomial}
use Rattle.layout.specs.Holds.{Each}
use Rattle.layout.specs.Settles.{Settles, settles_unique}
use Rattle.polynomial.specs.Coefficients.{ZerosFrom, Coefficients}
use Rattle.polynomial.specs.declared.Polynomial.{Polynomial}

-- 0 for 0 and 1 for every other number.
abbrev pub counted : ℕ → ℕ
counted x = cond (eqb x 0) 0 1

counted_zero : (x : ℕ) → x ≡ 0 → counted x ≡ 0
counted_zero x e = ap (λ b. cond b 0 1) (eq-eqb x 0 e)

counted_one : (x : ℕ) → x ≢ 0 → counted x ≡ 1
counted_one x ne = ap (λ b. cond b 0 1) (ne_eqb x 0 ne)

-- Each number counts once at most.
pub counted_le : (x : ℕ) → counted x ≤ 1
counted_le x = elim (ℕ_discrete x 0) [ yes e ↦ omega (arith, counted_zero x e) | no ne ↦ omega (arith, counted_one x ne) ]

-- How many of g 0, …, g (n − 1) are not 0.
unfoldable pub nonzeros : (ℕ → ℕ) → ℕ → ℕ
nonzeros g zero = 0
nonzeros g (suc n) = nonzeros g n + counted (g n)

-- One number more.
pub nonzeros_more : (g : ℕ → ℕ) (n : ℕ) → nonzeros g (n + 1) ≡ nonzeros g n + counted (g n)
unfolding nonzeros
nonzeros_more g n = ap (nonzeros g) (add-one n)

-- The library's count of a list's first n numbers.
abbrev counts : List ℕ → ℕ → ℕ
counts l n = count_by (λ x. not (eqb x 0)) (take n l)

counts_more : (l : List ℕ) (n : ℕ) → counts l (n + 1) ≡ counts l n + counted (get_or l n 0)
counts_more l n = elim (dec_lt n (length l)) [
  | yes h ↦ elim (ℕ_discrete (get_or l n 0) 0) [
    | yes z ↦ omega (arith, count_by_more_no (λ x. not (eqb x 0)) l n 0 h (ap not (eq-eqb (get_or l n 0) 0 z)), counted_zero (get_or l n 0) z)
    | no ne ↦ omega (arith, count_by_more_yes (λ x. not (eqb x 0)) l n 0 h (ap not (ne_eqb (get_or l n 0) 0 ne)), counted_one (get_or l n 0) ne)
  ]
  | no past ↦
      omega (
        arith,
        ap (count_by (λ x. not (eqb x 0))) (take_all (n + 1) l (omega arith) ∙ sym (take_all n l (omega arith))),
        counted_zero (get_or l n 0) (get_or_past l n 0 (omega arith)),
      )
]

pub nonzeros_of : (l : List ℕ) (n : ℕ) → counts l n ≡ nonzeros (λ k. get_or l k 0) n
unfolding nonzeros
nonzeros_of l zero = refl
nonzeros_of l (suc n) = sym (ap (counts l) (add-one n)) ∙ counts_more l n ∙ ap (λ x. x + counted (get_or l n 0)) (nonzeros_of l n)

-- What holds at n and at every number below n holds below n + 1.
below_suc : (P : ℕ → Type 0) (n : ℕ) → P n → ((k : ℕ) → k < n → P k) → (k : ℕ) → k < suc n → P k
below_suc P n at below k h = elim (ℕ_discrete k n) [ yes e ↦ subst P (sym e) at | no ne ↦ below k (lower k h ne) ]
  where
    lower : (k : ℕ) → k < suc n → k ≢ n → k < n
    lower k h ne = omega arith

-- Where none is counted all are 0 …
zeros_of_none : (g : ℕ → ℕ) (n : ℕ) → nonzeros g n ≡ 0 → (k : ℕ) → k < n → g k ≡ 0
unfolding nonzeros
zeros_of_none g zero e k h = absurd (not-suc-le-zero h)
zeros_of_none g (suc n) e k h = below_suc (λ k. g k ≡ 0) n last (zeros_of_none g n (omega arith)) k h
  where
    last : g n ≡ 0
    last = elim (ℕ_discrete (g n) 0) [ yes z ↦ z | no nz ↦ absurd (omega (arith, counted_one (g n) nz)) ]

-- … and the other way round.
none_of_zeros : (g : ℕ → ℕ) (n : ℕ) → ((k : ℕ) → k < n → g k ≡ 0) → nonzeros g n ≡ 0
unfolding nonzeros
none_of_zeros g zero h = refl
none_of_zeros g (suc n) h = omega (arith, none_of_zeros g n (λ k b. h k (omega arith)), counted_zero (g n) (h n (omega arith)))

-- Below n, g is not 0 at e and at no other number.
abbrev Only : (ℕ → ℕ) → ℕ → ℕ → Type 0
Only g n e = (e < n) × (g e ≢ 0) × ((k : ℕ) → k < n → k ≢ e → g k ≡ 0)

-- Where one is counted exactly one is not 0 …
only_of_one : (g : ℕ → ℕ) (n : ℕ) → nonzeros g n ≡ 1 → (e : ℕ) × Only g n e
unfolding nonzeros
only_of_one g zero h = absurd (omega arith)
only_of_one g (suc n) h = elim (ℕ_discrete (g n) 0) [
  | yes z ↦
      let (e, (b, ne, others)) = only_of_one g n (omega (arith, counted_zero (g n) z)) in
      (e, (omega arith, ne, below_suc (λ k. k ≢ e → g k ≡ 0) n (λ d. z) others))
  | no nz ↦ (
    n,
    (
      omega arith,
      nz,
      below_suc (λ k. k ≢ n → g k ≡ 0) n (λ d. absurd (d refl))
          (λ k b d. zeros_of_none g n (omega (arith, counted_one (g n) nz)) k b),
    ),
  )
]

-- … and the other way round.
one_of_only : (g : ℕ → ℕ) (n e : ℕ) → Only g n e → nonzeros g n ≡ 1
unfolding nonzeros
one_of_only g zero e (b, ne, others) = absurd (not-suc-le-zero b)
one_of_only g (suc n) e (b, ne, others) = elim (ℕ_discrete n e) [
  | yes q ↦ omega (arith, none_of_zeros g n (λ k h. others k (omega arith) (omega arith)), counted_one (g n) (subst (λ k. g k ≢ 0) (sym q) ne))
  | no nq ↦ omega (arith, one_of_only g n e (lower nq, ne, λ k h d. others k (omega arith) d), counted_zero (g n) (others n (omega arith) nq))
]
  where
    lower : n ≢ e → e < n
    lower d = omega arith

abbrev pub TestsMonomial : List ℕ → Bool → Type 0
TestsMonomial l r = (p : ℕ) → Each p l → Settles (Monomial (K p) (polynomial p l).series) r

-- The count of the coefficients other than 0 tells whether there is exactly one.
pub count_settles : (l : List ℕ) {n : ℕ} {r : Bool} → ZerosFrom (λ k. get_or l k 0) n → r ≡ eqb (nonzeros (λ k. get_or l k 0) n) 1 → TestsMonomial l r
count_settles l {n} {r} zeros counts p small = record {
  holds = λ e.
      let (place, (b, ne, others)) = only_of_one g n (eqb-true (nonzeros g n) 1 (sym counts ∙ e)) in
      (place, λ z. ne (zero_below place z), λ k d. elim (dec_lt k n) [ yes h ↦ ap (red p) (others k h d) | no h ↦ ap (red p) (zeros.past k (omega arith)) ]);
  fails = λ e monomial.
      let (place, ne, others) = monomial in
      eqb-false (nonzeros g n) 1 (sym counts ∙ e)
      (one_of_only g n place (
        elim (dec_lt place n) [ yes h ↦ h | no h ↦ absurd (ne (ap (red p) (zeros.past place (omega arith)))) ],
        λ z. ne (ap (red p) z),
        λ k h d. zero_below k (others k d),
      ));
}
  where
    g : ℕ → ℕ
    g k = get_or l k 0

    zero_below : (k : ℕ) → red p (g k) ≡ (K p).𝟘 → g k ≡ 0
    zero_below k z = sym (mod-eq_of_lt (small k)) ∙ (red_zero_iff p (omega (arith, small k)) (g k)).0 z

-- Some number is above all of a list …
unfoldable above : List ℕ → ℕ
above [] = 1
above (x ∷ l) = suc x + above l

each_above : (l : List ℕ) → Each (above l) l
unfolding above
each_above [] i = zero-lt-suc 0
each_above (x ∷ l) zero = omega arith
each_above (x ∷ l) (suc i) = omega (arith, each_above l i)

-- … so that the test has one answer.
pub tests_unique : (l : List ℕ) (r r' : Bool) → TestsMonomial l r → TestsMonomial l r' → r ≡ r'
tests_unique l r r' t t' = settles_unique r r' (t (above l) (each_above l)) (t' (above l) (each_above l))

-- What that tells of the polynomial whose coefficients they are.
pub tests_monomial : {p : ℕ} {f : ℕ → Residue p} {x : Polynomial} {r : Bool} → Coefficients p f x → TestsMonomial x.coefficients r → Settles
    (Monomial (K p) f) r
tests_monomial {p} {r = r} has test = subst (λ f. Settles (Monomial (K p) f) r) has.same (test p has.small)
