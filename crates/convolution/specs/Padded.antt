-- How a polynomial modulo p lies in an array: two zeros, then its coefficients from power 0 on, then zeros, at least two of them.
--   capacity                 the numbers of such an array
--   Stands p l f             the array l stands for the polynomial f
--   StandsFor p top f l      it does, f has no power above top, and the numbers of l are below p
--   Filled n P l             the first n coefficients of l satisfy P 0, P 1, …, and everything else is 0
--   filled_unique            where P settles the coefficients there is one such array
use Rattle.std.specs.Prelude.{◌≡◌, refl, List, length, get_or, set, replicate}
use Rattle.std.proofs.Math.Path.{sym, ap}
use Rattle.std.proofs.Common.{subst, ◌∙◌, not-suc-le-zero, arith, length-set, get_or-set_same, get_or-set_other, ext_get_or}
use Prim.Native.Nat.{ℕ, zero, suc, ◌+◌, ◌%◌, ◌≤◌, ◌<◌}
use Rattle.std.proofs.Math.Numerals.{add-two}
use Rattle.std.proofs.Math.Decide.{dec_lt, ℕ_discrete}
use Rattle.std.proofs.lemmas.List.{length-replicate}
use Rattle.algebra.specs.Residue.{K, Residue, red}
use Rattle.algebra.specs.Series.{shift}
use Rattle.algebra.specs.Polynomial.{Below}
use Rattle.polynomial.specs.Coefficients.{most_coefficients}
use Rattle.layout.specs.Holds.{Each}

-- Two zeros before the coefficients and two after.
unfoldable pub capacity : ℕ
capacity = 2 + most_coefficients + 2

-- The numbers of l are the coefficients of X²·f.
abbrev pub Stands : (p : ℕ) → List ℕ → (ℕ → Residue p) → Type 0
Stands p l f = (i : ℕ) → red p (get_or l i 0) ≡ shift (K p) 2 f i

-- The array l stands for the polynomial f, which has no power above top, and its numbers are below p.
pub record StandsFor (p top : ℕ) (f : ℕ → Residue p) (l : List ℕ) : Type 0 where
  pub stands : Stands p l f
  pub below : Below (K p) (suc top) f
  pub small : Each p l

-- Two zeros, then n numbers of which the k-th satisfies P k, then zeros.
pub record Filled (n : ℕ) (P : ℕ → ℕ → Type 0) (l : List ℕ) : Type 0 where
  pub long : length l ≡ capacity
  pub front : (i : ℕ) → i < 2 → get_or l i 0 ≡ 0
  pub middle : (k : ℕ) → k < n → P k (get_or l (k + 2) 0)
  pub back : (i : ℕ) → n + 2 ≤ i → get_or l i 0 ≡ 0

-- x is what the k-th of the sums is modulo p.
abbrev pub Remainder : (p : ℕ) (sums : List ℕ) → ℕ → ℕ → Type 0
Remainder p sums k x = x ≡ get_or sums k 0 % p

-- An array of zeros.
pub get_or_zeros : (n i : ℕ) → get_or {A = ℕ} (replicate n 0) i 0 ≡ 0
get_or_zeros zero i = refl
get_or_zeros (suc n) zero = refl
get_or_zeros (suc n) (suc i) = get_or_zeros n i

module _ (P : ℕ → ℕ → Type 0) where
  pub filled_none : Filled 0 P (replicate capacity 0)
  filled_none = record {
    long = length-replicate {A = ℕ} capacity 0;
    front = λ i h. get_or_zeros capacity i;
    middle = λ k h. absurd (not-suc-le-zero h);
    back = λ i h. get_or_zeros capacity i;
  }

  pub filled_more : {n : ℕ} {l : List ℕ} (x : ℕ) → n + 2 < capacity → P n x → Filled n P l → Filled (n + 1) P (set l (n + 2) x)
  filled_more {n} {l} x room holds filled = record {
    long = length-set l (n + 2) x ∙ filled.long;
    front = λ i h. get_or-set_other l (n + 2) i x 0 (omega arith) ∙ filled.front i h;
    middle = λ k h. elim (ℕ_discrete k n) [
      | yes q ↦
          let fits : n + 2 < length l = omega (arith, filled.long) in
          subst (λ j. P j (get_or (set l (n + 2) x) (j + 2) 0)) (sym q) (subst (P n) (sym (get_or-set_same l (n + 2) x 0 fits)) holds)
      | no ne ↦ subst (P k) (sym (get_or-set_other l (n + 2) (k + 2) x 0 (λ q. ne (omega arith)))) (filled.middle k (omega arith))
    ];
    back = λ i h. get_or-set_other l (n + 2) i x 0 (omega arith) ∙ filled.back i (omega arith);
  }

  -- Every number of an array is below p where those that it was filled with are.
  pub filled_small : {n : ℕ} {l : List ℕ} (p : ℕ) → 0 < p → ((k x : ℕ) → P k x → x < p) → Filled n P l → Each p l
  filled_small p pos small filled zero = omega (arith, filled.front 0 (omega arith))
  filled_small p pos small filled (suc zero) = omega (arith, filled.front 1 (omega arith))
  filled_small {n} {l} p pos small filled (suc (suc k)) = elim (dec_lt k n) [
    | yes h ↦ subst (λ i. get_or l i 0 < p) (add-two k) (small k (get_or l (k + 2) 0) (filled.middle k h))
    | no h ↦ omega (arith, filled.back (suc (suc k)) (omega arith))
  ]

  -- An array stands for the polynomial whose coefficients it was filled with, if there are no others.
  pub filled_stands : {n : ℕ} {l : List ℕ} (p : ℕ) (f : ℕ → Residue p) → ((k x : ℕ) → P k x → red p x ≡ f k) → Below (K p) n f → Filled n P l
      → Stands p l f
  unfolding shift
  filled_stands p f same below filled zero = ap (red p) (filled.front 0 (omega arith))
  filled_stands p f same below filled (suc zero) = ap (red p) (filled.front 1 (omega arith))
  filled_stands {n} {l} p f same below filled (suc (suc k)) = elim (dec_lt k n) [
    | yes h ↦ ap (λ i. red p (get_or l i 0)) (sym (add-two k)) ∙ same k (get_or l (k + 2) 0) (filled.middle k h)
    | no h ↦ ap (red p) (filled.back (suc (suc k)) (omega arith)) ∙ sym (below k (omega arith))
  ]

  -- Where P settles each coefficient, all numbers are settled.
  pub filled_unique : {n : ℕ} {l l' : List ℕ} → ((k x x' : ℕ) → P k x → P k x' → x ≡ x') → Filled n P l → Filled n P l' → l ≡ l'
  filled_unique {n} {l} {l'} one h h' = ext_get_or 0 l l' (h.long ∙ sym h'.long) (λ i b. same i)
    where
      same : (i : ℕ) → get_or l i 0 ≡ get_or l' i 0
      same zero = h.front 0 (omega arith) ∙ sym (h'.front 0 (omega arith))
      same (suc zero) = h.front 1 (omega arith) ∙ sym (h'.front 1 (omega arith))
      same (suc (suc k)) = elim (dec_lt k n) [
        | yes b ↦ subst (λ i. get_or l i 0 ≡ get_or l' i 0) (add-two k) (one k (get_or l (k + 2) 0) (get_or l' (k + 2) 0) (h.middle k b) (h'.middle k b))
        | no b ↦ h.back (suc (suc k)) (omega arith) ∙ sym (h'.back (suc (suc k)) (omega arith))
      ]
