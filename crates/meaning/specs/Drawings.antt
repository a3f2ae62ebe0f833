-- Sums and counts over all lists of m numbers below p: the p^m ways to draw m numbers.
--   sum_lists p m f          the sum of f u over all such lists u
--   count_lists p m test     how many of them pass
--   sum_lists_bound          a bound of the terms gives one of the sum
--   count_all_lists          there are p^m
--   count_free_place         where the numbers at all places but one leave one number there at most, p^(m − 1) pass at most
use Rattle.std.specs.Prelude.{◌≡◌, refl, ◌≢◌, Bool, true, cond, List, [], ◌∷◌, ℕ, zero, suc, ◌+◌, ◌*◌, ◌^◌, ◌≤◌, ◌<◌, get_or}
use Rattle.std.proofs.Common.{sym, ap, subst, subst₂, ◌∙◌, le_of_suc-le-suc, not-suc-le-zero, mul-zero, mul_assoc, one-mul, arith}
use Rattle.std.proofs.Math.Nat.{pow-zero, pow-succ'}
use Rattle.algebra.specs.Count.{count, count_one}
use Rattle.rules.specs.Conditions.{sum_below}
use Rattle.laws.specs.SumLaws.{sum_below_constant}

-- The sum of f u over all lists u of m numbers below p.
unfoldable pub sum_lists : (p m : ℕ) → (List ℕ → ℕ) → ℕ
sum_lists p zero f = f []
sum_lists p (suc m) f = sum_below p (λ x. sum_lists p m (λ u. f (x ∷ u)))

-- How many of them pass the test.
abbrev pub count_lists : (p m : ℕ) → (List ℕ → Bool) → ℕ
count_lists p m test = sum_lists p m (λ u. cond (test u) 1 0)

-- SUMS

sum_below_bound : (n : ℕ) (f g : ℕ → ℕ) (a b e : ℕ) → ((i : ℕ) → f i + b * g i ≤ a * g i + e)
    → sum_below n f + b * sum_below n g ≤ a * sum_below n g + n * e
unfolding sum_below
sum_below_bound zero f g a b e h = omega arith
sum_below_bound (suc n) f g a b e h = omega (arith, h 0, sum_below_bound n (λ i. f (suc i)) (λ i. g (suc i)) a b e (λ i. h (suc i)))

bounded_terms : (n : ℕ) (f : ℕ → ℕ) (e : ℕ) → ((i : ℕ) → f i ≤ e) → sum_below n f ≤ n * e
bounded_terms n f e h = omega (arith, sum_below_bound n f f 0 0 e (λ i. omega (arith, h i)))

sum_below_add : (n : ℕ) (f g : ℕ → ℕ) → sum_below n (λ i. f i + g i) ≡ sum_below n f + sum_below n g
unfolding sum_below
sum_below_add zero f g = omega arith
sum_below_add (suc n) f g = omega (arith, sum_below_add n (λ i. f (suc i)) (λ i. g (suc i)))

sum_below_swap : (m n : ℕ) (f : ℕ → ℕ → ℕ) → sum_below m (λ i. sum_below n (f i)) ≡ sum_below n (λ j. sum_below m (λ i. f i j))
unfolding sum_below
sum_below_swap zero n f = sym (sum_below_constant n (λ j. 0) 0 (λ j b. refl) ∙ mul-zero n)
sum_below_swap (suc m) n f =
    ap (λ x. sum_below n (f zero) + x) (sum_below_swap m n (λ i. f (suc i)))
    ∙ sym (sum_below_add n (f zero) (λ j. sum_below m (λ i. f (suc i) j)))

-- Where f u and b times g u are at most a times g u and e, for each list u, the same holds of the sums, with e for each of the p^m lists.
pub sum_lists_bound : (p m : ℕ) (f g : List ℕ → ℕ) (a b e : ℕ) → ((u : List ℕ) → f u + b * g u ≤ a * g u + e)
    → sum_lists p m f + b * sum_lists p m g ≤ a * sum_lists p m g + p ^ m * e
unfolding sum_lists
sum_lists_bound p zero f g a b e h = subst (λ k. f [] + b * g [] ≤ a * g [] + k) (sym (one-mul e) ∙ ap (λ k. k * e) (sym (pow-zero p))) (h [])
sum_lists_bound p (suc m) f g a b e h =
    subst (λ k. sum_lists p (suc m) f + b * sum_lists p (suc m) g ≤ a * sum_lists p (suc m) g + k)
    (sym (mul_assoc p (p ^ m) e) ∙ ap (λ k. k * e) (sym (pow-succ' p m)))
    (sum_below_bound p (λ x. sum_lists p m (λ u. f (x ∷ u))) (λ x. sum_lists p m (λ u. g (x ∷ u))) a b (p ^ m * e)
    (λ x. sum_lists_bound p m (λ u. f (x ∷ u)) (λ u. g (x ∷ u)) a b e (λ u. h (x ∷ u))))

-- COUNTS

-- There are p^m such lists.
pub count_all_lists : (p m : ℕ) → count_lists p m (λ u. true) ≡ p ^ m
unfolding sum_lists
count_all_lists p zero = sym (pow-zero p)
count_all_lists p (suc m) = sum_below_constant p (λ x. count_lists p m (λ u. true)) (p ^ m) (λ x h. count_all_lists p m) ∙ sym (pow-succ' p m)

count_is_sum : (n : ℕ) (test : ℕ → Bool) → sum_below n (λ x. cond (test x) 1 0) ≡ count n test
unfolding sum_below count
count_is_sum zero test = refl
count_is_sum (suc n) test = ap (λ x. cond (test zero) 1 0 + x) (count_is_sum n (λ i. test (suc i)))

one_in_front : (p m : ℕ) (test : ℕ → List ℕ → Bool)
    → ((x y : ℕ) (u : List ℕ) → x < p → y < p → test x u ≡ true → test y u ≡ true → x ≡ y)
    → sum_below p (λ x. count_lists p m (test x)) ≤ p ^ m
unfolding sum_lists
one_in_front p zero test one =
    subst₂ (λ k l. k ≤ l) (sym (count_is_sum p (λ x. test x []))) (sym (pow-zero p)) (count_one p (λ x. test x []) (λ x y hx hy. one x y [] hx hy))
one_in_front p (suc m) test one =
    subst₂ (λ k l. k ≤ l) (sym (sum_below_swap p p (λ x y. count_lists p m (λ u. test x (y ∷ u))))) (sym (pow-succ' p m))
    (bounded_terms p (λ y. sum_below p (λ x. count_lists p m (λ u. test x (y ∷ u)))) (p ^ m)
    (λ y. one_in_front p m (λ x u. test x (y ∷ u)) (λ a b u ha hb. one a b (y ∷ u) ha hb)))

-- The lists u and v have the same numbers at all places but i.
abbrev pub SameBut : ℕ → List ℕ → List ℕ → Type 0
SameBut i u v = (k : ℕ) → k ≢ i → get_or u k 0 ≡ get_or v k 0

-- Where any two lists that pass and are the same but for place i are the same there too, at most p^m of the lists of m + 1 numbers pass.
pub count_free_place : (p m i : ℕ) (test : List ℕ → Bool) → i < suc m
    → ((u v : List ℕ) → SameBut i u v → get_or u i 0 < p → get_or v i 0 < p → test u ≡ true → test v ≡ true → get_or u i 0 ≡ get_or v i 0)
    → count_lists p (suc m) test ≤ p ^ m
unfolding sum_lists
count_free_place p m zero test h one =
    one_in_front p m (λ x u. test (x ∷ u))
    (λ x y u hx hy tx ty. one (x ∷ u) (y ∷ u) (elim [ zero ↦ λ ne. absurd (ne refl) | suc k ↦ λ ne. refl ]) hx hy tx ty)
count_free_place p zero (suc i) test h one = absurd (not-suc-le-zero (le_of_suc-le-suc h))
count_free_place p (suc m) (suc i) test h one =
    subst (λ k. count_lists p (suc (suc m)) test ≤ k) (sym (pow-succ' p m))
    (bounded_terms p (λ x. count_lists p (suc m) (λ u. test (x ∷ u))) (p ^ m)
    (λ x. count_free_place p m i (λ u. test (x ∷ u)) (le_of_suc-le-suc h)
    (λ u v same. one (x ∷ u) (x ∷ v) (elim [ zero ↦ λ ne. refl | suc k ↦ λ ne. same k (λ e. ne (ap suc e)) ]))))
