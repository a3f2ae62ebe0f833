-- `Plain` is neither empty nor always true: it holds of document 01's case with two rows, and not of P = 4 + X. Of the first the numbers
-- are checked by computation and the generation sentence through the theorem; of the second a row is shown that P does not generate.
--   two_rows_plain      the first
--   four_plus_X_not_plain             the second
-- And the degrees of sums of multiples of the rows of the first (document 02, L6): the degree of a sum in which a column cancels, and of
-- one in which the row of the larger degree has the multiplier 0.
--   column_cancels_degree      shifts 0 and 0
--   one_row_alone                          shifts 0 and 1
use Rattle.std.specs.Prelude.{◌≡◌, refl, ◌≢◌, true, List, [], ◌∷◌, ℕ, zero, suc, ◌%◌, ◌≤◌, ◌<◌, pos, ◌+ℤ◌, get_or}
use Rattle.std.proofs.Common.{sym, ap, subst, ◌∙◌, suc-ne-zero, arith, lit<, lit≤}
use Rattle.std.proofs.lemmas.Option.{same_Some}
use Rattle.algebra.specs.Prime.{Prime}
use Rattle.algebra.proofs.Prime.{prime_iff_no_divisor}
use Rattle.algebra.specs.Residue.{K, red, red_eq, K_nontrivial}
use Rattle.algebra.specs.Sum.{sum}
use Rattle.algebra.specs.Series.{series_ext, constant}
use Rattle.algebra.proofs.Series.{Series}
use Rattle.algebra.specs.Matrix.{vmul}
use Rattle.algebra.specs.Root.{lin}
use Rattle.algebra.proofs.Root.{root_of_multiple}
use Rattle.algebra.specs.Evaluation.{Evaluates}
use Rattle.algebra.proofs.Evaluation.{evaluates_unique, evaluates_constant}
use Rattle.rules.specs.Matrices.{order, at, polynomial}
use Rattle.rules.specs.Conditions.{reduced, sum_below}
use Rattle.rules.specs.Run.{run_verdict}
use Rattle.meaning.specs.Plain.{times, row_times_column, row_P, column_F, IsMultiple, VanishesBelowOrders, Plain}
use Rattle.meaning.proofs.Bridge.{red_row_times_column}
use Rattle.meaning.proofs.Meaning.{pass_iff_plain}
use Rattle.meaning.specs.Least.{HasDegree, ShiftedDegree, IsLargest, combined, Least}
use Rattle.meaning.proofs.LeastDegrees.{least_of_plain}
use Rattle.meaning.specs.Examples.{two_rows, two_rows_passed, four_plus_X, two_rows_degrees, X_and_6, shifted_rows}

-- The three sentences about numbers, by computation.
two_rows_reduced : reduced two_rows.problem two_rows.answer.P ≡ true
unfolding run_verdict
two_rows_reduced = refl

two_rows_low : (i j k : ℕ) → i < 2 → j < 1 → k < order two_rows.problem j → row_times_column 2 (row_P two_rows i) (column_F two_rows j) k % 7 ≡ 0
unfolding row_times_column times sum_below
two_rows_low zero zero zero hi hj hk = refl
two_rows_low zero zero (suc zero) hi hj hk = refl
two_rows_low zero zero (suc (suc k)) hi hj hk = absurd (omega arith)
two_rows_low zero (suc j) k hi hj hk = absurd (omega arith)
two_rows_low (suc zero) zero zero hi hj hk = refl
two_rows_low (suc zero) zero (suc zero) hi hj hk = refl
two_rows_low (suc zero) zero (suc (suc k)) hi hj hk = absurd (omega arith)
two_rows_low (suc zero) (suc j) k hi hj hk = absurd (omega arith)
two_rows_low (suc (suc i)) j k hi hj hk = absurd (omega arith)

two_rows_order : (i j : ℕ) → i < 2 → j < 1
    → row_times_column 2 (row_P two_rows i) (column_F two_rows j) (order two_rows.problem j) % 7 ≡ get_or (get_or two_rows.answer.C i []) j 0
unfolding row_times_column times sum_below
two_rows_order zero zero hi hj = refl
two_rows_order zero (suc j) hi hj = absurd (omega arith)
two_rows_order (suc zero) zero hi hj = refl
two_rows_order (suc zero) (suc j) hi hj = absurd (omega arith)
two_rows_order (suc (suc i)) j hi hj = absurd (omega arith)

prime_7 : Prime 7
prime_7 = (prime_iff_no_divisor 7).1 (lit≤ tt, no_divisor)
  where
    no_divisor : (d : ℕ) → 2 ≤ d → d < 7 → 7 % d ≢ 0
    no_divisor zero lo hi = absurd (omega arith)
    no_divisor (suc zero) lo hi = absurd (omega arith)
    no_divisor (suc (suc zero)) lo hi = suc-ne-zero 0
    no_divisor (suc (suc (suc zero))) lo hi = suc-ne-zero 0
    no_divisor (suc (suc (suc (suc zero)))) lo hi = suc-ne-zero 2
    no_divisor (suc (suc (suc (suc (suc zero))))) lo hi = suc-ne-zero 1
    no_divisor (suc (suc (suc (suc (suc (suc zero)))))) lo hi = suc-ne-zero 0
    no_divisor (suc (suc (suc (suc (suc (suc (suc d))))))) lo hi = absurd (omega arith)

two_rows_C : (i j : ℕ) → get_or (get_or two_rows.answer.C i []) j 0 < 7
two_rows_C zero zero = lit< tt
two_rows_C zero (suc j) = lit< tt
two_rows_C (suc zero) zero = lit< tt
two_rows_C (suc zero) (suc j) = lit< tt
two_rows_C (suc (suc i)) j = lit< tt

-- `Plain` holds of it.
pub two_rows_plain : Plain two_rows
two_rows_plain = record {
  is_reduced = two_rows_reduced;
  low_coefficients = two_rows_low;
  order_coefficients = two_rows_order;
  generates = ((pass_iff_plain two_rows prime_7 two_rows_C).0 (2, two_rows_passed)).generates;
}

-- The polynomial 1, as a row.
abbrev one : List (List ℕ)
one = (1 ∷ []) ∷ []

-- Its product with F vanishes below the order …
one_vanishes : VanishesBelowOrders four_plus_X one
unfolding row_times_column times sum_below
one_vanishes zero zero hj hk = refl
one_vanishes zero (suc k) hj hk = absurd (omega arith)
one_vanishes (suc j) k hj hk = absurd (omega arith)

-- … and it is no multiple of 4 + X, which is X − 1 modulo 5 and has the value 0 at 1, where 1 has the value 1.
four_plus_X_lin : (polynomial 5 (4 ∷ 1 ∷ [])).series ≡ lin (K 5) (red 5 1)
unfolding lin constant red
four_plus_X_lin =
    series_ext (K 5)
    (elim [ zero ↦ refl | suc n ↦ elim n as (λ k. (polynomial 5 (4 ∷ 1 ∷ [])).series (suc k) ≡ lin (K 5) (red 5 1) (suc k)) [ zero ↦ refl | suc n ↦ refl ] ])

one_constant : (polynomial 5 (1 ∷ [])).series ≡ constant (K 5) (red 5 1)
unfolding constant
one_constant = series_ext (K 5) (elim [ zero ↦ refl | suc n ↦ refl ])

as_multiple : (w : List (List ℕ)) → IsMultiple four_plus_X one w
    → constant (K 5) (red 5 1) ≡ (Series (K 5)).◌⊗◌ (lin (K 5) (red 5 1)) (polynomial 5 (get_or w 0 [])).series
unfolding vmul sum
as_multiple w multiple =
    sym one_constant
    ∙ series_ext (K 5) (λ k. (red_eq 5 (lit< tt) _ _).1 (multiple 0 k (lit< tt))
    ∙ red_row_times_column 5 1 (λ i. get_or w i []) (λ i j. at four_plus_X.answer.P i j) 0 k)
    ∙ (Series (K 5)).add_zero _
    ∙ (Series (K 5)).mul_comm (polynomial 5 (get_or w 0 [])).series (polynomial 5 (4 ∷ 1 ∷ [])).series
    ∙ ap (λ f. (Series (K 5)).◌⊗◌ f (polynomial 5 (get_or w 0 [])).series) four_plus_X_lin

one_no_multiple : (w : List (List ℕ)) → ¬ IsMultiple four_plus_X one w
one_no_multiple w multiple =
    K_nontrivial 5 (lit≤ tt)
    (evaluates_unique (K 5) (red 5 1) (constant (K 5) (red 5 1)) (evaluates_constant (K 5) (red 5 1) (red 5 1))
    (subst (λ f. Evaluates (K 5) (red 5 1) f (K 5).𝟘) (sym (as_multiple w multiple))
    (root_of_multiple (K 5) (red 5 1) (polynomial 5 (get_or w 0 [])).series (polynomial 5 (get_or w 0 [])).below)))

-- So `Plain` does not hold of it.
pub four_plus_X_not_plain : ¬ Plain four_plus_X
four_plus_X_not_plain plain = let (w, long, multiple) = plain.generates one refl one_vanishes in one_no_multiple w multiple

-- THE DEGREES OF SUMS

-- A polynomial of one coefficient has the degree 0, and no other.
constant_degree : (x a : ℕ) → HasDegree 7 (x ∷ []) a → a ≡ 0
constant_degree x zero degree = refl
constant_degree x (suc a) degree = absurd (degree.not_zero refl)

-- X has the degree 1, and no other.
X_degree : (a : ℕ) → HasDegree 7 (0 ∷ 1 ∷ []) a → a ≡ 1
X_degree zero degree = absurd (degree.not_zero refl)
X_degree (suc zero) degree = refl
X_degree (suc (suc a)) degree = absurd (degree.not_zero refl)

two_rows_least : Least two_rows
two_rows_least = least_of_plain two_rows prime_7 two_rows_plain (lit< tt)

two_rows_r : (i : ℕ) → i < 2 → two_rows_least.r i ≡ pos 1
two_rows_r i h = same_Some _ _ (sym (two_rows_least.row_degrees i h) ∙ two_rows_degrees i h)

X_and_6_largest : IsLargest 7 2 two_rows_least.r X_and_6 (pos 2)
X_and_6_largest = record {
  one_of_them = (0, 1, lit< tt, record { not_zero = suc-ne-zero 0; zero_above = above }, ap (λ x. x +ℤ pos 1) (sym (two_rows_r 0 (lit< tt))));
  none_larger = at_most_two;
}
  where
    above : (k : ℕ) → 1 < k → get_or (0 ∷ 1 ∷ []) k 0 % 7 ≡ 0
    above zero h = refl
    above (suc zero) h = absurd (omega arith)
    above (suc (suc k)) h = refl

    at_most_two : (i a : ℕ) → i < 2 → HasDegree 7 (get_or X_and_6 i []) a → (n : ℕ) × (pos 2 ≡ two_rows_least.r i +ℤ pos a +ℤ pos n)
    at_most_two zero a h degree = (0, rw (two_rows_r 0 h, X_degree a degree))
    at_most_two (suc zero) a h degree = (1, rw (two_rows_r 1 h, constant_degree 6 a degree))
    at_most_two (suc (suc i)) a h degree = absurd (omega arith)

-- Its shifted degree is 2.
pub column_cancels_degree : ShiftedDegree two_rows.problem (combined two_rows X_and_6) (pos 2)
column_cancels_degree = (two_rows_least.degree_of_sum X_and_6 (pos 2) refl).0 X_and_6_largest

shifted_rows_least : Least shifted_rows
unfolding run_verdict
shifted_rows_least = least_of_plain shifted_rows prime_7 ((pass_iff_plain shifted_rows prime_7 two_rows_C).0 (2, refl)) (lit< tt)

-- … and the first row alone, with the multipliers 1 and 0, has the shifted degree 1: the second does not count.
abbrev first_alone : List (List ℕ)
first_alone = (1 ∷ []) ∷ [] ∷ []

first_alone_largest : IsLargest 7 2 shifted_rows_least.r first_alone (pos 1)
unfolding run_verdict
first_alone_largest = record {
  one_of_them = (0, 0, lit< tt, record { not_zero = suc-ne-zero 0; zero_above = above }, ap (λ x. x +ℤ pos 0) (sym first));
  none_larger = at_most_one;
}
  where
    first : shifted_rows_least.r 0 ≡ pos 1
    first = same_Some _ _ (sym (shifted_rows_least.row_degrees 0 (lit< tt)))

    above : (k : ℕ) → 0 < k → get_or (1 ∷ []) k 0 % 7 ≡ 0
    above zero h = absurd (omega arith)
    above (suc k) h = refl

    at_most_one : (i a : ℕ) → i < 2 → HasDegree 7 (get_or first_alone i []) a → (n : ℕ) × (pos 1 ≡ shifted_rows_least.r i +ℤ pos a +ℤ pos n)
    at_most_one zero a h degree = (0, rw (first, constant_degree 1 a degree))
    at_most_one (suc zero) a h degree = absurd (degree.not_zero refl)
    at_most_one (suc (suc i)) a h degree = absurd (omega arith)

pub one_row_alone : ShiftedDegree shifted_rows.problem (combined shifted_rows first_alone) (pos 1)
one_row_alone = (shifted_rows_least.degree_of_sum first_alone (pos 1) refl).0 first_alone_largest
