-- The cases of document 02's requests, as one list with one proof over it. Those of document 01 are in `Cases`, and keep their verdicts.
--   two_rows                 the claims of L2: two rows and one column of order 1, modulo 7
--   requested, requested_judged      the cases
--   zero_row_degrees         a row of zeros has no degree, and then there is no Δ
use Rattle.std.specs.Prelude.{◌≡◌, refl, List, [], ◌∷◌, map, ℕ, ℤ, pos, negsuc}
use Rattle.std.specs.Prelude.{None, Some}
use Rattle.rules.specs.Claim.{Claim}
use Rattle.rules.specs.Conditions.{row_degree, degree_sum}
use Rattle.rules.specs.Verdict.{four}
use Rattle.rules.specs.Cases.{Case, written, one_by_one}
use Rattle.rules.specs.Run.{run_verdict}

-- p = 7, m = 2, n = 1, order 1: the shifts, the rows of F, P and C.
abbrev pub two_rows : ℤ → ℤ → ℕ → ℕ → List (List (List ℕ)) → ℕ → ℕ → Claim
two_rows s₀ s₁ f₀ f₁ P c₀ c₁ = record {
  problem = record { p = 7; m = 2; n = 1; orders = 1 ∷ []; shifts = s₀ ∷ s₁ ∷ []; F = ((f₀ ∷ []) ∷ (f₁ ∷ []) ∷ []) ∷ [] };
  answer = record { P = P; C = (c₀ ∷ []) ∷ (c₁ ∷ []) ∷ [] };
}

-- The rows of P: (1, 0) and (0, 1), …
abbrev identity : List (List (List ℕ))
identity = ((1 ∷ []) ∷ [] ∷ []) ∷ ([] ∷ (1 ∷ []) ∷ []) ∷ []

-- … (1, 0) and (0, 0), …
abbrev one_zero_row : List (List (List ℕ))
one_zero_row = ((1 ∷ []) ∷ [] ∷ []) ∷ ([] ∷ [] ∷ []) ∷ []

-- … (X, 0) and (0, 1), …
abbrev diagonal : List (List (List ℕ))
diagonal = ((0 ∷ 1 ∷ []) ∷ [] ∷ []) ∷ ([] ∷ (1 ∷ []) ∷ []) ∷ []

-- … (X, 0) and (6, 1).
abbrev triangular : List (List (List ℕ))
triangular = ((0 ∷ 1 ∷ []) ∷ [] ∷ []) ∷ ((6 ∷ []) ∷ (1 ∷ []) ∷ []) ∷ []

-- "A lab sent the identity of size two with shifts 0 and 5, F zero, C zero." (L2)
abbrev pub lab : Claim
lab = two_rows (pos 0) (pos 5) 0 0 identity 0 0

abbrev pub requested : List Case
requested =
    -- L2: "The lab's claim must now pass with Δ 0."; the shifts exchanged, and as far apart as they may be
    written lab (four 0 0 0 0)
    ∷ written (two_rows (pos 5) (pos 0) 0 0 identity 0 0) (four 0 0 0 0)
    ∷ written (two_rows (negsuc 999) (pos 1_000) 0 0 identity 0 0) (four 0 0 0 0)
    ∷ written (two_rows (pos 1_000) (negsuc 999) 0 0 identity 0 0) (four 0 0 0 0)
    -- "A row with no entry other than zero has no row degree and the verdict is 9.": beside a good one, and alone
    ∷ written (two_rows (pos 0) (pos 0) 0 0 one_zero_row 0 0) (four 9 0 0 0)
    ∷ written (two_rows (negsuc 999) (pos 5) 0 0 one_zero_row 0 0) (four 9 0 0 0)
    ∷ written (one_by_one 7 1 (negsuc 999) [] (0 ∷ []) 0) (four 9 0 0 0)
    -- a zero entry at a negative power: the first row has degree 1, and its second entry would stand at 1 − 5
    ∷ written (two_rows (pos 0) (pos 5) 1 0 diagonal 1 0) (four 0 0 0 1)
    ∷ written (two_rows (pos 0) (pos 5) 1 1 triangular 1 0) (four 0 0 0 1)
    -- the same P is not reduced for shifts that let 6 outweigh 1
    ∷ written (two_rows (pos 5) (pos 0) 1 1 triangular 1 0) (four 9 0 0 0)
    -- the later conditions count as before
    ∷ written (two_rows (pos 0) (pos 5) 1 0 identity 0 0) (four 11 2 0 0)
    ∷ written (two_rows (pos 0) (pos 5) 1 0 diagonal 2 0) (four 12 2 0 0)
    ∷ written (two_rows (pos 0) (pos 5) 0 0 diagonal 0 0) (four 13 0 0 0)
    ∷ []

-- Each of them is judged as the requests say.
pub requested_judged : map (λ c. run_verdict c.problem c.answer) requested ≡ map (λ c. c.expected) requested
unfolding run_verdict
requested_judged = refl

-- "A row with no entry other than zero has no row degree" (L2), and then there is no Δ.
abbrev zero_row : Claim
zero_row = two_rows (pos 0) (pos 5) 0 0 one_zero_row 0 0

pub zero_row_degrees :
    row_degree zero_row.problem zero_row.answer.P 0 ∷ row_degree zero_row.problem zero_row.answer.P 1 ∷ degree_sum zero_row.problem zero_row.answer.P ∷ []
    ≡ Some (pos 0) ∷ None ∷ None ∷ []
unfolding run_verdict
zero_row_degrees = refl
