-- Document 02, L5: "Judging by a drawn point. Source document 000, section 3, tests the product with a drawn row vector u over K and a drawn
-- point." A second engine for refusals 11 and 12: it never replaces a verdict of the first.
--   cut b P C i j k          "the coefficients of PF up to the order, less C's column at the order"
--   cut_row b P C u j k      "combines the rows by u"
--   drawn_value b P C u point j      "and evaluates at the point"
--   every_column_zero b P C u point  "every column gives 0"
--   Drawn, drawn_numbers     the kinds of answer, and the four numbers of each
--   drawn_number, first_too_large    the numbers drawn, by their places, and the place of the first of p or more
--   judge_drawn_claim, judge_drawn   which answer is given, for a claim and for two files
use Rattle.std.specs.Prelude.{Bool, true, false, cond, not, List, ℕ, suc, leb, ltb, eqb, get_or}
use Rattle.std.specs.Prelude.{Option, None, Some}
use Rattle.algebra.specs.Ring.{power}
use Rattle.algebra.specs.Residue.{K, Residue, red}
use Rattle.algebra.specs.Sum.{sum}
use Rattle.rules.specs.Claim.{Problem, Claim}
use Rattle.rules.specs.Matrices.{order, matrix_C, product}
use Rattle.rules.specs.Conditions.{is_zero, some_below, first_below}
use Rattle.rules.specs.Reader.{Refusal, refused, got}
use Rattle.rules.specs.Files.{read_claim}
use Rattle.rules.specs.Verdict.{Numbers, four}

-- THE TEST

-- "for each column, the coefficients of PF up to the order, less C's column at the order": the one of row i and column j at power k; above the
-- order it is 0.
unfoldable pub cut : (b : Problem) → List (List (List ℕ)) → List (List ℕ) → ℕ → ℕ → ℕ → Residue b.p
cut b P C i j k =
    elim (ltb k (order b j)) [
      | true ↦ product b P i j k
      | false ↦ elim (eqb k (order b j)) [ true ↦ (K b.p).◌⊕◌ (product b P i j k) ((K b.p).⊖◌ (matrix_C b C i j)) | false ↦ (K b.p).𝟘 ]
    ]

-- "combines the rows by u": of u, which "has the largest m places", those from m on "aren't read".
unfoldable pub cut_row : (b : Problem) → List (List (List ℕ)) → List (List ℕ) → List ℕ → ℕ → ℕ → Residue b.p
cut_row b P C u j k = sum (K b.p) b.m (λ i. (K b.p).◌⊗◌ (red b.p (get_or u i 0)) (cut b P C i j k))

-- "and evaluates at the point"
unfoldable pub drawn_value : (b : Problem) → List (List (List ℕ)) → List (List ℕ) → List ℕ → ℕ → ℕ → Residue b.p
drawn_value b P C u point j =
    sum (K b.p) (suc (order b j)) (λ k. (K b.p).◌⊗◌ (cut_row b P C u j k) (power (K b.p) (red b.p point) k))

-- "every column gives 0"
unfoldable pub every_column_zero : (b : Problem) → List (List (List ℕ)) → List (List ℕ) → List ℕ → ℕ → Bool
every_column_zero b P C u point = not (some_below b.n (λ j. not (is_zero b.p (drawn_value b P C u point j))))

-- THE ANSWER

-- The kinds of answer.
pub data Drawn : Type 0 where
  -- "may pass", or it is turned away
  may_pass turned_away : Drawn
  -- 1 to 8
  unread : Refusal → Drawn
  -- 16, with the number's place
  too_large : ℕ → Drawn

-- The four numbers of each: "16 for a drawn number of p or more, … with file 2, record 0 and the number's place".
unfoldable pub drawn_numbers : Drawn → Numbers
drawn_numbers may_pass = four 0 0 0 0
drawn_numbers turned_away = four 255 0 0 0
drawn_numbers (unread r) = four r.code r.place.file r.place.number r.place.at
drawn_numbers (too_large place) = four 16 2 0 place

-- The number drawn at a place: "u from 0, the point m".
unfoldable pub drawn_number : (m : ℕ) → List ℕ → (point : ℕ) → ℕ → ℕ
drawn_number m u point place = elim (ltb place m) [ true ↦ get_or u place 0 | false ↦ point ]

-- The place of the first "drawn number of p or more".
unfoldable pub first_too_large : (p m : ℕ) → List ℕ → (point : ℕ) → Option ℕ
first_too_large p m u point = first_below (suc m) (λ place. leb p (drawn_number m u point place))

-- Of a claim: "It says "may pass" exactly when every column gives 0."
unfoldable pub judge_drawn_claim : Claim → List ℕ → ℕ → Drawn
judge_drawn_claim c u point =
    elim (first_too_large c.problem.p c.problem.m u point) [
      | Some place ↦ too_large place
      | None ↦ cond (every_column_zero c.problem c.answer.P c.answer.C u point) may_pass turned_away
    ]

-- Of two files: 16 comes "after 1 to 8".
unfoldable pub judge_drawn : List ℕ → List ℕ → List ℕ → ℕ → Drawn
judge_drawn s t u point = elim (read_claim s t) [ refused r ↦ unread r | got c q ↦ judge_drawn_claim c u point ]
