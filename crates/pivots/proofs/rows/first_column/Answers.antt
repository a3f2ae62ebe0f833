use Rattle.std.proofs.Common.{◌≡◌, ◌≢◌, ℕ, ◌+◌, ◌<◌, List, length, get_or, rules, arith, sym, ap, subst, ◌∙◌}
use Rattle.std.specs.Prelude.{Option, None, Some, MatchOption}
use Rattle.std.specs.List.{between, AllWithin, HoldsAt}
use Rattle.std.proofs.lemmas.List.Edits.{get_or-between, length-between}
use Rattle.std.proofs.lemmas.Iterator.{IsFirst-from_position, YieldsList-from_slice}
use borrow.Author.Tests.{tests}
use Rattle.rules.specs.Sizes.{most_rows}
use Rattle.layout.specs.Flat.{square_place}
use Rattle.pivots.specs.Rows.{Full, number_at, ZeroRow, FirstColumn}
use Rattle.pivots.proofs.rows.first_column.Goals as goal

-- A row of a square, from its first place on.
abbrev row : List ℕ → ℕ → List ℕ
row l start = between start (start + most_rows) l

row_length : (l : List ℕ) (i : ℕ) → Full l → i < most_rows → length (row l (square_place i 0)) ≡ most_rows
unfolding most_rows square_place
row_length l i full hi = length-between l (square_place i 0) (square_place i 0 + most_rows) (omega arith) ∙ omega arith

row_at : (l : List ℕ) (i j : ℕ) → j < most_rows → get_or (row l (square_place i 0)) j 0 ≡ number_at l i j
unfolding most_rows square_place
row_at l i j hj = get_or-between l (square_place i 0) (square_place i 0 + most_rows) j 0 (omega arith) ∙ ap (λ k. get_or l k 0) (omega arith)

-- What the search in a row finds.
abbrev Searched : List ℕ → Option ℕ → Type 0
Searched xs r =
    MatchOption r (AllWithin (λ x. x ≡ 0) xs 0 (length xs))
    (λ c. (c < length xs) × HoldsAt (λ x. x ≢ 0) xs c × AllWithin (λ x. x ≡ 0) xs 0 c)

-- … and what that says of the square.
first_of : (l : List ℕ) (i : ℕ) → Full l → i < most_rows → (r : Option ℕ) → Searched (row l (square_place i 0)) r
    → MatchOption r (ZeroRow l i) (FirstColumn l i)
first_of l i full hi None zeros = λ j hj. sym (row_at l i j hj) ∙ zeros j 0 (omega arith) (omega (arith, row_length l i full hi))
first_of l i full hi (Some c) found =
    let inside : c < most_rows = omega (arith, row_length l i full hi, found.0) in
    record {
      inside = inside;
      zeros = λ j hj. sym (row_at l i j (omega arith)) ∙ found.2 j 0 (omega arith) hj;
      nonzero = λ e. found.1 0 (row_at l i c inside ∙ e);
    }

pub returns : goal.returns
unfolding most_rows
returns c =
    let a = c.args in
    let start = c.square_place-start in
    let found : Searched (row a.rows.now start.result) c.position.result =
    IsFirst-from_position _ _ _ (λ x. x ≢ 0) (λ x. x ≡ 0) c.position.ensures.ran (YieldsList-from_slice (row a.rows.now start.result) c.iter.ensures.rest)
    (λ x q k. search (rules, tests)) (λ x q k. search (rules, tests)) in
    first_of a.rows.now a.i (search rules) c.requires c.position.result
    (subst (λ s. Searched (row a.rows.now s) c.position.result) start.ensures found)
