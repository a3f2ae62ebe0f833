-- L5: what the answers by drawn numbers say, in plain words first, in numbers, lists, sums, products and remainders. Most proofs are in proofs/DrawnMeaning.
--   wanted, drawn_product, drawn_wanted, cut_row_nonzero      "the cut row is nonzero in some column"
--   HasFault                 the claim has a fault of 11 or 12
--   says_may_pass, points_that_may_pass      the answer is "may pass"; how many points give it
--   NeverTurnedAway        a claim without a fault is never turned away
--   FewPoints            where the cut row is nonzero in some column, no more points than the largest order give "may pass"
--   FewRows                  of a claim with a fault, p^(m − 1) of the p^m rows u at most make the cut row zero
--   FewDrawings        so of the p^m · p ways to draw u and a point, fewer than p^m times that order and one more do
--   every_column_zero_iff       the plain words and the rules
--   drawn_of_claim           the answer on two files is that on the claim
use Rattle.std.specs.Prelude.{◌≡◌, ◌≢◌, ◌⊎◌, ◌↔◌, true, false, cond, List, [], eqb}
use Rattle.std.proofs.Math.Path.{sym, ap}
use Rattle.std.proofs.Common.{◌∙◌}
use Rattle.std.proofs.Math.Bool.{Bool, not}
use Prim.Native.Nat.{ℕ, suc, ◌+◌, ◌-◌, ◌*◌, ◌%◌, ◌^◌, ◌≤◌, ◌<◌}
use Rattle.std.proofs.Math.ListN.{get_or}
use Rattle.algebra.specs.Residue.{Residue, red}
use Rattle.algebra.specs.Count.{count}
use Rattle.algebra.specs.Evaluation.{ev, ev_powers}
use Rattle.rules.specs.Sizes.{most_order}
use Rattle.rules.specs.Claim.{Claim}
use Rattle.rules.specs.Matrices.{order}
use Rattle.rules.specs.Conditions.{is_zero, some_below, sum_below}
use Rattle.rules.specs.Reader.{Place, Result, refused, got}
use Rattle.rules.specs.Files.{read_claim}
use Rattle.rules.specs.Drawn.{cut_row, drawn_value, every_column_zero, Drawn, may_pass, turned_away, unread, too_large, judge_drawn_claim}
use Rattle.rules.specs.Drawn.{judge_drawn}
use Rattle.laws.specs.Valid.{Valid}
use Rattle.laws.specs.BoolLaws.{false_iff, not_iff, not_false_iff}
use Rattle.laws.specs.SearchLaws.{is_zero_iff, some_below_false_iff}
use Rattle.meaning.specs.Plain.{row_times_column, row_P, column_F}
use Rattle.meaning.specs.Generating.{field_of}
use Rattle.meaning.specs.Verdicts.{LowFault, OrderFault, Nowhere}
use Rattle.meaning.specs.Drawings.{sum_lists, count_lists}

-- IN PLAIN WORDS

-- What condition 3 asks of the coefficient of P·F at X^k in row i and column j, for k up to the order: C's number at the order, 0 below.
abbrev pub wanted : Claim → ℕ → ℕ → ℕ → ℕ
wanted c i j k = cond (eqb k (order c.problem j)) (get_or (get_or c.answer.C i []) j 0) 0

-- The rows combined by u: the sum of u_i times the coefficient of row i, …
abbrev pub drawn_product : Claim → List ℕ → ℕ → ℕ → ℕ
drawn_product c u j k = sum_below c.problem.m (λ i. get_or u i 0 * row_times_column c.problem.m (row_P c i) (column_F c j) k)

-- … and the sum of u_i times what is wanted of it.
abbrev pub drawn_wanted : Claim → List ℕ → ℕ → ℕ → ℕ
drawn_wanted c u j k = sum_below c.problem.m (λ i. get_or u i 0 * wanted c i j k)

-- "the cut row is nonzero in some column": for some column and power up to the order, the two differ modulo p.
unfoldable pub cut_row_nonzero : Claim → List ℕ → Bool
cut_row_nonzero c u =
    some_below c.problem.n (λ j. some_below (suc (order c.problem j))
    (λ k. not (eqb (drawn_product c u j k % c.problem.p) (drawn_wanted c u j k % c.problem.p))))

-- The claim has a fault of 11 or of 12.
abbrev pub HasFault : Claim → Type 0
HasFault c = (i : ℕ) × (j : ℕ) × (i < c.problem.m) × (j < c.problem.n) × (LowFault c i j ⊎ OrderFault c i j)

-- The answer is "may pass".
abbrev pub says_may_pass : Drawn → Bool
says_may_pass may_pass = true
says_may_pass turned_away = false
says_may_pass (unread r) = false
says_may_pass (too_large place) = false

-- How many of the p points give "may pass" with u.
abbrev pub points_that_may_pass : (s t : List ℕ) → (p : ℕ) → List ℕ → ℕ
points_that_may_pass s t p u = count p (λ point. says_may_pass (judge_drawn s t u point))

-- "a claim with the fault of neither 11 nor 12 is never turned away"
abbrev pub NeverTurnedAway : Type 0
NeverTurnedAway = (s t : List ℕ) (c : Claim) (q : Place) → read_claim s t ≡ got c q
    → Nowhere c.problem.m c.problem.n (LowFault c)
    → Nowhere c.problem.m c.problem.n (OrderFault c)
    → (u : List ℕ) (point : ℕ) → judge_drawn s t u point ≢ turned_away

-- "for a fixed u, if the cut row is nonzero in some column, at most 16 of the p points give "may pass""
abbrev pub FewPoints : Type 0
FewPoints = (s t : List ℕ) (c : Claim) (q : Place) → read_claim s t ≡ got c q
    → (u : List ℕ) → cut_row_nonzero c u ≡ true → points_that_may_pass s t c.problem.p u ≤ most_order

-- Of a claim with a fault, at most p^(m − 1) of the p^m rows u of numbers below p leave the cut row zero in every column.
abbrev pub FewRows : Type 0
FewRows = (s t : List ℕ) (c : Claim) (q : Place) → read_claim s t ≡ got c q
    → HasFault c → count_lists c.problem.p c.problem.m (λ u. not (cut_row_nonzero c u)) ≤ c.problem.p ^ (c.problem.m - 1)

-- So of the p^m · p ways to draw u and a point, fewer than (1 + 16) · p^m give "may pass": source document 000, Lemma 3.1, where numbers are
-- drawn from all of K.
abbrev pub FewDrawings : Type 0
FewDrawings = (s t : List ℕ) (c : Claim) (q : Place) → read_claim s t ≡ got c q
    → HasFault c → sum_lists c.problem.p c.problem.m (points_that_may_pass s t c.problem.p) < (1 + most_order) * c.problem.p ^ c.problem.m

module _ (c : Claim) (valid : Valid c) where
  open field_of c use {𝟘, ◌⊕◌, ◌⊗◌, ⊖◌, add_zero, mul_add}

  infixl 60 ◌⊕◌
  infixl 70 ◌⊗◌
  infix 80 ⊖◌
  -- The residue of a number.
  abbrev pub in_K : ℕ → Residue c.problem.p
  in_K = red c.problem.p

  abbrev pub row : List ℕ → ℕ → ℕ → Residue c.problem.p
  row = cut_row c.problem c.answer.P c.answer.C

  -- "every column gives 0": the cut row is 0 at the point, as a polynomial.
  pub every_column_zero_iff : (u : List ℕ) (point : ℕ)
      → (every_column_zero c.problem c.answer.P c.answer.C u point ≡ true)
      ↔ ((j : ℕ) → j < c.problem.n → ev (field_of c) (suc (order c.problem j)) (in_K point) (row u j) ≡ 𝟘)
  unfolding every_column_zero drawn_value
  every_column_zero_iff u point = (
    λ e j h.
        value_is j
        ∙ (is_zero_iff c.problem.p (value j)).0
        ((not_false_iff _).0 ((some_below_false_iff c.problem.n nonzero).0 ((false_iff _).1 ((not_iff _).0 e)) j h)),
    λ zeros.
        (not_iff _).1
        ((false_iff _).0
        ((some_below_false_iff c.problem.n nonzero).1
        (λ j h. (not_false_iff _).1 ((is_zero_iff c.problem.p (value j)).1 (sym (value_is j) ∙ zeros j h))))),
  )
    where
      value : ℕ → Residue c.problem.p
      value j = drawn_value c.problem c.answer.P c.answer.C u point j

      nonzero : ℕ → Bool
      nonzero j = not (is_zero c.problem.p (value j))

      value_is : (j : ℕ) → ev (field_of c) (suc (order c.problem j)) (in_K point) (row u j) ≡ value j
      value_is j = ev_powers (field_of c) (suc (order c.problem j)) (in_K point) (row u j)

-- WHAT L5 WANTS, OF TWO FILES

abbrev by_reading : List ℕ → ℕ → Result Claim → Drawn
by_reading u point x = elim x [ refused r ↦ unread r | got c q ↦ judge_drawn_claim c u point ]

-- The answer on two files that the readers accept is that on the claim read.
pub drawn_of_claim : (s t : List ℕ) (c : Claim) (q : Place) → read_claim s t ≡ got c q
    → (u : List ℕ) (point : ℕ) → judge_drawn s t u point ≡ judge_drawn_claim c u point
unfolding judge_drawn
drawn_of_claim s t c q e u point = ap (by_reading u point) e
