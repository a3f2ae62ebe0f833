-- L5: "u has the largest m places; those from m on aren't read."
--   UnreadNumbers, unread_numbers      the numbers of u from m on make no difference
use Rattle.std.specs.Prelude.{◌≡◌, Bool, cond, List, ℕ, suc, ◌<◌, get_or}
use Rattle.std.proofs.Math.Path.{refl, ap, ap₂, fun_ext}
use Rattle.std.proofs.Common.{sym, ◌∙◌, ltb-true}
use Rattle.std.proofs.Math.Bool.{true, false, not}
use Rattle.std.specs.Prelude.{Option, None, Some}
use Rattle.std.proofs.Math.Dec.{leb, ltb}
use Rattle.algebra.specs.Ring.{power}
use Rattle.algebra.specs.Residue.{Residue, red}
use Rattle.algebra.specs.Sum.{sum, sum_cong}
use Rattle.rules.specs.Claim.{Claim}
use Rattle.rules.specs.Matrices.{order}
use Rattle.rules.specs.Conditions.{is_zero, some_below, first_below}
use Rattle.rules.specs.Reader.{Place, got}
use Rattle.rules.specs.Files.{read_claim}
use Rattle.rules.specs.Drawn.{cut, cut_row, drawn_value, every_column_zero, Drawn, may_pass, turned_away, too_large, drawn_number, first_too_large}
use Rattle.rules.specs.Drawn.{judge_drawn_claim, judge_drawn}
use Rattle.meaning.specs.Generating.{field_of}
use Rattle.meaning.specs.DrawnMeaning.{drawn_of_claim}

-- Whatever stands there, the answer is the same.
abbrev pub UnreadNumbers : Type 0
UnreadNumbers = (s t : List ℕ) (c : Claim) (q : Place) → read_claim s t ≡ got c q
    → (u v : List ℕ) → ((i : ℕ) → i < c.problem.m → get_or u i 0 ≡ get_or v i 0)
    → (point : ℕ) → judge_drawn s t u point ≡ judge_drawn s t v point

abbrev by_tests : Option ℕ → Bool → Drawn
by_tests o b = elim o [ Some place ↦ too_large place | None ↦ cond b may_pass turned_away ]

-- Two lists with the same first m numbers: every number drawn that is read is the same, …
module _ (c : Claim) (u v : List ℕ) (same : (i : ℕ) → i < c.problem.m → get_or u i 0 ≡ get_or v i 0) (point : ℕ) where
  abbrev picked : Bool → List ℕ → ℕ → ℕ
  picked b l place = elim b [ true ↦ get_or l place 0 | false ↦ point ]

  same_number : (place : ℕ) → drawn_number c.problem.m u point place ≡ drawn_number c.problem.m v point place
  unfolding drawn_number
  same_number place = by (ltb place c.problem.m) refl
    where
      by : (b : Bool) → ltb place c.problem.m ≡ b → picked b u place ≡ picked b v place
      by true e = same place (ltb-true place c.problem.m e)
      by false e = refl

  same_too_large : first_too_large c.problem.p c.problem.m u point ≡ first_too_large c.problem.p c.problem.m v point
  unfolding first_too_large
  same_too_large = ap (λ number. first_below (suc c.problem.m) (λ place. leb c.problem.p (number place))) (fun_ext same_number)

  -- … and so is every column's value.
  term : List ℕ → ℕ → ℕ → ℕ → Residue c.problem.p
  term l j k i = (field_of c).◌⊗◌ (red c.problem.p (get_or l i 0)) (cut c.problem c.answer.P c.answer.C i j k)

  row : List ℕ → ℕ → ℕ → Residue c.problem.p
  row = cut_row c.problem c.answer.P c.answer.C

  same_row : (j k : ℕ) → row u j k ≡ row v j k
  unfolding row cut_row term
  same_row j k =
      sum_cong (field_of c) c.problem.m (term u j k) (term v j k)
      (λ i h. ap (λ x. (field_of c).◌⊗◌ (red c.problem.p x) (cut c.problem c.answer.P c.answer.C i j k)) (same i h))

  abbrev columns : List ℕ → Bool
  columns l = every_column_zero c.problem c.answer.P c.answer.C l point

  value : (ℕ → ℕ → Residue c.problem.p) → ℕ → Residue c.problem.p
  value r j = sum (field_of c) (suc (order c.problem j)) (λ k. (field_of c).◌⊗◌ (r j k) (power (field_of c) (red c.problem.p point) k))

  same_columns : columns u ≡ columns v
  unfolding every_column_zero drawn_value row value
  same_columns =
      ap (λ r. not (some_below c.problem.n (λ j. not (is_zero c.problem.p (value r j))))) (fun_ext (λ j. fun_ext (λ k. same_row j k)))

  same_answer : judge_drawn_claim c u point ≡ judge_drawn_claim c v point
  unfolding judge_drawn_claim
  same_answer = ap₂ by_tests same_too_large same_columns

pub unread_numbers : UnreadNumbers
unread_numbers s t c q e u v same point =
    drawn_of_claim s t c q e u point ∙ same_answer c u v same point ∙ sym (drawn_of_claim s t c q e v point)
