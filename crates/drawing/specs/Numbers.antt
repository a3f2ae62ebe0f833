-- The numbers drawn, and the answer on a claim in arrays.
--   too_large_at             the number drawn at a place is p or more
--   Judged                   the rules' answer on the claim that they stand for
--   JudgedIn                 the same of the code's structs, whole
--   judged_too_large, judged_by_columns      what it is in each case, by the numbers drawn
--   judged_at_place, judged_at_none          the same by what the search finds
--   first_of_all             the first number that is too large, as the code finds it
use Rattle.std.specs.Prelude.{◌≡◌, refl, Bool, true, false, List, ℕ, suc, ◌+◌, ◌≤◌, ◌<◌, leb, get_or, length, take, MatchOption}
use Rattle.std.proofs.Math.Path.{sym, ap}
use Rattle.std.proofs.Common.{subst, ◌∙◌, le_refl, lt-ltb, le-ltb, le-leb, leb-false}
use Rattle.std.proofs.Math.Bool.{cond}
use Rattle.std.specs.Prelude.{Option, None, Some}
use Rattle.std.specs.Option.{option_or}
use Rattle.std.specs.Bool.{then_some}
use Rattle.std.proofs.Math.Logic.{by_cases}
use Rattle.std.proofs.Math.Decide.{dec_lt}
use Rattle.std.proofs.lemmas.List.{get_or-take, length-take}
use native.Mathlib.Omega.{arith}
use Rattle.std.proofs.lemmas.Bool.{lt-leb}
use Rattle.rules.specs.Drawn.{Drawn, may_pass, turned_away, too_large, drawn_number, first_too_large, every_column_zero, judge_drawn_claim}
use Rattle.laws.specs.SearchLaws.{first_below_none, first_below_some}
use Rattle.claim.specs.declared.Head.{Head}
use Rattle.claim.specs.declared.Problem.{Problem as ProblemStruct}
use Rattle.claim.specs.declared.Answer.{Answer as AnswerStruct}
use Rattle.claim.specs.Claims.{problem_of, basis_of, constants_of, claim_of}
use Rattle.claim.specs.Sound.{SoundBasis}
use Rattle.product.specs.Search.{First}
use Rattle.drawn.specs.Sums.{FirstBelow}

-- The number drawn at a place is p or more.
abbrev pub too_large_at : (p m : ℕ) → List ℕ → (point : ℕ) → ℕ → Bool
too_large_at p m u point place = leb p (drawn_number m u point place)

-- d is the rules' answer on the claim that the arrays stand for, whatever lengths of P's entries they fit.
abbrev pub Judged : Head → (f entries c u : List ℕ) → ℕ → Drawn → Type 0
Judged head f entries c u point d =
    (lengths : List ℕ) → SoundBasis head lengths entries → d ≡ judge_drawn_claim (claim_of head f lengths entries c) u point

-- The same of the code's structs.
abbrev pub JudgedIn : ProblemStruct → AnswerStruct → List ℕ → ℕ → Drawn → Type 0
JudgedIn b a u point d = Judged b.head b.f a.basis.entries a.c u point d

-- The number drawn at a place of u, and the point.
pub at_u : (m : ℕ) (u : List ℕ) (point place : ℕ) → place < m → drawn_number m u point place ≡ get_or u place 0
unfolding drawn_number
at_u m u point place h = ap (λ b. elim b as (λ _. ℕ) [ true ↦ get_or u place 0 | false ↦ point ]) (lt-ltb place m h)

pub at_point : (m : ℕ) (u : List ℕ) (point : ℕ) → drawn_number m u point m ≡ point
unfolding drawn_number
at_point m u point = ap (λ b. elim b as (λ _. ℕ) [ true ↦ get_or u m 0 | false ↦ point ]) (le-ltb m m (le_refl m))

-- What a number tells of its place.
pub number_large : (p m : ℕ) (u : List ℕ) (point place : ℕ) {x : ℕ} → drawn_number m u point place ≡ x → p ≤ x
    → too_large_at p m u point place ≡ true
number_large p m u point place {x} e h = ap (leb p) e ∙ le-leb p x h

pub number_small : (p m : ℕ) (u : List ℕ) (point place : ℕ) {x : ℕ} → drawn_number m u point place ≡ x → x < p
    → too_large_at p m u point place ≡ false
number_small p m u point place {x} e h = ap (leb p) e ∙ lt-leb p x h

-- The first number that is too large stands at m at most.
pub place_at_most : (p m : ℕ) (u : List ℕ) (point place : ℕ) → Some place ≡ first_too_large p m u point → place ≤ m
unfolding first_too_large
place_at_most p m u point place e =
    let first = (first_below_some (suc m) (too_large_at p m u point) place).0 (sym e) in omega (arith, first.0)

-- What the search finds is the first of them, …
pub too_large_first : (p m : ℕ) (u : List ℕ) (point place : ℕ) → Some place ≡ first_too_large p m u point → First (m + 1) (too_large_at p m u point) place
unfolding first_too_large
too_large_first p m u point place e =
    let first = (first_below_some (suc m) (too_large_at p m u point) place).0 (sym e) in
    record { at_most = omega (arith, first.0); before = first.2; passes = λ h. first.1 }

-- … and none that is read is too large, where it finds none.
pub none_too_large : (p m : ℕ) (u : List ℕ) (point : ℕ) → None ≡ first_too_large p m u point
    → (place : ℕ) → place < m + 1 → too_large_at p m u point place ≡ false
unfolding first_too_large
none_too_large p m u point none place h = (first_below_none (suc m) (too_large_at p m u point)).0 (sym none) place (omega arith)

-- No number is too large: all that are read are below p.
module _ (p m : ℕ) (u : List ℕ) (point : ℕ) (small : (place : ℕ) → place < m + 1 → too_large_at p m u point place ≡ false) where
  pub u_below_all : FirstBelow m p u
  u_below_all i h = subst (λ x. x < p) (at_u m u point i h) (leb-false p (drawn_number m u point i) (small i (omega arith)))

  pub point_below_all : point < p
  point_below_all = subst (λ x. x < p) (at_point m u point) (leb-false p (drawn_number m u point m) (small m (omega arith)))

-- The answer, by what the two tests find.
abbrev by_tests : Option ℕ → Bool → Drawn
by_tests o b = elim o [ Some place ↦ too_large place | None ↦ cond b may_pass turned_away ]

module _ (head : Head) (f lengths entries c u : List ℕ) (point : ℕ) where
  abbrev answer : Drawn
  answer = judge_drawn_claim (claim_of head f lengths entries c) u point

  abbrev columns : Bool
  columns = every_column_zero (problem_of head f) (basis_of head.m lengths entries) (constants_of head.m head.n c) u point

  -- 16, with the place of the first number that is too large, …
  pub judged_too_large : (place : ℕ) → First (head.m + 1) (too_large_at head.p head.m u point) place → place ≤ head.m
      → too_large place ≡ answer
  unfolding judge_drawn_claim first_too_large
  judged_too_large place first h =
      sym
      (ap (λ o. by_tests o columns)
      ((first_below_some (suc head.m) (too_large_at head.p head.m u point) place).1
      (omega arith, first.passes (omega arith), first.before)))

  -- … or, where there is none, "may pass" exactly when every column gives 0.
  pub judged_by_columns : (r : Bool) → ((place : ℕ) → place < head.m + 1 → too_large_at head.p head.m u point place ≡ false) → r ≡ columns
      → cond r may_pass turned_away ≡ answer
  unfolding judge_drawn_claim first_too_large
  judged_by_columns r small e =
      ap (λ b. cond b may_pass turned_away) e
      ∙ sym
      (ap (λ o. by_tests o columns)
      ((first_below_none (suc head.m) (too_large_at head.p head.m u point)).1 (λ place h. small place (omega arith))))

  -- The same by what the search finds.
  pub judged_at_place : (place : ℕ) → Some place ≡ first_too_large head.p head.m u point → too_large place ≡ answer
  judged_at_place place e =
      judged_too_large place (too_large_first head.p head.m u point place e) (place_at_most head.p head.m u point place e)

  pub judged_at_none : (r : Bool) → None ≡ first_too_large head.p head.m u point → r ≡ columns → cond r may_pass turned_away ≡ answer
  judged_at_none r none e = judged_by_columns r (none_too_large head.p head.m u point none) e

-- THE SEARCH

module _ (p m : ℕ) (u : List ℕ) (point : ℕ) (long : m ≤ length u) where
  abbrev read : List ℕ
  read = take m u

  -- A number of u that is read.
  at_read : (k : ℕ) → k < length read → drawn_number m u point k ≡ get_or read k 0
  at_read k h = let inside : k < m = omega (arith, length-take m u) in at_u m u point k inside ∙ sym (get_or-take m u k 0 inside)

  -- No number of u is too large: then it is the point, or none.
  then_point : ((k : ℕ) → k < length read → get_or read k 0 < p) → (b : Bool) → leb p point ≡ b → then_some b m ≡ first_too_large p m u point
  unfolding first_too_large
  then_point fails true e =
      sym ((first_below_some (suc m) (too_large_at p m u point) m).1 (
        omega arith,
        ap (leb p) (at_point m u point) ∙ e,
        λ k h.
            let inside : k < length read = omega (arith, length-take m u) in number_small p m u point k (at_read k inside) (fails k inside),
      ))
  then_point fails false e =
      sym ((first_below_none (suc m) (too_large_at p m u point)).1 (λ k h. by_cases (dec_lt k m)
      (λ h'. let inside : k < length read = omega (arith, length-take m u) in number_small p m u point k (at_read k inside) (fails k inside))
      (λ h'. let last : k ≡ m = omega arith in ap (too_large_at p m u point) last ∙ ap (leb p) (at_point m u point) ∙ e)))

  -- The first number of u that is too large, or else the point, if it is.
  pub first_of_all : (o : Option ℕ)
      → MatchOption o ((k : ℕ) → k < length read → get_or read k 0 < p)
      (λ i. (i < length read) × ((p ≤ get_or read i 0) × ((k : ℕ) → k < i → get_or read k 0 < p)))
      → option_or o (then_some (leb p point) m) ≡ first_too_large p m u point
  unfolding first_too_large
  first_of_all None h = then_point h (leb p point) refl
  first_of_all (Some i) h =
      sym ((first_below_some (suc m) (too_large_at p m u point) i).1 (
        omega (arith, h.0, length-take m u),
        number_large p m u point i (at_read i h.0) h.1.0,
        λ k h'.
            let inside : k < length read = omega (arith, h.0) in number_small p m u point k (at_read k inside) (h.1.1 k h'),
      ))
