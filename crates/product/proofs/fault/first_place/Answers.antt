use Rattle.std.proofs.Common.{◌≡◌, ℕ, ◌≤◌, ◌<◌, Bool, true, false, rules, arith, sym, lt_of_lt_of_le, subst, Option}
use Rattle.std.specs.Prelude.{MatchOption, None, Some}
use borrow.Author.Count.{below_more}
use Rattle.std.proofs.lemmas.Iterator.{first_from_Range}
use Rattle.std.proofs.lemmas.Option.{same_Some, none-some}
use Rattle.product.specs.Search.{Fails, First, first_place_fails, first_place_hit}
use Rattle.product.proofs.fault.first_place.Given.{Over, F-post}
use Rattle.product.proofs.fault.first_place.Goals.{After-find-column}
use Rattle.product.proofs.fault.first_place.Goals as goal

-- What a search of a row found: no column, or the first that passes.
abbrev Row : ℕ → (ℕ → Bool) → Option ℕ → Type 0
Row n test o = (o ≡ None → Fails n test) × ((j : ℕ) → o ≡ Some j → (j < n) × First n test j)

row_of : (n : ℕ) (test : ℕ → Bool) (o : Option ℕ)
    → MatchOption o ((k : ℕ) → 0 ≤ k → k < n → k < n → test k ≡ false)
    (λ j. (0 ≤ j) × (j < n) × (j < n → test j ≡ true) × ((k : ℕ) → 0 ≤ k → k < j → k < n → test k ≡ false))
    → Row n test o
row_of n test None h = (λ e k b. h k (omega arith) b b, λ j e. absurd (none-some j e))
row_of n test (Some a) (_, b, passes, before) = (
  λ e. absurd (none-some a (sym e)),
  λ j e.
      subst (λ j. (j < n) × First n test j) (same_Some a j e) (
        b,
        record {
          at_most = omega arith;
          before = λ k h. before k (omega arith) h (omega arith);
          passes = passes;
        },
      ),
)

searched : (g : Over) (c : After-find-column g) (faults : ℕ → ℕ → Bool)
    → ((i j : ℕ) (r : Bool) → i < c.args.m → j < c.args.n → F-post g c.args.fault i j r → r ≡ faults i j)
    → Row c.args.n (faults c.loop-i.i-counter) c.find-column.result
searched g c faults agree =
    let test = faults c.loop-i.i-counter in
    row_of c.args.n test c.find-column.result
    (first_from_Range _ _ _ c.find-column.result (λ j. j < c.args.n → test j ≡ true) (λ j. j < c.args.n → test j ≡ false) c.find-column.ensures.ran
    (λ x q k b. sym (agree c.loop-i.i-counter x true c.loop-i-test.true b (search rules)))
    (λ x q k. (search rules, λ b. sym (agree c.loop-i.i-counter x false c.loop-i-test.true b (search rules)))))

pub returns-in-Some : goal.returns-in-Some
returns-in-Some g c =
    λ faults agree.
    let (b, first) = (searched g (goal.at.returns-in-Some g c).After-find-column faults agree).1 c.in-Some.j c.in-Some.is in
    sym (first_place_hit c.args.m c.args.n faults c.loop-i.i-counter c.in-Some.j c.loop-i-test.true (c.loop-i.invariant faults agree) b first)

pub loop-i-preserved : goal.loop-i-preserved
loop-i-preserved g c =
    λ faults agree.
    below_more (λ row. Fails c.args.n (faults row)) c.loop-i.i-counter (c.loop-i.invariant faults agree) ((searched g (goal.at.loop-i-preserved g c).After-find-column faults agree).0 c.in_default.is)

pub returns : goal.returns
returns g c =
    λ faults agree.
    sym (first_place_fails c.args.m c.args.n faults (λ row b. c.loop-i.invariant faults agree row (lt_of_lt_of_le b c.loop-i-test.false)))
