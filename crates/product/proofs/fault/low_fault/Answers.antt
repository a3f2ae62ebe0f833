use Rattle.std.proofs.Common.{◌≡◌, ℕ, ◌<◌, Bool, true, false, rules, arith, refl, sym, ◌∙◌, zero-add, get_or, length}
use borrow.Author.Tests.{tests}
use Rattle.std.proofs.lemmas.Iterator.{YieldsList-from_range, cases_from_any}
use Rattle.std.proofs.lemmas.List.FromFn.{length-range_with_len, get_or-range_with_len}
use Rattle.std.specs.Bool.{MatchBool}
use Rattle.std.specs.List.{range_with_len, AllWithin, HoldsAt}
use Rattle.rules.specs.Conditions.{some_below}
use Rattle.product.specs.Faults.{low_test, flat_low_fault}
use Rattle.product.specs.Search.{some_below_fails, some_below_hit}
use Rattle.product.proofs.fault.low_fault.Goals as goal

-- What `any` finds in the numbers below n.
from_any : (n : ℕ) (test : ℕ → Bool) (r : Bool)
    → MatchBool r ((k : ℕ) × (k < length (range_with_len 0 n)) × HoldsAt (λ x. test x ≡ true) (range_with_len 0 n) k)
    (AllWithin (λ x. test x ≡ false) (range_with_len 0 n) 0 (length (range_with_len 0 n)))
    → r ≡ some_below n test
from_any n test true (k, b, h) =
    let within : k < n = omega (arith, length-range_with_len 0 n) in
    sym (some_below_hit n test k within (rw (get_or-range_with_len 0 n k 0 within ∙ zero-add k) at (h 0)))
from_any n test false h =
    sym (some_below_fails n test (λ k b. rw (get_or-range_with_len 0 n k 0 b ∙ zero-add k) at (h k 0 (omega arith) (omega (arith, length-range_with_len 0 n)))))

pub returns : goal.returns
unfolding flat_low_fault
returns c =
    let n = get_or c.args.problem.now.head.orders c.args.j 0 in
    let test = low_test c.args.problem.now.head c.args.problem.now.f c.args.basis.now.entries c.args.i c.args.j in
    from_any n test c.any.result
    (cases_from_any _ _ c.any.result (λ k. test k ≡ true) (λ k. test k ≡ false) c.any.ensures.ran (YieldsList-from_range 0 n n refl (omega arith))
    (λ x q k. search (rules, tests)) (λ x q k. search (rules, tests)))
