-- What holds of lists that are changed number by number, and of the largest from the end. No proof cites it now; it stands because it was stated.
--   cutting_start, cutting_more, cutting_passed      nothing changed yet, one number more, and one that stays
--   max_below_more           the largest of what comes later, and the one before it
use Rattle.std.specs.Prelude.{◌≡◌, refl, List, length, set, get_or}
use Rattle.std.proofs.Common.{sym, subst, ◌∙◌, add-zero, arith, length-set, get_or-set_same, get_or-set_other}
use Rattle.std.proofs.Math.Path.{ap, ap₂, fun_ext}
use Rattle.std.proofs.Math.Logic.{by_cases}
use Prim.Native.Nat.{ℕ, suc, max, ◌+◌, ◌-◌, ◌≤◌, ◌<◌}
use Rattle.std.proofs.Math.Decide.{ℕ_discrete}
use Rattle.rules.specs.Conditions.{max_below}
use Rattle.basis_making.specs.Cut.{Cutting}

module _ (n : ℕ) (g : ℕ → ℕ) (before : List ℕ) where
  pub cutting_start : length before ≡ n → Cutting n g before 0 before
  cutting_start full = record { full = full; changed = λ a h. absurd (omega arith); same = λ a h. refl }

  pub cutting_more : (k : ℕ) (after : List ℕ) (x : ℕ) → k < n → x ≡ g k → Cutting n g before k after → Cutting n g before (k + 1) (set after k x)
  cutting_more k after x hk e so_far = record {
    full = length-set after k x ∙ so_far.full;
    changed = λ a h. by_cases (ℕ_discrete a k)
        (λ z. ap (λ a. get_or (set after k x) a 0) z ∙ get_or-set_same after k x 0 (subst (λ n. k < n) (sym so_far.full) hk) ∙ e ∙ ap g (sym z))
        (λ ne. get_or-set_other after k a x 0 ne ∙ so_far.changed a (omega arith));
    same = λ a h. get_or-set_other after k a x 0 (λ z. absurd (omega arith)) ∙ so_far.same a (omega arith);
  }

  pub cutting_passed : (k : ℕ) (after : List ℕ) → get_or before k 0 ≡ g k → Cutting n g before k after → Cutting n g before (k + 1) after
  cutting_passed k after e so_far = record {
    full = so_far.full;
    changed = λ a h. by_cases (ℕ_discrete a k)
        (λ z. ap (λ a. get_or after a 0) z ∙ so_far.same k (omega arith) ∙ e ∙ ap g (sym z)) (λ ne. so_far.changed a (omega arith));
    same = λ a h. so_far.same a (omega arith);
  }

pub max_below_more : (f : ℕ → ℕ) (n j : ℕ) → suc j ≤ n → max_below (n - j) (λ i. f (j + i)) ≡ max (f j) (max_below (n - suc j) (λ i. f (suc j + i)))
unfolding max_below
max_below_more f n j h =
    let one_more : n - j ≡ suc (n - suc j) = omega arith in
    let later : (i : ℕ) → j + suc i ≡ suc j + i = λ i. omega arith in
    ap (λ k. max_below k (λ i. f (j + i))) one_more
    ∙ ap₂ max (ap f (add-zero j)) (ap (max_below (n - suc j)) (fun_ext (λ i. ap f (later i))))
