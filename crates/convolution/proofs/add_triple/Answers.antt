use native.Mathlib.Omega.{arith}
use mathlib.Core.Path.{◌≡◌, refl, sym, ap, ◌∙◌}
use mathlib.Core.List.{List}
use Prim.Native.Nat.{ℕ, ◌+◌}
use native.Mathlib.Numerals.{add-one}
use lib.ListN.{get_or, set, length-set}
use Rattle.field.specs.declared.Modulus.{Modulus}
use Rattle.convolution.specs.Steps.{with_three, with_turns, with_triple}
use Rattle.convolution.proofs.add_triple.Goals as goal

pub loop-k-init : goal.loop-k-init
unfolding with_turns
loop-k-init c = (omega arith, (c.requires.top_bound.1.1, refl))

-- The sums after one turn more.
turned : (μ : Modulus) (at x y z : ℕ) (g : List ℕ) (k r : ℕ) (s₀ s : List ℕ) → r ≡ with_three μ x y z g k (get_or s (at + k) 0)
    → s ≡ with_turns μ at x y z g k s₀ → set s (at + k) r ≡ with_turns μ at x y z g (k + 1) s₀
unfolding with_turns
turned μ at x y z g k r s₀ s three e =
    ap (set s (at + k)) three
    ∙ ap (λ (l : List ℕ). set l (at + k) (with_three μ x y z g k (get_or l (at + k) 0))) e
    ∙ ap (λ n. with_turns μ at x y z g n s₀) (sym (add-one k))

pub loop-k-preserved : goal.loop-k-preserved
loop-k-preserved c =
    let at-loop = c.loop-k in
    let a = c.args in
    let f = a.f.now in (
      omega arith,
      (
        length-set at-loop.sums (a.at + at-loop.k) c.add_three.result ∙ at-loop.invariant.1.0,
        turned a.modulus a.at (get_or f (a.at + 2) 0) (get_or f (a.at + 3) 0) (get_or f (a.at + 4) 0) a.g.now at-loop.k
            c.add_three.result a.sums.now at-loop.sums c.add_three.ensures at-loop.invariant.1.1,
      ),
    )

pub returns : goal.returns
unfolding with_triple
returns c =
    let a = c.args in
    let f = a.f.now in
    let at-loop = c.loop-k in
    let turns : at-loop.k ≡ a.top + 3 = omega arith in
    at-loop.invariant.1.1
    ∙ ap (λ n. with_turns a.modulus a.at (get_or f (a.at + 2) 0) (get_or f (a.at + 3) 0) (get_or f (a.at + 4) 0) a.g.now n a.sums.now)
    turns
