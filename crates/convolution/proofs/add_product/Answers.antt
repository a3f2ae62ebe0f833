use native.Mathlib.Omega.{arith}
use Rattle.convolution.specs.Padded.{capacity}
use mathlib.Core.Path.{◌≡◌, refl, ap, ◌∙◌}
use mathlib.Core.List.{List}
use Prim.Native.Nat.{ℕ, suc, ◌+◌, ◌*◌, ◌/◌, ◌%◌}
use Rattle.field.specs.declared.Modulus.{Modulus}
use lib.ListN.{length}
use Rattle.convolution.specs.Steps.{with_triple, with_triples, with_product, length_triple}
use Rattle.convolution.proofs.add_product.Goals as goal

pub loop-at-init : goal.loop-at-init
unfolding with_triples
loop-at-init c = (refl, (omega arith, (c.requires.top_bound.1.1, refl)))

-- The sums after three terms more.
more : (μ : Modulus) (top : ℕ) (f g : List ℕ) (at : ℕ) (s₀ s s' : List ℕ) → at % 3 ≡ 0 → s' ≡ with_triple μ at top f g s → length s ≡ capacity
    → s ≡ with_triples μ top f g (at / 3) s₀ → (length s' ≡ capacity) × (s' ≡ with_triples μ top f g ((at + 3) / 3) s₀)
unfolding with_triples
more μ top f g at s₀ s s' third three long e =
    let here : at ≡ 3 * (at / 3) = omega arith in
    let next : suc (at / 3) ≡ (at + 3) / 3 = omega arith in (
      ap length three ∙ length_triple μ at top f g s ∙ long,
      three
          ∙ ap (with_triple μ at top f g) e
          ∙ ap (λ k. with_triple μ k top f g (with_triples μ top f g (at / 3) s₀)) here
          ∙ ap (λ j. with_triples μ top f g j s₀) next,
    )

pub loop-at-preserved : goal.loop-at-preserved
loop-at-preserved c =
    let at-loop = c.loop-at in
    let a = c.args in (
      omega (arith, at-loop.invariant.0),
      (
        omega arith,
        more a.modulus a.top a.f.now a.g.now at-loop.at a.sums.now at-loop.sums c.add_triple.new.sums at-loop.invariant.0
            c.add_triple.ensures at-loop.invariant.1.1.0 at-loop.invariant.1.1.1,
      ),
    )

pub returns : goal.returns
unfolding with_product
returns c =
    let at-loop = c.loop-at in
    let a = c.args in
    let turns : at-loop.at / 3 ≡ (a.count + 2) / 3 = omega (arith, at-loop.invariant.0, at-loop.invariant.1.0) in
    at-loop.invariant.1.1.1 ∙ ap (λ j. with_triples a.modulus a.top a.f.now a.g.now j a.sums.now) turns

-- The last turn ends the loop too.
pub returns-2 : goal.returns-2
unfolding with_product
returns-2 c =
    let at-loop = c.loop-at in
    let a = c.args in
    let turns : (at-loop.at + 3) / 3 ≡ (a.count + 2) / 3 = omega (arith, at-loop.invariant.0) in
    let done = more a.modulus a.top a.f.now a.g.now at-loop.at a.sums.now at-loop.sums c.add_triple.new.sums at-loop.invariant.0 c.add_triple.ensures
    at-loop.invariant.1.1.0 at-loop.invariant.1.1.1 in
    done.1 ∙ ap (λ j. with_triples a.modulus a.top a.f.now a.g.now j a.sums.now) turns
