use Rattle.std.proofs.Common.{◌≡◌, ◌+◌, ◌-◌, ◌*◌, ◌≤◌, ◌<◌, ℕ, List, get_or, length, min, take, drop, sym, ap, ap₂, ◌∙◌, arith}
use Rattle.std.proofs.lemmas.List.{length-take-le, length-drop, get_or-take, get_or-drop}
use Rattle.rules.specs.Conditions.{sum_below}
use Rattle.rules.specs.Sizes.{most_order, most_length}
use Rattle.laws.specs.SumLaws.{sum_below_cong}
use Rattle.product.specs.Total.{grown_none, grown_at_most}
use Rattle.product.specs.Product.{dot, convolved, first_power, powers, convolved_dot}
use Rattle.product.proofs.coefficient.add_pair.Goals as goal

-- The part of a list from a place on up to another.
abbrev part : (from end : ℕ) → List ℕ → List ℕ
part from end l = take (end - from) (drop from l)

part_length : (from end : ℕ) (l : List ℕ) → from ≤ end → end ≤ length l → length (part from end l) ≡ end - from
part_length from end l h b = length-take-le (end - from) (drop from l) (omega (arith, length-drop from l))

part_at : (from end : ℕ) (l : List ℕ) (s : ℕ) → from + s < end → get_or (part from end l) s 0 ≡ get_or l (from + s) 0
part_at from end l s h = get_or-take (end - from) (drop from l) s 0 (omega arith) ∙ get_or-drop from l s 0

-- The products of two parts, of which the second goes down, are those of the lists.
module _ (p f : List ℕ) (x a y b : ℕ) (up_from : x ≤ a) (up_to : a ≤ length p) (down_from : y ≤ b) (down_to : b ≤ length f) (same : a - x ≡ b - y) where
  abbrev up : List ℕ
  up = part x a p

  abbrev down : List ℕ
  down = part y b f

  up_at : (s : ℕ) → s < a - x → get_or up (0 + s) 0 ≡ get_or p (x + s) 0
  up_at s h = part_at x a p (0 + s) (omega arith) ∙ ap (λ k. get_or p k 0) (omega arith)

  down_at : (s : ℕ) → s < a - x → get_or down (length down - 1 - s) 0 ≡ get_or f (b - 1 - s) 0
  down_at s h =
      ap (λ k. get_or down k 0) (omega (arith, part_length y b f down_from down_to))
      ∙ part_at y b f (b - y - 1 - s) (omega arith)
      ∙ ap (λ k. get_or f k 0) (omega arith)

  parts_dot : dot up down 0 (length down - 1) (length up) ≡ dot p f x (b - 1) (a - x)
  unfolding dot
  parts_dot =
      ap (λ k. sum_below k (λ s. get_or up (0 + s) 0 * get_or down (length down - 1 - s) 0)) (part_length x a p up_from up_to)
      ∙ sum_below_cong (a - x) (λ s. get_or up (0 + s) 0 * get_or down (length down - 1 - s) 0) (λ s. get_or p (x + s) 0 * get_or f (b - 1 - s) 0)
      (λ s h. ap₂ ◌*◌ (up_at s h) (down_at s h))

-- No products make 0.
dot_none : (p f : List ℕ) (x y n : ℕ) → n ≡ 0 → dot p f x y n ≡ 0
unfolding dot sum_below
dot_none p f x y n e = ap (λ n. sum_below n (λ s. get_or p (x + s) 0 * get_or f (y - s) 0)) e

pub returns-then-end-first : goal.returns-then-end-first
unfolding powers most_length
returns-then-end-first c =
    grown_at_most (grown_none c.args.total.high c.args.total.low) (omega arith)
    (convolved_dot c.args.p.now c.args.f.now c.args.k c.requires.lengths.1.0 ∙ dot_none c.args.p.now c.args.f.now _ _ _ (omega arith))

-- They are those that count.
counted : (n k first end : ℕ) → first ≡ first_power k → end ≡ min n (k + 1) → powers n k ≡ end - first
unfolding powers
counted n k first end first-is end-is = omega arith

products : (p f : List ℕ) (k first end : ℕ) → length f ≡ most_order → first ≡ first_power k → end ≡ min (length p) (k + 1) → first < end
    → convolved p f k ≡ dot p f first (k + 1 - first - 1) (end - first)
products p f k first end long first-is end-is h =
    convolved_dot p f k long
    ∙ ap (λ x. dot p f x (k - first_power k) (powers (length p) k)) (sym first-is)
    ∙ ap₂ (dot p f first) (omega arith) (counted (length p) k first end first-is end-is)

pub returns : goal.returns
unfolding first_power most_order most_length
returns c =
    let p = c.args.p.now in
    let f = c.args.f.now in
    let first = c.first_power-first.result in
    let end = c.min-end.result in
    let k = c.args.k in
    let up_to : end ≤ length p = omega arith in
    let down_to : k + 1 - first ≤ length f = omega arith in
    let up_from : first ≤ end = omega arith in
    grown_at_most c.add_products.ensures (omega (arith, part_length first end p up_from up_to))
    (products p f k first end c.requires.lengths.1.0 c.first_power-first.ensures c.min-end.ensures c.if-end-first.false
    ∙ sym (parts_dot p f first end (k + 1 - end) (k + 1 - first) up_from up_to (omega arith) down_to (omega arith)))
