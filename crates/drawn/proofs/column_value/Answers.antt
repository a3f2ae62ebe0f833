use Rattle.std.proofs.Common.{arith, List, length-take, ◌%◌, ℕ, ◌≡◌, refl, sym, subst, ap, ap₂, [], ◌∙◌, get_or, ◌<◌, ◌+◌, ◌-◌, ◌*◌, ◌≤◌, le_refl, le_of_lt, mod-lt}
use Rattle.rules.specs.Sizes.{most_rows, most_order}
use Rattle.layout.specs.Flat.{column_place}
use Rattle.drawn.specs.Sums.{plus_row, number_of}
use Rattle.drawn.proofs.First.{each_first, plus_row_first}
use Rattle.drawn.specs.Columns.{after_steps, flat_value, steps_none, step_taken}
use Rattle.drawn.proofs.column_value.Goals as goal

pub loop-k-init : goal.loop-k-init
loop-k-init c =
    let a = c.args in
    let b = a.problem.now in
    let arrays = c.requires.asked.arrays in
    let order : ℕ = get_or b.head.orders a.j 0 in
    let positive = le_of_lt arrays.sound_head.prime.two_le in
    record {
      down = le_refl order;
      below = subst (λ x. x < b.head.p) (sym c.first_value-value.ensures) (mod-lt _ positive);
      value =
          steps_none b.head.p b.head.m b.f a.answer.now.basis.entries a.answer.now.c a.u.now a.point order a.j positive
          (λ l hl. arrays.sound_columns.F_ends l a.j order hl c.requires.j_lt_n (le_refl order)) refl
          (c.first_value-value.ensures
          ∙ ap (λ x. (b.head.p - x.0) % b.head.p) (plus_row_first b.head.p b.head.m 0 a.u.now a.answer.now.c a.j most_rows))
          ∙ ap (after_steps b.head.p b.head.m b.f a.answer.now.basis.entries a.answer.now.c a.u.now a.point order a.j)
          (omega arith);
    }

pub next_value-value-requires-clause-below : goal.next_value-value-requires-clause-below
next_value-value-requires-clause-below c =
    let head = c.args.problem.now.head in
    let sound = c.requires.asked.arrays.sound_head in
    let power : ℕ = get_or head.orders c.args.j 0 - (c.loop-k.k - 1) in
    let row : List ℕ = get_or c.args.table.now power [] in (
      omega (arith, length-take head.m row, sound.rows_most),
      (
        each_first head.m row (le_of_lt sound.prime.two_le) (c.requires.table power (omega arith)).values_below,
        c.requires.asked.arrays.sound_columns.F_below,
      ),
    )

pub loop-k-preserved : goal.loop-k-preserved
loop-k-preserved c =
    let a = c.args in
    let b = a.problem.now in
    let arrays = c.requires.asked.arrays in
    let order : ℕ = get_or b.head.orders a.j 0 in
    let l = c.loop-k in
    -- The steps that were taken, of which this is the next.
    let x : ℕ = order - l.k in
    let more : order - (l.k - 1) ≡ x + 1 = omega arith in
    let power : l.k - 1 ≡ order - (x + 1) = omega arith in
    let most : order ≤ most_order = arrays.sound_head.orders_most a.j in
    let taken = step_taken b.head.p b.head.m b.f a.answer.now.basis.entries a.answer.now.c a.u.now a.point order a.j x l.value a.table.now
    (le_of_lt arrays.sound_head.prime.two_le) (omega arith) most l.invariant.value c.requires.table
    (c.next_value-value.ensures
    ∙ ap (λ x. x.0) (plus_row_first b.head.p b.head.m (c.from.result * c.from-in-loop-k.result) (get_or a.table.now (order - (l.k - 1)) []) b.f
    (column_place 0 a.j (l.k - 1)) most_order)
    ∙ ap (λ y. (plus_row b.head.p b.head.m y (get_or a.table.now (order - (l.k - 1)) []) b.f (column_place 0 a.j (l.k - 1)) most_order).0)
    (ap₂ ◌*◌ c.from.ensures c.from-in-loop-k.ensures)
    ∙ ap₂ (λ n k. (plus_row b.head.p b.head.m (l.value * a.point) (get_or a.table.now n []) b.f (column_place 0 a.j k) most_order).0) more power) in
    record {
      down = omega arith;
      below = taken.0;
      value = taken.1 ∙ ap (after_steps b.head.p b.head.m b.f a.answer.now.basis.entries a.answer.now.c a.u.now a.point order a.j) (sym more);
    }

pub returns : goal.returns
unfolding flat_value
returns c =
    let a = c.args in
    let b = a.problem.now in
    let order : ℕ = get_or b.head.orders a.j 0 in
    number_of b.head.p (le_of_lt c.requires.asked.arrays.sound_head.prime.two_le) c.loop-k.value c.loop-k.invariant.below
    (c.loop-k.invariant.value
    ∙ ap (after_steps b.head.p b.head.m b.f a.answer.now.basis.entries a.answer.now.c a.u.now a.point order a.j) (omega arith))
