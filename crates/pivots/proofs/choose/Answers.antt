use Rattle.std.proofs.Common.{◌≡◌, refl, false, sym, subst, ◌∙◌, true≢false, suc, ◌-◌, ◌+◌, ◌<◌, length, get_or-set_same, arith, rules}
use Rattle.std.proofs.Math.Nat.{sub-zero}
use Rattle.rules.specs.Sizes.{most_rows}
use Rattle.rules.specs.Table.{table}
use Rattle.laws.specs.RowOrder.{next_row_some}
use Rattle.pivots.specs.Order.{degree_at, is_taken}
use Rattle.pivots.specs.Rows.{square_of, same_at, zeros_at}
use Rattle.pivots.specs.State.{reflects_start}
use Rattle.pivots.specs.Fold.{Folds, folds_start, folds_taken, folds_none, folds_end}
use Rattle.pivots.proofs.choose.Goals as goal
use Rattle.pivots.proofs.choose.Goals.{in-Some, in_default}

pub loop-init : goal.loop-init
unfolding most_rows table
loop-init c =
    let a = c.args in
    let square = square_of a.p a.residuals.now in
    rw (sub-zero a.m) (folds_start a.p a.m (degree_at a.degrees.now) square _ _ a.residuals.now c.identity.result c.identity-2.result
    (reflects_start a.p c.requires.prime a.m c.requires.m_le_most_rows square _ _ a.residuals.now c.identity.result c.identity-2.result
    refl refl (same_at false most_rows) (zeros_at most_rows) (search rules) c.requires.each (λ i j hi hj. refl) c.identity.ensures c.identity-2.ensures))

pub bounds-taken-i : goal.bounds-taken-i
unfolding most_rows
bounds-taken-i c =
    let a = c.args in
    omega (arith, (next_row_some (degree_at a.degrees.now) (is_taken c.loop.taken) a.m c.in-Some.i (sym c.in-Some.ensures)).0)

pub take_row-requires-clause-i_lt_m : goal.take_row-requires-clause-i_lt_m
take_row-requires-clause-i_lt_m c =
    let a = c.args in
    let l = c.loop in
    let hi = (next_row_some (degree_at a.degrees.now) (is_taken l.taken) a.m c.in-Some.i (sym c.in-Some.ensures)).0 in
    let inside : c.in-Some.i < length l.taken = omega (arith, l.invariant.reflects.taken_full) in
    (hi, (c.requires.m_le_most_rows, λ e. true≢false (sym (get_or-set_same l.taken c.in-Some.i _ _ inside) ∙ e)))

pub loop-preserved : goal.loop-preserved
loop-preserved c =
    let a = c.args in
    let l = c.loop in
    let degree = degree_at a.degrees.now in
    let square = square_of a.p a.residuals.now in
    let left : a.m - l.counter ≡ suc (a.m - (l.counter + 1)) = omega arith in
    let so_far = subst (λ n. Folds a.p a.m degree square n l.taken l.choice.moves l.work.residuals l.work.constants l.choice.factors) left l.invariant in
    elim c.match-next_row.branch [
      | in-Some w ↦
          rw (w.work-is, w.choice-is, w.taken-is) (folds_taken a.p a.m degree square (a.m - (l.counter + 1)) l.taken l.choice.moves l.work.residuals
          l.work.constants l.choice.factors so_far _ _ _ _ w.in-Some.i w.in-Some.ensures w.take_row.ensures)
      | in_default w ↦
          rw (w.work-is, w.choice-is, w.taken-is) (folds_none a.p a.m degree square (a.m - (l.counter + 1)) l.taken l.choice.moves l.work.residuals
          l.work.constants l.choice.factors so_far w.in_default.ensures)
    ]

pub returns : goal.returns
returns c =
    let a = c.args in
    let l = c.loop in
    let none_left : a.m - l.counter ≡ 0 = omega arith in
    let degree = degree_at a.degrees.now in
    let square = square_of a.p a.residuals.now in
    folds_end a.p a.m degree square l.taken l.choice.moves l.work.residuals l.work.constants l.choice.factors
    (subst (λ n. Folds a.p a.m degree square n l.taken l.choice.moves l.work.residuals l.work.constants l.choice.factors) none_left l.invariant)
