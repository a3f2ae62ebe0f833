use Rattle.std.proofs.Common.{◌≡◌, ℕ, ℤ, ◌-◌, sym, ap, ap₂, ◌∙◌, arith, rules, w32, to_z, of_z, ◌-ℤ◌, ◌+ℤ◌}
use mir.Val.{SFits}
use lib.IntN.{+ℤ_comm}
use Rattle.std.proofs.lemmas.Int.{to_z-of_z}
use Rattle.algebra.specs.Integer.{nat_abs_add}
use Rattle.degrees.specs.Signed.{mag_le}
use Rattle.std.specs.Prelude.{Option, Some}
use Rattle.rules.specs.Conditions.{plus, total, less}
use Rattle.rules.specs.Sizes.{most_rows, most_length, most_shift}
use Rattle.layout.specs.Flat.{shift_at}
use Rattle.degrees.specs.From.{from_zero}
use Rattle.degrees.specs.Degrees.{excess, excess_none, excess_size, total_from, total_from_end, total_from_step, total_from_size, total_excess}
use Rattle.degrees.proofs.Degrees.{shift_back, difference_small}
use Rattle.degrees.proofs.degree_sum.Goals as goal

pub loop-i-init : goal.loop-i-init
loop-i-init c = (search rules, sym (total_from_end (excess c.args.basis.now.lengths c.args.head.now.shifts c.args.head.now.m) c.args.head.now.m))

pub returns-in_err-row : goal.returns-in_err-row
returns-in_err-row c =
    c.from_residual.ensures
    ∙ sym (excess_none c.args.basis.now.lengths c.args.head.now.shifts c.args.head.now.m (c.loop-i.i - 1) (omega arith) (sym c.in_err-row.ensures))

pub minus-sum-requires : goal.minus-sum-requires
minus-sum-requires c =
    let back : to_z w32 (of_z w32 c.in_ok-row.row) ≡ c.in_ok-row.row = search rules in
    let i = c.loop-i.i - 1 in
    rw back (difference_small c.args.basis.now.lengths c.args.head.now.shifts c.requires.sized c.args.head.now.m i i c.in_ok-row.row (sym c.in_ok-row.ensures))

-- What the row adds: its degree less the shift.
added : (c : goal.After-minus-sum) → excess c.args.basis.now.lengths c.args.head.now.shifts c.args.head.now.m (c.loop-i.i - 1) ≡ Some c.minus-sum.result
added c =
    let shifts = c.args.head.now.shifts in
    let back : to_z w32 (of_z w32 c.in_ok-row.row) ≡ c.in_ok-row.row = search rules in
    ap (λ o. less o (shift_at shifts (c.loop-i.i - 1))) (sym c.in_ok-row.ensures)
    ∙ ap Some (sym (c.minus-sum.ensures ∙ ap₂ ◌-ℤ◌ back (shift_back c.args.basis.now.lengths shifts c.requires.sized (c.loop-i.i - 1))))

-- It and the sum so far are small enough to be added.
fits : (c : goal.After-minus-sum) → SFits w32 (to_z w32 c.loop-i.sum-bits +ℤ c.minus-sum.result)
unfolding most_rows most_length most_shift
fits c =
    let lengths = c.args.basis.now.lengths in
    let head = c.args.head.now in
    let sum = to_z w32 c.loop-i.sum-bits in
    omega (
      arith,
      mag_le (sum +ℤ c.minus-sum.result),
      nat_abs_add sum c.minus-sum.result,
      excess_size lengths head.shifts c.requires.sized head.m (c.loop-i.i - 1) c.minus-sum.result (added c),
      total_from_size lengths head.shifts c.requires.sized head.m c.loop-i.i sum (sym c.loop-i.invariant.1),
    )

pub overflow_add-sum : goal.overflow_add-sum
overflow_add-sum c =
    let back : to_z w32 (of_z w32 c.minus-sum.result) ≡ c.minus-sum.result = search rules in
    rw back (fits c)

pub loop-i-preserved : goal.loop-i-preserved
loop-i-preserved c =
    let head = c.args.head.now in
    let f = excess c.args.basis.now.lengths head.shifts head.m in
    let sum = to_z w32 c.loop-i.sum-bits in
    let back : to_z w32 (of_z w32 c.minus-sum.result) ≡ c.minus-sum.result = search rules in (
      search rules,
      ap (λ z. Some (to_z w32 (of_z w32 (sum +ℤ z)))) back
          ∙ ap Some (to_z-of_z w32 (sum +ℤ c.minus-sum.result) (fits c) ∙ +ℤ_comm sum c.minus-sum.result)
          ∙ ap₂ plus (sym (added c)) c.loop-i.invariant.1
          ∙ total_from_step f head.m c.loop-i.i (omega arith) (omega arith),
    )

pub returns : goal.returns
returns c =
    let f : ℕ → Option ℤ = excess c.args.basis.now.lengths c.args.head.now.shifts c.args.head.now.m in
    c.loop-i.invariant.1
    ∙ ap (total_from f c.args.head.now.m) (omega arith)
    ∙ from_zero total f c.args.head.now.m
    ∙ total_excess c.args.basis.now.lengths c.args.head.now.shifts c.args.head.now.m
