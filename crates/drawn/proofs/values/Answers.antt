use Rattle.std.proofs.Common.{arith, rules, ◌++◌, [], suc, sym, subst, add-one, below_none, le_of_lt, drop}
use Rattle.rules.specs.Sizes.{most_rows, most_length}
use Rattle.drawn.specs.Values.{Valued, filled_more, powered_none, powered_more, valued_none, valued_more}
use Rattle.drawn.proofs.First.{length_first, times_first, added_first}
use Rattle.drawn.proofs.values.Goals as goal

pub loop-x-init : goal.loop-x-init
unfolding most_rows most_length
loop-x-init c =
    let a = c.args in
    let head = a.head.now in
    let sound = c.requires.head.0 in
    record {
      table_long = search rules;
      row_long = search rules;
      sums_long = search rules;
      powered = powered_none head.p head.m a.u.now a.basis.now.entries a.point c.requires.first_below.0;
      valued = valued_none head.p head.m a.u.now a.basis.now.entries a.point (le_of_lt sound.prime.two_le) sound.rows_most;
      table = below_none _;
    }

pub loop-x-preserved : goal.loop-x-preserved
unfolding most_rows most_length
loop-x-preserved c =
    let a = c.args in
    let head = a.head.now in
    let l = c.loop-x in
    let inv = l.invariant in
    let positive = le_of_lt c.requires.head.0.prime.two_le in
    let most = c.requires.head.0.rows_most in
    let sums = c.add_power.new.values ++ drop head.m l.sums in
    let next : Valued head.p head.m a.u.now a.basis.now.entries a.point (suc l.x) sums =
    valued_more head.p head.m a.u.now a.basis.now.entries a.point l.x positive (omega arith) inv.valued inv.powered
    (added_first head.p head.m l.sums l.row a.basis.now.entries c.add_power.new.values l.x (omega arith) c.add_power.auto.values
    c.add_power.ensures) in
    record {
      table_long = search rules;
      row_long = omega (arith, length_first head.m l.row c.times_point.new.row (omega arith) c.times_point.auto.row);
      sums_long = omega (arith, length_first head.m l.sums c.add_power.new.values (omega arith) c.add_power.auto.values);
      powered = powered_more head.p head.m a.u.now a.basis.now.entries a.point l.x positive inv.powered
          (times_first head.p head.m l.row c.times_point.new.row a.point (omega arith) c.times_point.auto.row c.times_point.ensures);
      valued = subst (λ n. Valued head.p head.m a.u.now a.basis.now.entries a.point n sums) (sym (add-one l.x)) next;
      table = filled_more [] (λ k values. Valued head.p head.m a.u.now a.basis.now.entries a.point (suc k) values) l.table l.x
          sums (omega (arith, inv.table_long)) inv.table next;
    }
