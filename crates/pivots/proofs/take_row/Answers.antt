use Rattle.std.proofs.Common.{arith, sym, subst, set}
use Rattle.rules.specs.Sizes.{most_rows}
use Rattle.rules.specs.Maker.{take_row}
use Rattle.pivots.specs.Reduced.{all}
use Rattle.pivots.specs.State.{Pivoted, Reflects, reflects_combined, reflects_pivot}
use Rattle.pivots.proofs.take_row.Goals as goal

pub returns-in-None : goal.returns-in-None
returns-in-None c A chosen before same waits h =
    let a = c.args in
    let choice = a.choice.now in
    let work = a.work.now in
    subst (λ l. Reflects a.p a.m A (take_row a.p a.m most_rows all A a.i chosen) l choice.moves work.residuals work.constants c.copy_row.new.out)
    (sym same)
    (reflects_combined a.p c.requires.prime a.m c.requires.i_lt_m.1.0 A chosen before choice.moves work.residuals work.constants choice.factors h
    a.i (omega arith) waits c.copy_row.new.out c.in-None.ensures c.copy_row.ensures)

pub returns-in-Some : goal.returns-in-Some
returns-in-Some c A chosen before same waits h =
    let a = c.args in
    let choice = a.choice.now in
    let work = a.work.now in
    let first = c.in-Some in
    let cleared = c.clear_by.new.work in
    subst
    (λ l. Reflects a.p a.m A (take_row a.p a.m most_rows all A a.i chosen) l (set choice.moves a.i 1) cleared.residuals cleared.constants
    choice.factors)
    (sym same)
    (reflects_pivot a.p c.requires.prime a.m c.requires.i_lt_m.1.0 A chosen before choice.moves work.residuals work.constants choice.factors h
    a.i (omega arith) waits first.c cleared.residuals cleared.constants first.ensures.inside first.ensures.nonzero
    (subst (λ l. Pivoted a.p work.residuals work.constants l a.i first.c a.m cleared.residuals cleared.constants) same c.clear_by.ensures))
