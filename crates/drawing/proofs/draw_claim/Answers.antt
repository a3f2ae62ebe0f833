use Rattle.std.proofs.Common.{sym, ◌∙◌, true, false, arith}
use Rattle.rules.specs.Sizes.{most_rows}
use Rattle.drawing.specs.Numbers.{place_at_most, none_too_large, u_below_all, point_below_all, judged_at_place, judged_at_none}
use Rattle.drawing.proofs.draw_claim.Goals as goal

pub overflow_cast-result : goal.overflow_cast-result
unfolding most_rows
overflow_cast-result c =
    let a = c.args in
    let head = a.problem.now.head in
    omega (arith, place_at_most head.p head.m a.u.now a.point c.in-Some.place c.in-Some.ensures, c.requires.sound_head.rows_most)

pub every_column_zero-requires : goal.every_column_zero-requires
every_column_zero-requires c =
    let a = c.args in
    let head = a.problem.now.head in
    record {
      arrays = c.requires;
      u_below = u_below_all head.p head.m a.u.now a.point (none_too_large head.p head.m a.u.now a.point c.in-None.ensures);
      point_below = point_below_all head.p head.m a.u.now a.point (none_too_large head.p head.m a.u.now a.point c.in-None.ensures);
    }

pub returns-in-Some : goal.returns-in-Some
returns-in-Some c =
    let a = c.args in
    let b = a.problem.now in
    λ lengths sound.
    judged_at_place b.head b.f lengths a.answer.now.basis.entries a.answer.now.c a.u.now a.point c.in-Some.place c.in-Some.ensures

pub returns-in-None : goal.returns-in-None
returns-in-None c =
    let a = c.args in
    let b = a.problem.now in
    λ lengths sound.
    judged_at_none b.head b.f lengths a.answer.now.basis.entries a.answer.now.c a.u.now a.point true c.in-None.ensures
    (sym c.if-every_column_zero.true ∙ c.every_column_zero.ensures lengths sound)

pub returns-in-None-2 : goal.returns-in-None-2
returns-in-None-2 c =
    let a = c.args in
    let b = a.problem.now in
    λ lengths sound.
    judged_at_none b.head b.f lengths a.answer.now.basis.entries a.answer.now.c a.u.now a.point false c.in-None.ensures
    (sym c.if-every_column_zero.false ∙ c.every_column_zero.ensures lengths sound)
