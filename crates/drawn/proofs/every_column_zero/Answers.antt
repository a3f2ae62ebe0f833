use Rattle.std.proofs.Common.{◌∙◌, arith}
use Rattle.drawn.specs.Columns.{column_other, one_column, no_column}
use Rattle.drawn.specs.Claims.{zero_rules}
use Rattle.drawn.proofs.every_column_zero.Goals as goal

pub returns-then-column_value-ne0 : goal.returns-then-column_value-ne0
returns-then-column_value-ne0 c =
    let a = c.args in
    let b = a.problem.now in
    let answer = a.answer.now in
    let j = c.loop-j.j in
    λ lengths sound.
    one_column b.head b.f answer.basis.entries answer.c a.u.now a.point j c.loop-j-test.true
    (column_other b.head b.f answer.basis.entries answer.c a.u.now a.point j c.column_value.result
    c.column_value.ensures c.if-column_value-ne0.true)
    ∙ zero_rules b.head b.f lengths answer.basis.entries answer.c a.u.now a.point c.requires.arrays.sound_head
    c.requires.arrays.sound_columns sound

pub returns : goal.returns
returns c =
    let a = c.args in
    let b = a.problem.now in
    let answer = a.answer.now in
    λ lengths sound.
    no_column b.head b.f answer.basis.entries answer.c a.u.now a.point
    (λ j h. c.loop-j.invariant j (omega arith))
    ∙ zero_rules b.head b.f lengths answer.basis.entries answer.c a.u.now a.point c.requires.arrays.sound_head
    c.requires.arrays.sound_columns sound
