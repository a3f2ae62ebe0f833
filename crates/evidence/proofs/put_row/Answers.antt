use mathlib.Core.Path.{◌∙◌}
use native.Mathlib.Omega.{arith}
use Rattle.claim.specs.Claims.{problem_in, basis_in}
use Rattle.product.specs.Claims.{order_rules}
use Rattle.evidence.specs.Record.{row_start, row_more, row_done}
use Rattle.evidence.proofs.put_row.Goals as goal

pub loop-j-init : goal.loop-j-init
loop-j-init c = row_start (problem_in c.args.problem.now) (basis_in c.args.problem.now.head.m c.args.basis.now) c.args.at c.args.out.now c.args.i

pub loop-j-preserved : goal.loop-j-preserved
loop-j-preserved c =
    let a = c.args in
    let l = c.loop-j in
    let v = c.order_coefficient-v in
    row_more (problem_in c.args.problem.now) (basis_in c.args.problem.now.head.m c.args.basis.now) a.at a.out.now a.i l.out c.put4-end.new.out l.end c.put4-end.result l.j v.result
    (omega arith) l.invariant
    (v.ensures ∙ order_rules a.problem.now.head a.problem.now.f a.basis.now.lengths a.basis.now.entries c.requires.sound.0.sound_head c.requires.sound.0.sound_columns c.requires.sound.1 a.i l.j c.requires.i_lt_m.0 (omega arith))
    c.put4-end.ensures

pub returns : goal.returns
returns c =
    let l = c.loop-j in
    row_done (problem_in c.args.problem.now) (basis_in c.args.problem.now.head.m c.args.basis.now) c.args.at c.args.out.now c.args.i l.out l.end l.j (omega arith) l.invariant
