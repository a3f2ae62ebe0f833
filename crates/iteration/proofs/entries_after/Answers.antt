use Rattle.std.proofs.Common.{rules, arith}
use Rattle.rules.specs.Sizes.{most_rows}
use Rattle.iteration.specs.Begin.{after_start}
use Rattle.iteration.specs.Steps.{small_degrees}
use Rattle.iteration.proofs.entries_after.Goals as goal

pub loop-k-init : goal.loop-k-init
unfolding most_rows
loop-k-init c =
    let problem = c.args.problem.now in
    let start = c.start_of-state in
    after_start problem.head problem.f c.requires.sound_head.1.1 c.requires.sound_head.0 c.requires.sound_head.1.0
    start.result.entries start.result.products start.result.degrees start.ensures.entries start.ensures.products start.ensures.degrees (search rules)

pub step-requires-clause-degrees_len : goal.step-requires-clause-degrees_len
step-requires-clause-degrees_len c =
    let l = c.loop-k in
    (l.invariant.degrees_full, small_degrees l.k l.state.degrees (omega arith) l.invariant.degrees_most)
