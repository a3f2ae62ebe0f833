use Rattle.claim.specs.Claims.{problem_in}
use Rattle.iteration.specs.Made.{basis_of_entries}
use Rattle.iteration.proofs.basis_after.Goals as goal

pub returns : goal.returns
returns c =
    let made = c.entries_after-entries in
    basis_of_entries (problem_in c.args.problem.now) c.requires.sound_head.1.1 c.args.done c.requires.done_le_most_order c.lengths-lengths.result
    made.result made.ensures c.lengths-lengths.ensures
