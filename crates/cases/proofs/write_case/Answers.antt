-- `cases::write_case` is safe and ends: the part is no longer than a file, and the bytes lent are a part of the marked ones.
use Rattle.cases.specs.Limits.{part_fits}
use Rattle.cases.proofs.write_case.Goals as goal

pub write_part-requires : goal.write_part-requires
write_part-requires g c =
    rw c.pointed_at.ensures.bytes
    (part_fits c.args.problem.now c.args.answer.now _ c.requires.files_short.0 c.requires.files_short.1)
