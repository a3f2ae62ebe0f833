use Rattle.std.proofs.Common.{arith}
use Rattle.writer.specs.Appended.{appended_text}
use Rattle.writer.proofs.put_text.Goals as goal

pub returns : goal.returns
returns c = rw c.copy_from_slice.ensures.after (appended_text c.args.out.now c.args.text.now c.args.at _ (omega arith) c.requires)
