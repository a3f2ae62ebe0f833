use Rattle.rules.specs.Writer.{bytes}
use Rattle.writer.specs.Appended.{appended_byte}
use Rattle.basis_making.proofs.text.put1.Goals as goal

pub returns : goal.returns
unfolding bytes
returns c = appended_byte c.args.out.now c.args.at _ c.requires
