use Rattle.writer.specs.FourBytes.{four_le_bytes}
use Rattle.writer.proofs.put4.Goals as goal

pub returns : goal.returns
returns c = rw (four_le_bytes c.args.v, ← c.to_le_bytes.ensures) c.put_text.ensures
