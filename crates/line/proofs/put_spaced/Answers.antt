use Rattle.writer.specs.Appended.{appended_both}
use Rattle.line.proofs.put_spaced.Goals as goal

pub returns : goal.returns
returns c = appended_both _ _ _ _ _ _ _ _ c.put_text-next.ensures c.put_number.ensures
