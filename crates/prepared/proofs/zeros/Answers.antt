use Rattle.std.proofs.Common.{zero-le}
use Rattle.prepared.specs.Counted.{gathered_more}
use Rattle.prepared.proofs.zeros.Goals as goal

pub loop-x-preserved : goal.loop-x-preserved
loop-x-preserved c = gathered_more _ _ _ _ zero-le c.loop-x.invariant
