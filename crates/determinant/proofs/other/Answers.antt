use Rattle.std.proofs.Common.{sym}
use Rattle.determinant.specs.Square.{skip_low, skip_high}
use Rattle.determinant.proofs.other.Goals as goal

pub returns-then-k-j : goal.returns-then-k-j
returns-then-k-j c = sym (skip_low c.args.j c.args.k c.if-k-j.true)

pub returns-else-k-j : goal.returns-else-k-j
returns-else-k-j c = sym (skip_high c.args.j c.args.k c.if-k-j.false)
