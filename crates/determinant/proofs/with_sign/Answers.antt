use Rattle.determinant.specs.Sign.{signed_even, signed_odd}
use Rattle.determinant.proofs.with_sign.Goals as goal

pub returns-then-j-eq0 : goal.returns-then-j-eq0
returns-then-j-eq0 c = signed_even c.requires c.if-j-eq0.true

pub returns : goal.returns
returns c = signed_odd c.requires c.if-j-eq0.false c.neg_mod.ensures
