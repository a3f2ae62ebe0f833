use Rattle.product.specs.Total.{fold_residue}
use Rattle.product.proofs.coefficient.residue.Goals as goal

pub returns : goal.returns
returns c = let folded = fold_residue c.requires.made c.args.total.high c.args.total.low in cc
