-- `number::joined` meets its contract. Assumes nothing.
use Rattle.std.proofs.Common.{◌≡◌, arith}
use Rattle.number.specs.Widths.{number_of_1, number_of_2, number_of_4}
use Rattle.number.proofs.joined.Goals as goal

pub returns-in-1 : goal.returns-in-1
returns-in-1 c = rw c.in-1.is (omega (arith, number_of_1 c.args.s.now c.args.at))

pub returns-in-2 : goal.returns-in-2
returns-in-2 c = rw c.in-2.is (omega (arith, number_of_2 c.args.s.now c.args.at))

pub returns-in_default : goal.returns-in_default
returns-in_default c =
    let four : c.args.k ≡ 4 = grind arith in
    rw four (omega (arith, number_of_4 c.args.s.now c.args.at))
