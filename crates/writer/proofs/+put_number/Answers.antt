use Rattle.std.proofs.Common.{arith, ap, length}
use Rattle.writer.specs.Decimal.{digits_small, digits_more, appended_one, appended_digit}
use Rattle.writer.proofs.+put_number.Goals as goal

pub bounds-out-at : goal.bounds-out-at
bounds-out-at t c = omega (arith, ap length (digits_small c.args.n c.if-n-lt10.true))

pub returns-then-n-lt10 : goal.returns-then-n-lt10
returns-then-n-lt10 t c = appended_one c.args.out.now c.args.at c.args.n c.if-n-lt10.true c.requires

pub put_number-next-requires : goal.put_number-next-requires
put_number-next-requires t c = (omega arith, omega (arith, digits_more c.args.n c.if-n-lt10.false))

pub bounds-out-next : goal.bounds-out-next
bounds-out-next t c = omega (arith, digits_more c.args.n c.if-n-lt10.false)

pub returns : goal.returns
returns t c =
    appended_digit c.args.out.now c.put_number-next.new.out c.args.at c.put_number-next.result c.args.n c.if-n-lt10.false c.requires c.put_number-next.ensures
