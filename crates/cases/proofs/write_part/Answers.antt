-- `cases::write_part` is safe: a number has at most ten digits.
use Rattle.std.proofs.Common.{arith, length}
use Rattle.writer.specs.Decimal.{digits_word}
use Rattle.cases.proofs.write_part.Goals as goal

pub put_number-end-requires : goal.put_number-end-requires
put_number-end-requires g c = omega (arith, digits_word (length c.args.part.now) (omega arith))

pub write_bytes-requires : goal.write_bytes-requires
write_bytes-requires g c =
    omega (arith, c.put_number-end.ensures.ends, c.put_number-end.ensures.same_length, c.put_text-word.ensures.ends, c.put_text-word.ensures.same_length, digits_word (length c.args.part.now) (omega arith))
