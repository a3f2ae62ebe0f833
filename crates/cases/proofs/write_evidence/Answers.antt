-- `cases::write_evidence` is safe: the word and the four numbers leave room for a byte more.
use Rattle.std.proofs.Common.{arith}
use Rattle.line.specs.Text.{four_numbers_length}
use Rattle.cases.proofs.write_evidence.Goals as goal

pub write_bytes-requires : goal.write_bytes-requires
write_bytes-requires g c =
    let v = c.reply_numbers.result in
    let fits = c.reply_numbers.type_inv in
    omega (
      arith,
      c.put_numbers-end.ensures.ends,
      c.put_numbers-end.ensures.same_length,
      c.put_text-word.ensures.ends,
      c.put_text-word.ensures.same_length,
      four_numbers_length v.code v.file v.number v.at (omega (arith, fits)) (omega (arith, fits)) (omega (arith, fits)) (omega (arith, fits)),
    )
