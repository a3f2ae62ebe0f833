use Rattle.std.proofs.Common.{[], ◌∷◌, arith}
use Rattle.rules.specs.Print.{digits, nofile_word, nofile_line}
use Rattle.writer.specs.Appended.{appended_both}
use Rattle.writer.specs.Decimal.{digits_byte}
use Rattle.line.proofs.nofile.Goals as goal

pub put_number-number-requires : goal.put_number-number-requires
put_number-number-requires c = omega (arith, digits_byte c.args.file (omega arith))

pub put_text-requires : goal.put_text-requires
put_text-requires c = omega (arith, digits_byte c.args.file (omega arith))

pub returns : goal.returns
unfolding nofile_line
returns c =
    appended_both _ _ _ _ _ _ _ (10 ∷ [])
    (appended_both _ _ _ _ _ _ nofile_word (digits c.args.file) c.put_text-word.ensures c.put_number-number.ensures)
    c.put_text.ensures
