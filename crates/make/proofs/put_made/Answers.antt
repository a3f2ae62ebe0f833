use Rattle.std.proofs.Common.{[], ◌∷◌, arith}
use Rattle.rules.specs.Print.{digits}
use Rattle.writer.specs.Appended.{appended_both}
use Rattle.writer.specs.Decimal.{digits_short, digits_word}
use Rattle.make.specs.Made.{made_word}
use Rattle.make.proofs.put_made.Goals as goal

pub put_number-steps-requires : goal.put_number-steps-requires
put_number-steps-requires c = omega (arith, digits_short c.args.made.steps (omega arith))

pub put_text-space-requires : goal.put_text-space-requires
put_text-space-requires c = omega (arith, digits_short c.args.made.steps (omega arith))

pub put_number-bytes-requires : goal.put_number-bytes-requires
put_number-bytes-requires c = omega (arith, digits_short c.args.made.steps (omega arith), digits_word c.args.made.bytes (omega arith))

pub put_text-requires : goal.put_text-requires
put_text-requires c = omega (arith, digits_short c.args.made.steps (omega arith), digits_word c.args.made.bytes (omega arith))

pub returns : goal.returns
returns c =
    let a = c.args in
    appended_both a.out.now _ _ 0 _ _ _ (10 ∷ [])
    (appended_both a.out.now _ _ 0 _ _ _ (digits a.made.bytes)
    (appended_both a.out.now _ _ 0 _ _ _ (32 ∷ [])
    (appended_both a.out.now _ _ 0 _ _ made_word (digits a.made.steps) c.put_text-word.ensures c.put_number-steps.ensures)
    c.put_text-space.ensures)
    c.put_number-bytes.ensures)
    c.put_text.ensures
