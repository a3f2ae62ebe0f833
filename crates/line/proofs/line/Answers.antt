use Rattle.std.proofs.Common.{[], ◌∷◌, arith, sym, subst}
use Rattle.rules.specs.Verdict.{four}
use Rattle.rules.specs.Print.{digits, pass_word, refuse_word}
use Rattle.writer.specs.Appended.{Appended, appended_both}
use Rattle.writer.specs.Decimal.{digits_word}
use Rattle.line.specs.Text.{four_numbers, four_numbers_length, line_passed, line_refused}
use Rattle.line.proofs.line.Goals as goal

pub put_number-end-requires : goal.put_number-end-requires
put_number-end-requires c = omega (arith, digits_word c.args.v.at (omega arith))

pub put_text-requires : goal.put_text-requires
put_text-requires c = omega (arith, digits_word c.args.v.at (omega arith))

pub returns-then-v-eq0 : goal.returns-then-v-eq0
returns-then-v-eq0 c =
    let v = c.args.v in
    let numbers = four v.code v.file v.number v.at in
    subst (Appended c.args.out.now c.put_text.new.out 0 c.put_text.result) (sym (line_passed numbers c.if-v-eq0.true))
    (appended_both _ _ _ _ _ _ _ (10 ∷ [])
    (appended_both _ _ _ _ _ _ pass_word (digits v.at) c.put_text-word.ensures c.put_number-end.ensures)
    c.put_text.ensures)

pub put_text-requires-2 : goal.put_text-requires-2
put_text-requires-2 c =
    let v = c.args.v in
    omega (arith, four_numbers_length v.code v.file v.number v.at (omega arith) (omega arith) (omega arith) (omega arith))

pub returns : goal.returns
returns c =
    let v = c.args.v in
    let numbers = four v.code v.file v.number v.at in
    subst (Appended c.args.out.now c.put_text-2.new.out 0 c.put_text-2.result) (sym (line_refused numbers c.if-v-eq0.false))
    (appended_both _ _ _ _ _ _ _ (10 ∷ [])
    (appended_both _ _ _ _ _ _ refuse_word (four_numbers numbers) c.put_text-word-2.ensures c.put_numbers-end.ensures)
    c.put_text-2.ensures)
