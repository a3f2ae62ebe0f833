-- `cursor::read_field` meets its contract. Assumes nothing.
use Rattle.std.proofs.Common.{sym, ap, ◌∙◌}
use Rattle.rules.specs.Reader.{refused}
use Rattle.place.specs.Places.{code_least, taken, error_is}
use Rattle.cursor.specs.Fields.{test_refused, test_passed, test_failed}
use Rattle.cursor.proofs.read_field.Goals as goal

pub returns-in_err-v : goal.returns-in_err-v
returns-in_err-v g c = λ holds agree.
    ap taken (error_is c.from_residual.ensures.1) ∙ sym (test_refused _ _ holds _ _ (sym c.in_err-v.ensures))

pub returns-then-test : goal.returns-then-test
returns-then-test g c = λ holds agree. sym (test_passed _ _ holds _ _ (sym c.in_ok-v.ensures) (agree _ _ c.if-test.ensures))

pub returns-else-test : goal.returns-else-test
returns-else-test g c = λ holds agree.
    ap refused c.stop.ensures
    ∙ sym (test_failed _ _ holds _ _ (sym c.in_ok-v.ensures) (code_least c.args.reason) (agree _ _ c.if-test.ensures))
