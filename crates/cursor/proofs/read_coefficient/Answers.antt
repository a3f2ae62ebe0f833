-- `cursor::read_coefficient` meets its contract. Assumes nothing.
use Rattle.std.proofs.Common.{sym, ap, ◌∙◌, ltb, rules}
use Rattle.rules.specs.Reader.{refused}
use Rattle.place.specs.Places.{taken, error_is}
use Rattle.cursor.specs.Fields.{coefficient_refused, coefficient_passed, coefficient_zero}
use Rattle.cursor.proofs.read_coefficient.Goals as goal
use Rattle.cursor.proofs.read_coefficient.Goals.{else-k-length-via-then-k-length+else-v-eq0, else-k-length-via-else-k-length}

pub returns-in_err-v : goal.returns-in_err-v
returns-in_err-v c =
    ap taken (error_is c.from_residual.ensures.1)
    ∙ sym (coefficient_refused _ _ _ _ _ (sym (c.in_err-v.ensures (λ v. ltb v c.args.p) (λ v b post. search rules))))

pub returns-then-v-eq0 : goal.returns-then-v-eq0
returns-then-v-eq0 c =
    ap refused c.stop.ensures
    ∙ sym
    (coefficient_zero _ _ _ _ _ (sym (c.in_ok-v.ensures (λ v. ltb v c.args.p) (λ v b post. search rules))) c.if-k-length.true c.if-v-eq0.true)

pub returns : goal.returns
returns c =
    sym
    (coefficient_passed _ _ _ _ _ (sym (c.in_ok-v.ensures (λ v. ltb v c.args.p) (λ v b post. search rules)))
    (λ l z. elim c.else-k-length.branch [
      | else-k-length-via-then-k-length+else-v-eq0 w ↦ w.if-v-eq0.false z
      | else-k-length-via-else-k-length w ↦ w.if-k-length.false l
    ]))
