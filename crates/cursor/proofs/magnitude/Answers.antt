-- `cursor::magnitude` meets its contract. Assumes nothing.
use Rattle.std.proofs.Common.{◌≡◌, sym, ap, ◌∙◌, ◌<◌, arith}
use Rattle.std.specs.Prelude.{nat_abs}
use Rattle.std.specs.Int.{abs_diff}
use Rattle.std.proofs.Math.Decide.{dec_lt}
use Rattle.rules.specs.Files.{two's_complement}
use Rattle.cursor.specs.Fields.{complement_low, complement_mid, complement_high}
use Rattle.cursor.proofs.magnitude.Goals as goal

pub returns-then-v-lt-NEGATIVE : goal.returns-then-v-lt-NEGATIVE
returns-then-v-lt-NEGATIVE c = sym (ap nat_abs (complement_low _ c.if-v-lt-NEGATIVE.true))

pub returns-else-v-lt-NEGATIVE : goal.returns-else-v-lt-NEGATIVE
returns-else-v-lt-NEGATIVE c = c.abs_diff.ensures ∙ sym (by_size (dec_lt c.args.v 65_536))
  where
    by_size : Dec (c.args.v < 65_536) → nat_abs (two's_complement c.args.v) ≡ abs_diff c.args.v 65_536
    by_size (yes h) = ap nat_abs (complement_mid _ c.if-v-lt-NEGATIVE.false h) ∙ omega arith
    by_size (no h) = ap nat_abs (complement_high _ (omega arith)) ∙ omega arith
