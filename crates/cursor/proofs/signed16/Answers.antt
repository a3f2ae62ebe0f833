-- `cursor::signed16` meets its contract. Assumes nothing.
use Rattle.std.proofs.Common.{sym, ap, ◌∙◌, arith, rules}
use Rattle.std.specs.Prelude.{ℤ, pos, ◌-ℤ◌}
use mir.Facts.{to_z_pos, to_z-of_z}
use mir.Syntax.{w32}
use Rattle.cursor.specs.Fields.{complement_low, complement_mid, less_65536}
use Rattle.cursor.proofs.signed16.Goals as goal

pub returns-then-v-lt-NEGATIVE : goal.returns-then-v-lt-NEGATIVE
returns-then-v-lt-NEGATIVE c = to_z_pos w32 (omega arith) ∙ sym (complement_low _ c.if-v-lt-NEGATIVE.true)

pub returns-else-v-lt-NEGATIVE : goal.returns-else-v-lt-NEGATIVE
returns-else-v-lt-NEGATIVE c =
    to_z-of_z {w = w32} (search rules)
    ∙ ap (λ (z : ℤ). z -ℤ pos 65536) (to_z_pos w32 {n = c.args.v} (omega arith))
    ∙ less_65536 _ c.requires
    ∙ sym (complement_mid _ c.if-v-lt-NEGATIVE.false c.requires)
