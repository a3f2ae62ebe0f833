use Rattle.std.proofs.Common.{◌≤◌, ◌+◌, ◌<◌, ◌^◌, ℕ, length, length-append, arith}
use Rattle.rules.specs.Print.{digits}
use Rattle.writer.specs.Appended.{appended_both}
use Rattle.line.specs.Text.{numbers_room, four_numbers_length}
use Rattle.line.proofs.put_numbers.Goals as goal

-- The four numbers are within their room.
within :
    (c f r a : ℕ) → c < 2 ^ 8 → f < 2 ^ 8 → r < 2 ^ 16 → a < 2 ^ 32
    → length (digits c) + (1 + length (digits f)) + (1 + length (digits r)) + (1 + length (digits a)) ≤ numbers_room
within c f r a hc hf hr ha = omega (arith, simp length-append at (four_numbers_length c f r a hc hf hr ha))

pub put_number-code-requires : goal.put_number-code-requires
put_number-code-requires c = let v = c.args.v in omega (arith, within v.code v.file v.number v.at (omega arith) (omega arith) (omega arith) (omega arith))

pub put_spaced-file-requires : goal.put_spaced-file-requires
put_spaced-file-requires c = let v = c.args.v in omega (arith, within v.code v.file v.number v.at (omega arith) (omega arith) (omega arith) (omega arith))

pub put_spaced-number-requires : goal.put_spaced-number-requires
put_spaced-number-requires c = let v = c.args.v in omega (arith, within v.code v.file v.number v.at (omega arith) (omega arith) (omega arith) (omega arith))

pub put_spaced-requires : goal.put_spaced-requires
put_spaced-requires c = let v = c.args.v in omega (arith, within v.code v.file v.number v.at (omega arith) (omega arith) (omega arith) (omega arith))

pub returns : goal.returns
returns c =
    appended_both _ _ _ _ _ _ _ _
    (appended_both _ _ _ _ _ _ _ _ (appended_both _ _ _ _ _ _ _ _ c.put_number-code.ensures c.put_spaced-file.ensures) c.put_spaced-number.ensures)
    c.put_spaced.ensures
