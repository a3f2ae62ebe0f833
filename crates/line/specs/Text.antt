-- The printed lines in pieces, and how many bytes each takes.
--   numbers_room, room       what the four numbers need at most, and the line of a verdict; room_reached: some line needs all of it
--   nofile_room              what the line for a file that can't be opened needs at most: nofile_room_reached
--   four_numbers             the four numbers with single spaces: four_numbers_length
--   line_passed, line_refused          the two kinds of line in pieces
use Rattle.std.specs.Prelude.{◌≡◌, refl, List, [], ◌∷◌, ◌++◌, ℕ, ◌+◌, ◌^◌, ◌≤◌, ◌<◌, length}
use Rattle.std.proofs.Common.{append_assoc, arith, eq-eqb, ne_eqb, length-append}
use Rattle.rules.specs.Verdict.{Numbers, four}
use Rattle.rules.specs.Print.{digits, digits_within, space, pass_word, refuse_word, line_of, nofile_line}
use Rattle.writer.specs.Decimal.{digits_byte, digits_short, digits_word}

-- What the four numbers need at most: 3, 3, 5 and 10 digits, and three spaces.
abbrev pub numbers_room : ℕ
numbers_room = 24

-- What the line of a verdict needs at most: `refuse`, a space, the four numbers and a line feed.
abbrev pub room : ℕ
room = 7 + numbers_room + 1

-- What the line for a file that can't be opened needs at most: `nofile`, a space, 3 digits and a line feed.
abbrev pub nofile_room : ℕ
nofile_room = 7 + 3 + 1

-- The four numbers with single spaces.
abbrev pub four_numbers : Numbers → List ℕ
four_numbers v = digits v.code ++ (space ++ digits v.file) ++ (space ++ digits v.number) ++ (space ++ digits v.at)

pub four_numbers_length : (c f r a : ℕ) → c < 2 ^ 8 → f < 2 ^ 8 → r < 2 ^ 16 → a < 2 ^ 32 → length (four_numbers (four c f r a)) ≤ numbers_room
four_numbers_length c f r a hc hf hr ha =
    simp length-append (omega (arith, digits_byte c hc, digits_byte f hf, digits_short r hr, digits_word a ha))

-- The two kinds of line, in the pieces in which they are put together.
pub line_passed : (v : Numbers) → v.code ≡ 0 → line_of v ≡ pass_word ++ digits v.at ++ (10 ∷ [])
unfolding line_of
line_passed v h = rw (eq-eqb v.code 0 h, line_of)

pub line_refused : (v : Numbers) → (v.code ≡ 0 → ⊥) → line_of v ≡ refuse_word ++ four_numbers v ++ (10 ∷ [])
unfolding line_of
line_refused v h = rw (ne_eqb v.code 0 h, line_of) (simp append_assoc)

-- The line of the largest four numbers needs all the room.
pub room_reached : length (line_of (four 255 255 65_535 4_294_967_295)) ≡ room
unfolding line_of digits_within
room_reached = refl

-- So does that of the largest number of a file.
pub nofile_room_reached : length (nofile_line 255) ≡ nofile_room
unfolding nofile_line digits_within
nofile_room_reached = refl
