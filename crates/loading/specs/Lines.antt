-- The longest name, and a function that puts a line at the front of a buffer and gives its length.
--   longest_name             the code's ARGUMENT_ROOM
--   PutsLine                 it may be called with a buffer of `room` bytes, and gives no more than these
--   WritesLine               what it put was appended to what a writer holds
use Rattle.std.specs.Prelude.{◌≡◌, List, ℕ, ◌≤◌, length, take, Option}
use Rattle.std.specs.Fn.{Once, FnOnceReturnsAtMut}
use Rattle.std.specs.Io.KnownBytes.{Appends}
use Rattle.line.specs.Text.{room}
use denote.Ref.{MutBor}

-- Longer than any name that the system takes.
abbrev pub longest_name : ℕ
longest_name = 4_096

-- It may be called with a buffer of `room` bytes, and gives no more than these.
pub record PutsLine {F : Type 0} (g : Once F (MutBor (List ℕ) × Unit {0}) (ℕ × (MutBor (List ℕ) × Unit {0}))) (put : F) : Type 0 where
  pub takes : (buffer : MutBor (List ℕ)) → length buffer.now ≡ room → g.pre put (buffer, tt)
  pub within : (before : List ℕ) (end : ℕ) (after : List ℕ) → length before ≡ room → FnOnceReturnsAtMut g put before end after → end ≤ room

-- What it put at the front of a buffer was appended to what a writer holds.
pub record WritesLine {F : Type 0} (g : Once F (MutBor (List ℕ) × Unit {0}) (ℕ × (MutBor (List ℕ) × Unit {0}))) (put : F) (held holds : Option (List ℕ)) : Type 0 where
  pub before : List ℕ
  pub end : ℕ
  pub after : List ℕ
  pub puts : FnOnceReturnsAtMut g put before end after
  pub appends : Appends held holds (take end after)
