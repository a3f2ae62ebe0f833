-- Document 01: what a service answers that writes into a lent buffer, and what the buffer holds afterwards.
--   Reply, reply_numbers     the kinds of answer, and code, file, record and at for each
--   Made                     an answer, and the buffer
use Rattle.std.specs.Prelude.{List, ℕ}
use Rattle.rules.specs.Reader.{Refusal}
use Rattle.rules.specs.Verdict.{Numbers, four, refusal_numbers}

-- The kinds of answer.
pub data Reply : Type 0 where
  -- 1 to 8
  unread : Refusal → Reply
  -- 14, with the bytes needed
  no_room : ℕ → Reply
  -- 0, with the bytes written
  written : ℕ → Reply

-- The table of codes, and "On success code, file and record are 0", with the "number of bytes as *at*".
unfoldable pub reply_numbers : Reply → Numbers
reply_numbers (unread r) = refusal_numbers r
reply_numbers (no_room needed) = four 14 0 0 needed
reply_numbers (written bytes) = four 0 0 0 bytes

-- An answer, and what the lent buffer holds afterwards.
pub record Made : Type 0 where
  pub answer : Reply
  pub buffer : List ℕ
