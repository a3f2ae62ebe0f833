-- Document 01, "The two files": how a file is read. "Reading goes front to back, … field by field. A mark is one field, so is each number.
-- A field that isn't wholly there is refusal 1; then the field's own test is made; then the next field."
--   Place                    where the reading stands: file, record, the record's first byte, the next field's first byte
--   Refusal                  code, file, record, at, and the first byte of the record named
--   Result A, Reader A       an A that was read, or a refusal; and what reads it from a file at a place
--   next, _>>=_, _>>_, give  readers one after the other
--   number_at, field, unless, mark, each, inside, end, front     what the files' readers are made of
use Rattle.std.specs.Prelude.{Bool, cond, List, [], ◌∷◌, ℕ, zero, suc, ◌+◌, ◌*◌, leb, eqb, length, get_or}

-- "Records count from 0 in each file; *at* is the offset of the field's first byte."
pub record Place : Type 0 where
  pub file : ℕ
  pub number : ℕ
  pub start : ℕ
  pub at : ℕ

-- The code, and the place of the field that was refused.
pub record Refusal : Type 0 where
  pub code : ℕ
  pub place : Place

-- What was read, and the place after it; or a refusal.
pub data Result (A : Type 0) : Type 0 where
  refused : Refusal → Result A
  got : A → Place → Result A

-- A reader takes a file and a place.
abbrev pub Reader : Type 0 → Type 0
Reader A = List ℕ → Place → Result A

-- What was read is handed to the next reader; a refusal ends the reading.
unfoldable pub next : {A B : Type 0} → Result A → (A → Place → Result B) → Result B
next (refused r) f = refused r
next (got a p) f = f a p

infixl 10 ◌>>=◌
-- One reader, and another that is given what the first read; …
abbrev pub ◌>>=◌ : {A B : Type 0} → Reader A → (A → Reader B) → Reader B
◌>>=◌ m f = λ s p. next (m s p) (λ a q. f a s q)

infixl 10 ◌>>◌
-- … where that does not count; …
abbrev pub ◌>>◌ : {A B : Type 0} → Reader A → Reader B → Reader B
◌>>◌ m n = m >>= λ a. n

-- … a reader that reads nothing.
abbrev pub give : {A : Type 0} → A → Reader A
give a = λ s p. got a p

-- "Numbers are low byte first."
unfoldable pub number_at : ℕ → List ℕ → ℕ → ℕ
number_at zero s at = 0
number_at (suc k) s at = get_or s at 0 + 256 * number_at k s (at + 1)

-- A number of k bytes. `test` gives the code by which it is refused, or 0.
unfoldable pub field : ℕ → (ℕ → ℕ) → Reader ℕ
field k test s p = cond (leb (p.at + k) (length s)) (tested (number_at k s p.at)) (refused (record { code = 1; place = p }))
  where
    tested : ℕ → Result ℕ
    tested v =
        cond (eqb (test v) 0) (got v (record { file = p.file; number = p.number; start = p.start; at = p.at + k }))
        (refused (record { code = test v; place = p }))

-- The test that is passed exactly where the condition holds, and else gives the code.
abbrev pub unless : ℕ → (ℕ → Bool) → ℕ → ℕ
unless code holds v = cond (holds v) 0 code

-- "Each record starts with a mark of two bytes." Refusal 2: "the mark isn't the one due".
abbrev pub mark : ℕ → Reader ℕ
mark due = field 2 (unless 2 (λ v. eqb v due))

-- A record: it starts where the reading stands, and the next one has the next number.
abbrev pub inside : {A : Type 0} → Reader A → Reader A
inside m = λ s p.
    next (m s (record { file = p.file; number = p.number; start = p.at; at = p.at }))
    (λ a q. got a (record { file = q.file; number = q.number + 1; start = q.start; at = q.at }))

-- The readers f 0, f 1, …, f (n − 1), one after the other.
unfoldable pub each : {A : Type 0} → ℕ → (ℕ → Reader A) → Reader (List A)
each zero f = give []
each (suc n) f = do
  a ← f zero
  l ← each n (λ i. f (suc i))
  give (a ∷ l)

-- "Then the file ends." Refusal 8: "bytes after the last record | file, number of records, offset of the first".
unfoldable pub end : {A : Type 0} → A → Reader A
end a s p =
    cond (eqb p.at (length s)) (got a p) (refused (record { code = 8; place = record { file = p.file; number = p.number; start = p.at; at = p.at } }))

-- The front of a file.
abbrev pub front : ℕ → Place
front f = record { file = f; number = 0; start = 0; at = 0 }
