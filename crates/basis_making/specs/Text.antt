-- The `PE` records of a basis in arrays, and how they grow.
--   entry_room               the bytes of the longest
--   numbers, entry, row, rows          the coefficients of an entry, and the entries, as lists
--   write_more               what is written of a table grows by its last member
--   Put, put_start, put_more, put_all  the first numbers, entries or rows are put: none, one more, and all
use Rattle.std.specs.Prelude.{◌≡◌, List, [], ◌∷◌, ◌++◌, ℕ, zero, suc, ◌+◌, ◌*◌, ◌≤◌, ◌<◌, length}
use Rattle.std.proofs.Common.{sym, ap, subst, ◌∙◌, append-nil, append_assoc, zero-le, add-zero, zero-add, mul-le-mul_right, arith, add-one, length-append}
use Rattle.rules.specs.Sizes.{most_length}
use Rattle.rules.specs.RecordBytes.{entry_bytes}
use Rattle.rules.specs.Files.{PE_mark}
use Rattle.rules.specs.Writer.{bytes, write_each, write_all, write_PE}
use Rattle.rules.specs.Table.{table, table_last, length_table}
use Rattle.laws.specs.WriterLaws.{length_write_PE}
use Rattle.writer.specs.Appended.{Appended, appended_nothing, appended_both}
use Rattle.layout.specs.Flat.{square_place, length_at}
use Rattle.layout.specs.Holds.{Short}
use Rattle.claim.specs.declared.Basis.{Basis}
use Rattle.stepping.specs.Next.{coefficient_at}

-- The bytes of the longest record.
abbrev pub entry_room : ℕ
entry_room = entry_bytes most_length

-- The coefficients of an entry, …
abbrev pub numbers : Basis → (i j count : ℕ) → List ℕ
numbers P i j count = table count (λ t. coefficient_at P.entries i j t)

-- … as many as its length says, …
abbrev pub entry : Basis → (i j : ℕ) → List ℕ
entry P i j = numbers P i j (length_at P.lengths i j)

-- … the entries of a row, and all.
abbrev pub row : Basis → (m i : ℕ) → List (List ℕ)
row P m i = table m (entry P i)

abbrev pub rows : Basis → ℕ → List (List (List ℕ))
rows P m = table m (row P m)

write_last : {A : Type 0} (w : ℕ → A → List ℕ) (i : ℕ) (l : List A) (x : A) → write_each w i (l ++ (x ∷ [])) ≡ write_each w i l ++ w (i + length l) x
unfolding write_each
write_last w i [] x = append-nil (w i x) ∙ ap (λ k. w k x) (sym (add-zero i))
write_last w i (y ∷ l) x =
    ap (λ r. w i y ++ r) (write_last w (suc i) l x ∙ ap (λ k. write_each w (suc i) l ++ w k x) (omega arith))
    ∙ sym (append_assoc (w i y) (write_each w (suc i) l) (w (i + suc (length l)) x))

-- What is written of a table grows by its last member.
pub write_more : {A : Type 0} (w : ℕ → A → List ℕ) (n : ℕ) (g : ℕ → A) → write_each w 0 (table (n + 1) g) ≡ write_each w 0 (table n g) ++ w n (g n)
write_more w n g =
    ap (write_each w 0) (table_last n g)
    ∙ write_last w 0 (table n g) (g n)
    ∙ ap (λ k. write_each w 0 (table n g) ++ w k (g n)) (zero-add (length (table n g)) ∙ length_table n g)

-- The first k members are put, each of at most `room` bytes.
pub record Put {A : Type 0} (w : ℕ → A → List ℕ) (g : ℕ → A) (room at : ℕ) (before after : List ℕ) (end k : ℕ) : Type 0 where
  pub place : end ≤ at + k * room
  pub put : Appended before after at end (write_each w 0 (table k g))

module _ {A : Type 0} (w : ℕ → A → List ℕ) (g : ℕ → A) (room at : ℕ) (before : List ℕ) where
  pub put_start : Put w g room at before before at 0
  unfolding table write_each
  put_start = record { place = omega arith; put = appended_nothing before at }

  pub put_more : (after later : List ℕ) (end next k : ℕ) → Put w g room at before after end k → Appended after later end next (w k (g k))
      → length (w k (g k)) ≤ room → Put w g room at before later next (k + 1)
  put_more after later end next k x y short = record {
    place = omega (arith, x.place, y.ends);
    put = subst (Appended before later at next) (sym (write_more w k g))
        (appended_both before after later at end next (write_each w 0 (table k g)) (w k (g k)) x.put y);
  }

  -- All are.
  pub put_all : (after : List ℕ) (end k n : ℕ) → k ≡ n → Put w g room at before after end k → Appended before after at end (write_each w 0 (table n g))
  put_all after end k n all x = subst (λ k. Appended before after at end (write_each w 0 (table k g))) all x.put

-- One more is still within the room for n.
pub rows_fit : (k n room : ℕ) → k < n → k * room + room ≤ n * room
rows_fit k n room h = omega (arith, mul-le-mul_right room h)

-- Each member has at most so many bytes, so that all have.
pub write_short : {A : Type 0} (w : ℕ → A → List ℕ) (g : ℕ → A) (room : ℕ) → ((k : ℕ) → length (w k (g k)) ≤ room) → (n : ℕ)
    → length (write_each w 0 (table n g)) ≤ n * room
unfolding table write_each
write_short w g room short zero = zero-le
write_short w g room short (suc n) =
    subst (λ k. length (write_each w 0 (table k g)) ≤ k * room) (add-one n)
    (subst (λ l. length l ≤ (n + 1) * room) (sym (write_more w n g))
    (omega (arith, length-append (write_each w 0 (table n g)) (w n (g n)), write_short w g room short n, short n)))

-- A record is no longer than the longest.
pub entry_short : (P : Basis) → Short P.lengths → (i j : ℕ) → length (write_PE i j (entry P i j)) ≤ entry_room
entry_short P short i j =
    omega (arith, length_write_PE i j (entry P i j), length_table (length_at P.lengths i j) (λ t. coefficient_at P.entries i j t), short (square_place i j))

-- The fields of a record, one behind the other.
pub put_record : (P : Basis) (i j count : ℕ) → count ≡ length_at P.lengths i j → (l₀ l₁ l₂ l₃ l₄ l₅ : List ℕ) (at e₁ e₂ e₃ e₄ e₅ : ℕ)
    → Appended l₀ l₁ at e₁ (bytes 2 PE_mark) → Appended l₁ l₂ e₁ e₂ (bytes 1 i) → Appended l₂ l₃ e₂ e₃ (bytes 1 j) → Appended l₃ l₄ e₃ e₄ (bytes 1 count)
    → Appended l₄ l₅ e₄ e₅ (write_all (bytes 4) (numbers P i j count)) → Appended l₀ l₅ at e₅ (write_PE i j (entry P i j))
unfolding write_PE
put_record P i j count same l₀ l₁ l₂ l₃ l₄ l₅ at e₁ e₂ e₃ e₄ e₅ mark row column counted written =
    let n : ℕ = length (entry P i j) in
    let to_row = appended_both l₀ l₁ l₂ at e₁ e₂ (bytes 2 PE_mark) (bytes 1 i) mark row in
    let to_column = appended_both l₀ l₂ l₃ at e₂ e₃ (bytes 2 PE_mark ++ bytes 1 i) (bytes 1 j) to_row column in
    let to_count = appended_both l₀ l₃ l₄ at e₃ e₄ (bytes 2 PE_mark ++ bytes 1 i ++ bytes 1 j) (bytes 1 n) to_column
    (subst (λ n. Appended l₃ l₄ e₃ e₄ (bytes 1 n)) (same ∙ sym (length_table (length_at P.lengths i j) (λ t. coefficient_at P.entries i j t))) counted) in
    appended_both l₀ l₄ l₅ at e₄ e₅ (bytes 2 PE_mark ++ bytes 1 i ++ bytes 1 j ++ bytes 1 n) (write_all (bytes 4) (entry P i j)) to_count
    (subst (λ n. Appended l₄ l₅ e₄ e₅ (write_all (bytes 4) (numbers P i j n))) same written)
