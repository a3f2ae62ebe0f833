-- What the records' code needs of the rules' records.
--   closing, closed_into     the end of a record
--   stored_forward           where a reader that stored what it read left the reading
--   list_numbered            the record's number after a list of fields
--   marked                   the mark of a record
--   record_refused, record_given, then_refused, then_given, refused_into      a record by its next field
--   field_number             one field is of one record
--   beside                   numbers stored beside their count
use Rattle.std.specs.Prelude.{◌≡◌, List, ℕ, ◌<◌, length}
use Rattle.std.proofs.Math.Path.{refl, ap}
use Rattle.std.proofs.Common.{sym, ◌∙◌, arith}
use Rattle.rules.specs.Reader.{Place, Refusal, Result, refused, got, Reader, next, field, mark, each}
use Rattle.laws.specs.ReaderLaws.{closed, field_got, Forward, Sound, sound_each}
use Rattle.place.specs.declared.Place.{Place as Spot}
use Rattle.std.specs.Prelude.{Ok, Err}
use Rattle.place.specs.Places.{place, going, closed_of, Numbered, Going}
use Rattle.storing.specs.Storing.{into, into_got}

-- The end of a record: the next one has the next number.
abbrev pub closing : {A : Type 0} → Result A → Result A
closing r = next r (λ a q. got a (closed q))

going_closed : {B : Type 0} (b : B) (g : Going) → going (closed_of g) b ≡ closing (going g b)
unfolding next
going_closed b (Ok q) = refl
going_closed b (Err x) = refl

into_closing : {A B : Type 0} (h : A → B) (m : Result A) → into h (closing m) ≡ closing (into h m)
unfolding next into
into_closing h (refused x) = refl
into_closing h (got a q) = refl

-- A record whose last fields were stored.
pub closed_into : {A B : Type 0} (b : B) (h : A → B) (g : Going) (m : Result A) {r : Going} → r ≡ closed_of g → going g b ≡ into h m → going r b ≡ into h (closing m)
closed_into b h g m e gave = ap (λ (x : Going). going x b) e ∙ going_closed b g ∙ ap closing gave ∙ sym (into_closing h m)

-- Where a reader that stored what it read left the reading.
pub stored_forward : {A B : Type 0} {k c : ℕ} {Q : A → Type 0} {m : Reader A} → Sound k c Q m → (h : A → B) (s : List ℕ) (p : Place) {b : B} {q : Place}
    → got b q ≡ into h (m s p) → Forward k c s p q
stored_forward {m = m} sound h s p e = (sound.gives s p (sym (into_got h (m s p) e).1)).1

-- No record passes in a list of fields.
pub list_numbered : {A B : Type 0} {Q : ℕ → A → Type 0} {k : ℕ} (d : A) (b : B) (h : List A → B) (n : ℕ) (f : ℕ → Reader A) (s : List ℕ) (p : Place) (g : Going)
    → going g b ≡ into h (each n f s p) → ((i : ℕ) → Sound k 0 (Q i) (f i)) → p.number < 65_535 → Numbered g
list_numbered d b h n f s p (Ok q) gave sound le = omega (arith, (stored_forward (sound_each d n f sound) h s p gave).number)
list_numbered d b h n f s p (Err x) gave sound le = tt

-- A mark that was read at the place of a record's first byte.
pub marked : (v : ℕ) (s : List ℕ) {o q : Spot} {x : Result ℕ} → o ≡ q → x ≡ mark v s (place o) → x ≡ mark v s (place q)
marked v s e gave = gave ∙ ap (λ (o : Spot). mark v s (place o)) e

-- A record whose next field is refused, or given.
module _ {A B : Type 0} (f : A → Place → Result B) {m : Result A} where
  pub record_refused : {x : Refusal} → refused x ≡ m → closing (next m f) ≡ refused x
  unfolding next
  record_refused e = ap (λ (r : Result A). closing (next r f)) (sym e)

  pub record_given : {a : A} {q : Place} → got a q ≡ m → closing (next m f) ≡ closing (f a q)
  unfolding next
  record_given e = ap (λ (r : Result A). closing (next r f)) (sym e)

-- The same before a record's end.
module _ {A B : Type 0} (f : A → Place → Result B) {m : Result A} where
  pub then_refused : {x : Refusal} → refused x ≡ m → next m f ≡ refused x
  unfolding next
  then_refused e = ap (λ (r : Result A). next r f) (sym e)

  pub then_given : {a : A} {q : Place} → got a q ≡ m → next m f ≡ f a q
  unfolding next
  then_given e = ap (λ (r : Result A). next r f) (sym e)

-- A record that is refused is refused with its room.
pub refused_into : {A B : Type 0} (h : A → B) {m : Result A} {x : Refusal} → m ≡ refused x → refused x ≡ into h m
unfolding into
refused_into h e = sym (ap (into h) e)

-- The place after one field is of the same record.
pub field_number : (k : ℕ) (test : ℕ → ℕ) (s : List ℕ) (p : Place) {v : ℕ} {q : Place} → got v q ≡ field k test s p → q.number ≡ p.number
field_number k test s p {v} {q} gave = let (h, n, f, there) = (field_got k test s p v q).0 (sym gave) in ap (λ (p : Place). p.number) there

-- Numbers stored beside their count.
module _ {B C : Type 0} (c : ℕ → C) (n : ℕ) where
  going_beside : (b : B) (g : Going) → going {A = C × B} g (c n, b) ≡ into {B = C × B} (λ (y : B). (c n, y)) (going g b)
  unfolding into
  going_beside b (Ok q) = refl
  going_beside b (Err x) = refl

  into_beside : {A : Type 0} (h : List A → B) (m : Result (List A)) → ((l : List A) (q : Place) → m ≡ got l q → length l ≡ n)
      → into {B = C × B} (λ (y : B). (c n, y)) (into h m) ≡ into {B = C × B} (λ l. (c (length l), h l)) m
  unfolding into
  into_beside h (refused x) sized = refl
  into_beside h (got l q) sized = ap {B = Result (C × B)} (λ (j : ℕ). got (c j, h l) q) (sym (sized l q refl))

  pub beside : {A : Type 0} (b : B) (h : List A → B) (g : Going) (m : Result (List A)) → going g b ≡ into h m
      → ((l : List A) (q : Place) → m ≡ got l q → length l ≡ n) → going {A = C × B} g (c n, b) ≡ into {B = C × B} (λ l. (c (length l), h l)) m
  beside b h g m gave sized = going_beside b g ∙ ap (into {B = C × B} (λ (y : B). (c n, y))) gave ∙ into_beside h m sized
