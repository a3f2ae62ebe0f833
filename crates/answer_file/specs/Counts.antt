-- The fields of the `PE` record.
--   count_reader, sound_counts       those before its coefficients
--   PE_after_mark            the record after its mark
use Rattle.std.specs.Prelude.{◌≡◌, refl, List, ℕ, ◌≤◌, leb}
use Rattle.std.proofs.Common.{sym, ap, ◌∙◌}
use Rattle.std.proofs.Math.Path.{fun_ext}
use Rattle.rules.specs.Sizes.{most_length}
use Rattle.rules.specs.Reader.{Place, Result, refused, got, Reader, next, ◌>>=◌, field, mark, unless, each}
use Rattle.rules.specs.Files.{PE_mark, PE, due, coefficient_test}
use Rattle.laws.specs.ReaderLaws.{opening, Sound, sound_next}
use Rattle.laws.specs.Soundness.{sound_due, sound_count}
use Rattle.storing.specs.Records.{closing, record_given}

-- The numbers of the `PE` record: row, column, count.
unfoldable pub count_reader : ℕ → ℕ → Reader ℕ
count_reader i j = field 1 (due i) >>= λ a. field 1 (due j) >>= λ b. field 1 (unless 3 (λ L. leb L most_length))

-- The count is a size: no more coefficients than an entry may have.
pub sound_counts : (i j : ℕ) → Sound 3 0 (λ L. L ≤ most_length) (count_reader i j)
unfolding count_reader
sound_counts i j = sound_next (sound_due i) (λ a ha. sound_next (sound_due j) (λ b hb. sound_count))

next_assoc : {A B C : Type 0} (m : Result A) (f : A → Place → Result B) (g : B → Place → Result C) → next (next m f) g ≡ next m (λ a q. next (f a q) g)
unfolding next
next_assoc (refused x) f g = refl
next_assoc (got a q) f g = refl

-- The `PE` record after its mark: its numbers, then as many coefficients as they say.
pub PE_after_mark : (p i j : ℕ) (s : List ℕ) (at : Place) {v : ℕ} {q : Place} → got v q ≡ mark PE_mark s (opening at)
    → PE p i j s at ≡ closing (next (count_reader i j s q) (λ L q'. each L (λ k. field 4 (coefficient_test p L k)) s q'))
unfolding PE count_reader
PE_after_mark p i j s at {v} {q} e =
    record_given _ e
    ∙ sym
    (ap closing
    (next_assoc (field 1 (due i) s q) (λ a q'. next (field 1 (due j) s q') (λ b q''. field 1 (unless 3 (λ L. leb L most_length)) s q''))
    (λ L q'. each L (λ k. field 4 (coefficient_test p L k)) s q')
    ∙ ap (λ (f : ℕ → Place → Result (List ℕ)). next (field 1 (due i) s q) f)
    (fun_ext
    (λ a.
    fun_ext
    (λ q'.
    next_assoc (field 1 (due j) s q') (λ b q''. field 1 (unless 3 (λ L. leb L most_length)) s q'')
    (λ L q''. each L (λ k. field 4 (coefficient_test p L k)) s q''))))))
