-- A file that is read is as long as what was read from it is when written, whatever numbers stand in the file. `Sound` bounds how far a
-- reader moves, whatever it gives; here the number of bytes is exact, and it depends on what is given. So a record of its own says it.
--   Spans m W                what the reader m gives stands in W to the number of bytes that it moved over
--   problem_length, basis_length, answer_length       the length of each of the three files
use Rattle.std.specs.Prelude.{◌≡◌, refl, List, [], ◌∷◌, ℕ, zero, suc, ◌+◌, length, get_or}
use Rattle.std.proofs.Common.{sym, ap, subst, ◌∙◌, add-zero, arith, length-append}
use Rattle.rules.specs.Claim.{Problem, Answer}
use Rattle.rules.specs.Reader.{Place, got, Reader, ◌>>=◌, give, field, inside, each, end, front}
use Rattle.rules.specs.Files.{PR, OR, SH, FC, PE, CE, problem_reader, entries_reader, answer_reader, basis_reader, read_problem, two's_complement}
use Rattle.rules.specs.Writer.{bytes, write_each, write_all, unsigned, write_PR, write_OR, write_SH, write_FC, write_PE, write_CE, write_problem}
use Rattle.rules.specs.Writer.{write_basis, write_answer}
use Rattle.laws.specs.ReaderLaws.{opening, closed, field_got, end_got, next_got, Ends}
use Rattle.laws.specs.Soundness.{problem_ends, basis_ends, answer_ends}
use Rattle.laws.specs.ByteNumbers.{length_bytes}

-- What the reader m gives stands in W to the number k of the bytes that it moved over.
record Spans {A : Type 0} (m : Reader A) (W : A → ℕ → Type 0) : Type 0 where
  over : (s : List ℕ) (p : Place) {a : A} {q : Place} → m s p ≡ got a q → (k : ℕ) × (q.at ≡ p.at + k) × W a k

spans_weaken : {A : Type 0} {m : Reader A} {W R : A → ℕ → Type 0} → ((a : A) (k : ℕ) → W a k → R a k) → Spans m W → Spans m R
spans_weaken f h = record { over = λ s p x. let (k, e, w) = h.over s p x in (k, e, f _ k w) }

spans_give : {A : Type 0} {R : A → ℕ → Type 0} (a : A) → R a 0 → Spans (give a) R
spans_give {A} {R} a v =
    record {
      over = λ s p {a = a'} {q} x. let e : a ≡ a' = cc in let f : p ≡ q = cc in
          (0, ap (λ p. p.at) (sym f) ∙ sym (add-zero p.at), subst (λ a. R a 0) e v);
    }

spans_end : {A : Type 0} {R : A → ℕ → Type 0} (a : A) → R a 0 → Spans (end a) R
spans_end {A} {R} a v = record {
  over = λ s p {a = a'} {q} x.
      let (h, e, f) = (end_got a s p a' q).0 x in (0, ap (λ (p : Place). p.at) f ∙ sym (add-zero p.at), subst (λ a. R a 0) (sym e) v);
}

spans_next : {A B : Type 0} {m : Reader A} {f : A → Reader B} {W : A → ℕ → Type 0} {R : B → ℕ → Type 0} → Spans m W
    → ((a : A) (k : ℕ) → W a k → Spans (f a) (λ b l. R b (k + l))) → Spans (m >>= f) R
spans_next {m} {f} hm hf = record {
  over = λ s p {q} x.
      let (a, p', e, h) = next_got (m s p) (λ a q. f a s q) x in
      let (k, there, w) = hm.over s p e in
      let (l, further, r) = (hf a k w).over s p' h in
      (k + l, omega arith, r);
}

spans_inside : {A : Type 0} {m : Reader A} {W : A → ℕ → Type 0} → Spans m W → Spans (inside m) W
spans_inside {A} {m} {W} hm = record {
  over = λ s p {a = a'} {q} x.
      let (a, p', e, h) = next_got (m s (opening p)) (λ a q. got a (closed q)) x in
      let (k, there, w) = hm.over s (opening p) e in
      let f : a ≡ a' = cc in
      let g : closed p' ≡ q = cc in
      (k, ap (λ (p : Place). p.at) (sym g) ∙ there, subst (λ a. W a k) f w);
}

-- A field moves over its own size.
spans_field : (k : ℕ) (test : ℕ → ℕ) → Spans (field k test) (λ v n. n ≡ k)
spans_field k test =
    record { over = λ s p {a = v} {q} x. let (long, n, e, there) = (field_got k test s p v q).0 x in (k, ap (λ (p : Place). p.at) there, refl) }

spans_number : (k : ℕ) (test : ℕ → ℕ) → Spans (field k test) (λ v n. n ≡ length (bytes k v))
spans_number k test = spans_weaken (λ v n e. e ∙ sym (length_bytes k v)) (spans_field k test)

spans_each : {A : Type 0} (w : ℕ → A → List ℕ) (i₀ n : ℕ) (f : ℕ → Reader A) → ((i : ℕ) → Spans (f i) (λ a k. k ≡ length (w (i₀ + i) a)))
    → Spans (each n f) (λ c k. (k ≡ length (write_each w i₀ c)) × (length c ≡ n))
unfolding each write_each
spans_each w i₀ zero f h = spans_give [] (refl, refl)
spans_each w i₀ (suc n) f h =
    spans_next (h 0) (λ a k e.
    spans_next (spans_each w (suc i₀) n (λ i. f (suc i)) (λ i. spans_weaken (λ a k e. e ∙ ap (λ n. length (w n a)) (omega arith)) (h (suc i))))
    (λ c l (e', size).
    spans_give (a ∷ c) (omega (arith, e, e', ap (λ i. length (w i a)) (add-zero i₀), length-append (w i₀ a) (write_each w (suc i₀) c)), ap suc size)))

spans_list : {A : Type 0} (w : ℕ → A → List ℕ) (n : ℕ) (f : ℕ → Reader A) → ((i : ℕ) → Spans (f i) (λ a k. k ≡ length (w i a)))
    → Spans (each n f) (λ c k. k ≡ length (write_each w 0 c))
spans_list w n f h = spans_weaken (λ c k h. h.0) (spans_each w 0 n f (λ i. spans_weaken (λ a k e. e ∙ ap (λ n. length (w n a)) (omega arith)) (h i)))

spans_rows : (m d : ℕ) (test : ℕ → ℕ) → Spans (each m (λ i. each d (λ k. field 4 test))) (λ rows k. k ≡ length (write_all (write_all (bytes 4)) rows))
spans_rows m d test = spans_list (λ i. write_all (bytes 4)) m _ (λ i. spans_list (λ k. bytes 4) d _ (λ k. spans_number 4 test))

spans_PR : Spans PR (λ t k. k ≡ length (write_PR t.0 t.1 t.2))
unfolding PR write_PR bytes
spans_PR = spans_inside (
    spans_next (spans_field 2 _) (λ v k₀ e₀.
    spans_next (spans_field 4 _) (λ p k₁ e₁.
    spans_next (spans_field 1 _) (λ m k₂ e₂.
    spans_next (spans_field 1 _) (λ n k₃ e₃.
    spans_give (p, m, n) (omega arith))))))

spans_OR : (n : ℕ) → Spans (OR n) (λ orders k. k ≡ length (write_OR orders))
unfolding OR write_OR bytes
spans_OR n = spans_inside (spans_next (spans_field 2 _) (λ v k₀ e₀.
    spans_weaken (λ orders k e. omega arith) (spans_list (λ j. bytes 1) n _ (λ j. spans_number 1 _))))

spans_SH : (m : ℕ) → Spans (SH m) (λ shifts k. k ≡ length (write_SH shifts))
unfolding SH write_SH bytes
spans_SH m = spans_inside (spans_next (spans_field 2 _) (λ v k₀ e₀.
    spans_weaken (λ shifts k e. omega arith) (spans_list (λ i z. bytes 2 (unsigned z)) m _ (λ i.
    spans_next (spans_field 2 _) (λ v k e. spans_give (two's_complement v) (add-zero k ∙ e ∙ sym (length_bytes 2 (unsigned (two's_complement v)))))))))

spans_FC : (p m d j : ℕ) → Spans (FC p m d j) (λ column k. k ≡ length (write_FC j column))
unfolding FC write_FC bytes
spans_FC p m d j = spans_inside (
    spans_next (spans_field 2 _) (λ v k₀ e₀.
    spans_next (spans_field 1 _) (λ w k₁ e₁.
    spans_weaken (λ column k e. omega arith) (spans_rows m d _))))

spans_CE : (p m n : ℕ) → Spans (CE p m n) (λ C k. k ≡ length (write_CE C))
unfolding CE write_CE bytes
spans_CE p m n = spans_inside (spans_next (spans_field 2 _) (λ v k₀ e₀. spans_weaken (λ C k e. omega arith) (spans_rows m n _)))

spans_PE : (p i j : ℕ) → Spans (PE p i j) (λ entry k. k ≡ length (write_PE i j entry))
unfolding PE write_PE bytes
spans_PE p i j = spans_inside (
    spans_next (spans_field 2 _) (λ v k₀ e₀.
    spans_next (spans_field 1 _) (λ w k₁ e₁.
    spans_next (spans_field 1 _) (λ x k₂ e₂.
    spans_next (spans_field 1 _) (λ L k₃ e₃.
    spans_weaken (λ entry k e. omega arith) (spans_list (λ k. bytes 4) L _ (λ k. spans_number 4 _)))))))

spans_problem : Spans problem_reader (λ b k. k ≡ length (write_problem b))
unfolding problem_reader write_problem
spans_problem =
    spans_next spans_PR (λ t k₀ e₀.
    spans_next (spans_OR t.2) (λ orders k₁ e₁.
    spans_next (spans_SH t.1) (λ shifts k₂ e₂.
    spans_next (spans_list write_FC t.2 _ (λ j. spans_FC t.0 t.1 (get_or orders j 0) j)) (λ F k₃ e₃.
    spans_end (record { p = t.0; m = t.1; n = t.2; orders = orders; shifts = shifts; F = F })
    (rw (length-append, length-append, length-append) (omega arith))))))

spans_entries : (p m : ℕ) → Spans (entries_reader p m) (λ P k. k ≡ length (write_basis P))
unfolding entries_reader write_basis
spans_entries p m =
    spans_list (λ i. write_each (λ j entry. write_PE i j entry) 0) m _ (λ i. spans_list (λ j entry. write_PE i j entry) m _ (λ j. spans_PE p i j))

spans_basis : (b : Problem) → Spans (basis_reader b) (λ P k. k ≡ length (write_basis P))
unfolding basis_reader
spans_basis b = spans_next (spans_entries b.p b.m) (λ P k e. spans_end P (add-zero k ∙ e))

spans_answer : (b : Problem) → Spans (answer_reader b) (λ a k. k ≡ length (write_answer a))
unfolding answer_reader write_answer
spans_answer b =
    spans_next (spans_entries b.p b.m) (λ P k₀ e₀.
    spans_next (spans_CE b.p b.m b.n) (λ C k₁ e₁.
    spans_end (record { P = P; C = C }) (omega (arith, e₀, e₁, length-append (write_basis P) (write_CE C)))))

-- A file that is read to its end.
wholly : {A : Type 0} {m : Reader A} (w : A → List ℕ) → Spans m (λ a k. k ≡ length (w a)) → Ends m → (s : List ℕ) (f : ℕ) {a : A} {q : Place}
    → m s (front f) ≡ got a q → length s ≡ length (w a)
wholly w h ends s f x = let (k, e, same) = h.over s (front f) x in omega (arith, ends.at_end s (front f) x)

-- A file that is read as a problem is as long as that problem when written, …
pub problem_length : (s : List ℕ) {b : Problem} {q : Place} → read_problem s ≡ got b q → length s ≡ length (write_problem b)
unfolding read_problem
problem_length s h = wholly write_problem spans_problem problem_ends s 0 h

-- … one that is read as a basis, as that basis, …
pub basis_length : (b : Problem) (t : List ℕ) {P : List (List (List ℕ))} {q : Place} → basis_reader b t (front 1) ≡ got P q → length t ≡ length (write_basis P)
basis_length b t h = wholly write_basis (spans_basis b) (basis_ends b) t 1 h

-- … and one that is read as an answer, as that answer.
pub answer_length : (b : Problem) (t : List ℕ) {a : Answer} {q : Place} → answer_reader b t (front 1) ≡ got a q → length t ≡ length (write_answer a)
answer_length b t h = wholly write_answer (spans_answer b) (answer_ends b) t 1 h
