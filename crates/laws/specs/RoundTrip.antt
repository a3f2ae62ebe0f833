-- The layout of document 01 is unambiguous: what is written is read, and what is read is what is written.
--   Reads x m a l            the reader m reads a from the bytes l, whatever stands before them, with x behind them
--   read_written_problem, read_written_answer, read_written_basis, read_written_claim      the writers' files are read as what was written
--   Writes m W               what the reader m reads from a file of bytes stands in W to the bytes that it was read from
--   written_problem, written_answer, written_basis       a file that is read is the one that is written
--   layout_unambiguous, basis_layout_unambiguous         two pairs of files that are read as the same claim or basis are the same
use Rattle.std.specs.Prelude.{◌≡◌, refl, ◌≢◌, Bool, ℕ, zero, suc, pred, ◌+◌, ◌^◌, ◌≤◌, ◌<◌, T, leb, ltb, eqb, ℤ, pos, nat_abs, length, get_or, take, drop}
use Rattle.std.proofs.Common.{sym, ap, ap₂, subst, ◌∙◌, zero-le, mod-eq_of_lt, add-zero, arith, le→leb, lt→ltb, eqb→eq, length-append, length-drop, take-append-drop, length-take-le, drop-drop}
use mathlib.Core.List.{List, [], ◌∷◌, ◌++◌, append_assoc, append-nil}
use Rattle.std.proofs.Math.Dec.{eqb_refl}
use Rattle.std.proofs.Math.Seq.{drop-append_seam, drop-length}
use Rattle.algebra.specs.Prime.{Prime}
use Rattle.rules.specs.Claim.{Problem, Answer, Claim}
use Rattle.rules.specs.Reader.{Place, got, Reader, next, ◌>>=◌, give, number_at, field, mark, unless, inside, each, end, front}
use Rattle.rules.specs.Sizes.{largest_prime, most_rows, most_order, most_shift, most_length}
use Rattle.rules.specs.Files.{PR_mark, OR_mark, SH_mark, FC_mark, PE_mark, CE_mark}
use Rattle.rules.specs.Files.{PR, OR, SH, FC, PE, CE, problem_reader, coefficient_test, entries_reader, answer_reader, basis_reader, read_problem}
use Rattle.rules.specs.Files.{claim_for, read_claim, read_basis, allowed_prime, one_to, residue, due, two's_complement, shift_in_size, shift_reader}
use Rattle.laws.specs.Valid.{ValidProblem, ValidBasis, ValidAnswer, Valid}
use Rattle.rules.specs.Matrices.{order, at}
use Rattle.rules.specs.Writer.{bytes, write_each, write_all, unsigned, write_PR, write_OR, write_SH, write_FC, write_PE, write_CE, write_problem}
use Rattle.rules.specs.Writer.{write_basis, write_answer}
use Rattle.laws.specs.ReaderLaws.{moved, opening, closed, field_got, end_passed, end_got, next_got, Ends}
use Rattle.laws.specs.Soundness.{problem_ends, basis_ends, answer_ends}
use Rattle.laws.specs.BothFiles.{both_read}
use Rattle.laws.specs.Ranges.{claim_got, basis_got}
use Rattle.laws.specs.FieldTests.{unless_iff, allowed_prime_iff, one_to_iff, coefficient_iff}
use Rattle.laws.specs.ByteNumbers.{AllBytes, number_at_below, number_at_bytes, bytes_number_at, length_bytes, two's_complement_unsigned}
use Rattle.laws.specs.ByteNumbers.{unsigned_two's_complement}

-- WHAT IS WRITTEN IS READ

-- From the offset n on, which is in the file, the bytes x are left.
record Rest (s : List ℕ) (n : ℕ) (x : List ℕ) : Type 0 where
  in_file : n ≤ length s
  left : drop n s ≡ x

rest_long : (s : List ℕ) (n : ℕ) (l x : List ℕ) → Rest s n (l ++ x) → n + length l ≤ length s
rest_long s n l x h = omega (arith, h.in_file, sym (length-drop n s) ∙ ap length h.left ∙ length-append l x)

rest_next : (s : List ℕ) (n : ℕ) (l x : List ℕ) → Rest s n (l ++ x) → Rest s (n + length l) x
rest_next s n l x h = record {
  in_file = rest_long s n l x h;
  left = sym (drop-drop (length l) n s) ∙ ap (drop (length l)) h.left ∙ drop-append_seam l x;
}

-- The reader m reads a from the bytes l that stand where it starts, with x behind them, and ends behind l.
record Reads {A : Type 0} (x : List ℕ) (m : Reader A) (a : A) (l : List ℕ) : Type 0 where
  run : (s : List ℕ) (p : Place) → Rest s p.at (l ++ x) → (q : Place) × (m s p ≡ got a q) × Rest s q.at x

reads_as : {A : Type 0} {x : List ℕ} {m : Reader A} {a : A} {l l' : List ℕ} → l ≡ l' → Reads x m a l → Reads x m a l'
reads_as {A} {x} {m} {a} e h = subst (Reads x m a) e h

reads_give : {A : Type 0} {x : List ℕ} (a : A) → Reads x (give a) a []
reads_give a = record { run = λ s p h. (p, refl, h) }

reads_end : {A : Type 0} (a : A) → Reads [] (end a) a []
reads_end a = record { run = λ s p h. (p, end_passed a s p (omega (arith, h.in_file, sym (length-drop p.at s) ∙ ap length h.left)), h) }

reads_next : {A B : Type 0} {x : List ℕ} {m : Reader A} (f : A → Reader B) {a : A} {b : B} {l l' : List ℕ} → Reads (l' ++ x) m a l → Reads x (f a) b l'
    → Reads x (m >>= f) b (l ++ l')
unfolding next
reads_next {x} f {l} {l'} hm hf = record {
  run = λ s p h.
      let (q, e, h₁) = hm.run s p (subst (Rest s p.at) (append_assoc l l' x) h) in
      let (r, e₁, h₂) = hf.run s q h₁ in
      (r, ap (λ y. next y (λ a q. f a s q)) e ∙ e₁, h₂);
}

reads_inside : {A : Type 0} {x : List ℕ} {m : Reader A} {a : A} {l : List ℕ} → Reads x m a l → Reads x (inside m) a l
unfolding next
reads_inside hm = record {
  run = λ s p h.
      let (q, e, h₁) = hm.run s (opening p) h in
      (closed q, ap (λ y. next y (λ a q. got a (closed q))) e, h₁);
}

reads_field : (x : List ℕ) (k : ℕ) (test : ℕ → ℕ) (v : ℕ) → v < 256 ^ k → test v ≡ 0 → Reads x (field k test) v (bytes k v)
reads_field x k test v small e = record {
  run = λ s p h.
      let n : number_at k s p.at ≡ v = number s p.at h in
      let long : p.at + k ≤ length s = subst (λ k'. p.at + k' ≤ length s) (length_bytes k v) (rest_long s p.at (bytes k v) x h) in (
        moved k p,
        (field_got k test s p v (moved k p)).1 (long, sym n, e, refl),
        subst (λ k'. Rest s (p.at + k') x) (length_bytes k v) (rest_next s p.at (bytes k v) x h),
      );
}
  where
    number : (s : List ℕ) (n : ℕ) → Rest s n (bytes k v ++ x) → number_at k s n ≡ v
    number s n h =
        ap₂ (number_at k) (sym (take-append-drop n s) ∙ ap (λ y. take n s ++ y) h.left ∙ sym (append_assoc (take n s) (bytes k v) x))
        (sym (length-take-le n s h.in_file))
        ∙ number_at_bytes k v (take n s) x
        ∙ mod-eq_of_lt small

reads_unless : (x : List ℕ) (k code : ℕ) (holds : ℕ → Bool) (v : ℕ) → 0 < code → v < 256 ^ k → T (holds v) → Reads x (field k (unless code holds)) v (bytes k v)
reads_unless x k code holds v some small t = reads_field x k (unless code holds) v small ((unless_iff code (holds v) some).1 t)

reads_exactly : (x : List ℕ) (k code v : ℕ) → 0 < code → v < 256 ^ k → Reads x (field k (unless code (λ w. eqb w v))) v (bytes k v)
reads_exactly x k code v some small = reads_unless x k code (λ w. eqb w v) v some small (eqb_refl v)

reads_mark : (x : List ℕ) (v : ℕ) → v < 65_536 → Reads x (mark v) v (bytes 2 v)
reads_mark x v small = reads_exactly x 2 2 v (omega arith) small

reads_each : {A : Type 0} (d : A) (x : List ℕ) (f : ℕ → Reader A) (w : ℕ → A → List ℕ) (i₀ : ℕ) (l : List A)
    → ((i : ℕ) → i < length l → (x : List ℕ) → Reads x (f i) (get_or l i d) (w (i₀ + i) (get_or l i d))) → Reads x (each (length l) f) l (write_each w i₀ l)
unfolding each write_each
reads_each d x f w i₀ [] h = reads_give []
reads_each d x f w i₀ (a ∷ l) h =
    reads_next _ (reads_as (ap (λ i. w i a) (add-zero i₀)) (h 0 (omega arith) _))
    (reads_as (append-nil _)
    (reads_next _ (reads_each d _ (λ i. f (suc i)) w (suc i₀) l (λ i b x. reads_as (ap (λ n. w n (get_or l i d)) (omega arith)) (h (suc i) (omega arith) x)))
    (reads_give (a ∷ l))))

reads_list : {A : Type 0} (d : A) (x : List ℕ) (n : ℕ) (f : ℕ → Reader A) (w : ℕ → A → List ℕ) (l : List A) → length l ≡ n
    → ((i : ℕ) → i < n → (x : List ℕ) → Reads x (f i) (get_or l i d) (w i (get_or l i d))) → Reads x (each n f) l (write_each w 0 l)
reads_list d x n f w l size h =
    subst (λ n. Reads x (each n f) l (write_each w 0 l)) size
    (reads_each d x f w 0 l (λ i b x. reads_as (ap (λ n. w n (get_or l i d)) (omega arith)) (h i (omega (arith, size)) x)))

reads_PR : (x : List ℕ) (p m n : ℕ) → Prime p → p ≤ largest_prime → 1 ≤ m → m ≤ most_rows → 1 ≤ n → n ≤ most_rows → Reads x PR (p, m, n) (write_PR p m n)
unfolding PR write_PR largest_prime most_rows
reads_PR x p m n prime size m₁ m₂ n₁ n₂ = reads_as (simp (append_assoc, append-nil)) (reads_inside (
    reads_next _ (reads_mark _ PR_mark (omega arith)) (
    reads_next _ (reads_unless _ 4 4 allowed_prime p (omega arith) (omega arith) ((allowed_prime_iff p).1 (prime, size))) (
    reads_next _ (reads_unless _ 1 3 (one_to most_rows) m (omega arith) (omega arith) ((one_to_iff most_rows m).1 (m₁, m₂))) (
    reads_next _ (reads_unless _ 1 3 (one_to most_rows) n (omega arith) (omega arith) ((one_to_iff most_rows n).1 (n₁, n₂))) (
    reads_give (p, m, n)))))))

reads_OR : (x : List ℕ) (n : ℕ) (orders : List ℕ) → length orders ≡ n → ((j : ℕ) → j < n → 1 ≤ get_or orders j 0) → ((j : ℕ) → get_or orders j 0 ≤ most_order)
    → Reads x (OR n) orders (write_OR orders)
unfolding OR write_OR most_order
reads_OR x n orders size least most = reads_inside (
    reads_next _ (reads_mark _ OR_mark (omega arith)) (
    reads_list 0 x n _ (λ j. bytes 1) orders size
    (λ j h x. reads_unless x 1 3 (one_to most_order) (get_or orders j 0) (omega arith) (omega (arith, most j))
    ((one_to_iff most_order (get_or orders j 0)).1 (least j h, most j)))))

reads_SH : (x : List ℕ) (m : ℕ) (shifts : List ℤ) → length shifts ≡ m → ((i : ℕ) → nat_abs (get_or shifts i (pos 0)) ≤ most_shift)
    → Reads x (SH m) shifts (write_SH shifts)
unfolding SH write_SH
reads_SH x m shifts size most = reads_inside (
    reads_next _ (reads_mark _ SH_mark (omega arith)) (
    reads_list (pos 0) x m _ (λ i z. bytes 2 (unsigned z)) shifts size (λ i h x. one (get_or shifts i (pos 0)) (most i) x)))
  where
    one : (z : ℤ) → nat_abs z ≤ most_shift → (x : List ℕ)
        → Reads x shift_reader z (bytes 2 (unsigned z))
    one z h x =
        let (back, small) = two's_complement_unsigned z h in
        reads_as (append-nil _)
        (reads_next _ (reads_unless _ 2 3 shift_in_size (unsigned z) (omega arith) small
        (subst (λ y. T (leb (nat_abs y) most_shift)) (sym back) (le→leb (nat_abs z) most_shift h)))
        (subst (λ y. Reads x (give y) z []) (sym back) (reads_give z)))

-- Rows of numbers below p.
reads_rows : (x : List ℕ) (p m : ℕ) (d : ℕ) (rows : List (List ℕ)) → p ≤ largest_prime → length rows ≡ m → ((i : ℕ) → i < m → length (get_or rows i []) ≡ d)
    → ((i k : ℕ) → get_or (get_or rows i []) k 0 < p) → Reads x (each m (λ i. each d (λ k. field 4 (residue p)))) rows (write_all (write_all (bytes 4)) rows)
unfolding largest_prime
reads_rows x p m d rows hp size sizes range =
    reads_list [] x m _ (λ i. write_all (bytes 4)) rows size (λ i hi x.
    reads_list 0 x d _ (λ k. bytes 4) (get_or rows i []) (sizes i hi) (λ k hk x.
    reads_unless x 4 6 (λ v. ltb v p) (get_or (get_or rows i []) k 0) (omega arith) (omega (arith, range i k)) (lt→ltb _ p (range i k))))

reads_due : (x : List ℕ) (i : ℕ) → i < 256 → Reads x (field 1 (due i)) i (bytes 1 i)
reads_due x i small = reads_exactly x 1 5 i (omega arith) small

reads_FC : (x : List ℕ) (p m d j : ℕ) (column : List (List ℕ)) → p ≤ largest_prime → j < 256 → length column ≡ m
    → ((i : ℕ) → i < m → length (get_or column i []) ≡ d) → ((i k : ℕ) → get_or (get_or column i []) k 0 < p) → Reads x (FC p m d j) column (write_FC j column)
unfolding FC write_FC
reads_FC x p m d j column hp hj size sizes range = reads_as (simp append_assoc) (reads_inside (
    reads_next _ (reads_mark _ FC_mark (omega arith)) (
    reads_next _ (reads_due _ j hj) (
    reads_rows x p m d column hp size sizes range))))

reads_CE : (x : List ℕ) (p m n : ℕ) (C : List (List ℕ)) → p ≤ largest_prime → length C ≡ m → ((i : ℕ) → i < m → length (get_or C i []) ≡ n)
    → ((i j : ℕ) → get_or (get_or C i []) j 0 < p) → Reads x (CE p m n) C (write_CE C)
unfolding CE write_CE
reads_CE x p m n C hp size sizes range = reads_inside (
    reads_next _ (reads_mark _ CE_mark (omega arith)) (
    reads_rows x p m n C hp size sizes range))

reads_PE : (x : List ℕ) (p i j : ℕ) (entry : List ℕ) → p ≤ largest_prime → i < 256 → j < 256 → length entry ≤ most_length → ((k : ℕ) → get_or entry k 0 < p)
    → (0 < length entry → get_or entry (pred (length entry)) 0 ≢ 0) → Reads x (PE p i j) entry (write_PE i j entry)
unfolding PE write_PE largest_prime most_length
reads_PE x p i j entry hp hi hj size range last = reads_as (simp append_assoc) (reads_inside (
    reads_next _ (reads_mark _ PE_mark (omega arith)) (
    reads_next _ (reads_due _ i hi) (
    reads_next _ (reads_due _ j hj) (
    reads_next _ (reads_unless _ 1 3 (λ L. leb L most_length) (length entry) (omega arith) (omega arith) (le→leb (length entry) most_length size)) (
    reads_list 0 x (length entry) _ (λ k. bytes 4) entry refl (λ k hk x.
    reads_field x 4 (coefficient_test p (length entry) k) (get_or entry k 0) (omega (arith, range k))
    ((coefficient_iff p (length entry) k (get_or entry k 0)).1 (range k, λ e. subst (λ n. get_or entry n 0 ≢ 0) (omega arith) (last (omega arith)))))))))))

reads_problem : (b : Problem) → ValidProblem b → Reads [] problem_reader b (write_problem b)
unfolding problem_reader write_problem most_rows
reads_problem b v = reads_as (simp (append_assoc, append-nil)) (
    reads_next _ (reads_PR _ b.p b.m b.n v.prime v.prime_size v.rows_least v.rows_most v.columns_least v.columns_most) (
    reads_next _ (reads_OR _ b.n b.orders v.orders_length v.order_least v.order_most) (
    reads_next _ (reads_SH _ b.m b.shifts v.shifts_length v.shift_most) (
    reads_next _ (reads_list [] _ b.n (λ j. FC b.p b.m (order b j) j) write_FC b.F v.F_length (λ j hj x.
    reads_FC x b.p b.m (order b j) j (get_or b.F j []) v.prime_size (omega (arith, v.columns_most)) (v.F_column_length j hj)
    (λ i hi. v.F_entry_length i j hi hj) (λ i. v.F_range i j))) (
    reads_end b)))))

module _ (b : Problem) (v : ValidProblem b) (P : List (List (List ℕ))) (w : ValidBasis b P) where
  reads_entries : (x : List ℕ) → Reads x (entries_reader b.p b.m) P (write_basis P)
  unfolding entries_reader write_basis most_rows
  reads_entries x =
      reads_list [] x b.m (λ i. each b.m (λ j. PE b.p i j)) (λ i. write_each (λ j entry. write_PE i j entry) 0) P w.P_length (λ i hi x.
      reads_list [] x b.m (λ j. PE b.p i j) (λ j entry. write_PE i j entry) (get_or P i []) (w.P_row_length i hi) (λ j hj x.
      reads_PE x b.p i j (at P i j) v.prime_size (omega (arith, v.rows_most)) (omega (arith, v.rows_most)) (w.P_entry_length i j) (w.P_range i j)
      (w.P_last i j)))

  reads_basis : Reads [] (basis_reader b) P (write_basis P)
  unfolding basis_reader
  reads_basis = reads_as (append-nil (write_basis P)) (reads_next _ (reads_entries _) (reads_end P))

reads_answer : (b : Problem) → ValidProblem b → (a : Answer) → ValidAnswer b a → Reads [] (answer_reader b) a (write_answer a)
unfolding answer_reader write_answer
reads_answer b v a w = reads_as (simp append-nil) (
    reads_next _ (reads_entries b v a.P w.basis _) (
    reads_next _ (reads_CE _ b.p b.m b.n a.C v.prime_size w.C_length w.C_row_length w.C_range) (
    reads_end a)))

-- A reader of a whole file.
whole : {A : Type 0} {m : Reader A} {a : A} {l : List ℕ} → Reads [] m a l → (f : ℕ) → (q : Place) × (m l (front f) ≡ got a q)
whole {l} h f = let (q, e, r) = h.run l (front f) (record { in_file = zero-le; left = sym (append-nil l) }) in (q, e)

-- A valid problem that is written is read as that problem, …
pub read_written_problem : (b : Problem) → ValidProblem b → (q : Place) × (read_problem (write_problem b) ≡ got b q)
unfolding read_problem
read_written_problem b v = whole (reads_problem b v) 0

-- … an answer to it as that answer, …
pub read_written_answer : (b : Problem) → ValidProblem b → (a : Answer) → ValidAnswer b a → (q : Place) × (answer_reader b (write_answer a) (front 1) ≡ got a q)
read_written_answer b v a w = whole (reads_answer b v a w) 1

-- … and a basis for it as that basis.
pub read_written_basis : (b : Problem) → ValidProblem b → (P : List (List (List ℕ))) → ValidBasis b P
    → (q : Place) × (basis_reader b (write_basis P) (front 1) ≡ got P q)
read_written_basis b v P w = whole (reads_basis b v P w) 1

-- A valid claim that is written is read as that claim.
pub read_written_claim : (c : Claim) → Valid c → (q : Place) × (read_claim (write_problem c.problem) (write_answer c.answer) ≡ got c q)
read_written_claim c v =
    let (p, e) = read_written_problem c.problem v.valid_problem in
    let (q, f) = read_written_answer c.problem v.valid_problem c.answer v.valid_answer in
    (q, both_read answer_reader claim_for (write_problem c.problem) (write_answer c.answer) e f)

-- WHAT IS READ IS WRITTEN

-- What the reader m reads from a file of bytes stands in W to the bytes l that it was read from.
record Writes {A : Type 0} (m : Reader A) (W : A → List ℕ → Type 0) : Type 0 where
  read : (s : List ℕ) → AllBytes s → (p : Place) {a : A} {q : Place} → m s p ≡ got a q → (l : List ℕ) × (drop p.at s ≡ l ++ drop q.at s) × W a l

writes_weaken : {A : Type 0} {m : Reader A} {W R : A → List ℕ → Type 0} → ((a : A) (l : List ℕ) → W a l → R a l) → Writes m W → Writes m R
writes_weaken f h = record { read = λ s b p x. let (l, e, w) = h.read s b p x in (l, e, f _ l w) }

writes_give : {A : Type 0} {R : A → List ℕ → Type 0} (a : A) → R a [] → Writes (give a) R
writes_give {A} {R} a v =
    record { read = λ s b p {a = a'} {q} x. let e : a ≡ a' = cc in let f : p ≡ q = cc in ([], ap (λ p. drop p.at s) f, subst (λ a. R a []) e v) }

writes_end : {A : Type 0} {R : A → List ℕ → Type 0} (a : A) → R a [] → Writes (end a) R
writes_end {A} {R} a v =
    record {
      read = λ s b p {a = a'} {q} x.
          let (h, e, f) = (end_got a s p a' q).0 x in ([], ap (λ p. drop p.at s) (sym f), subst (λ a. R a []) (sym e) v);
    }

writes_next : {A B : Type 0} {m : Reader A} {f : A → Reader B} {W : A → List ℕ → Type 0} {R : B → List ℕ → Type 0} → Writes m W
    → ((a : A) (l : List ℕ) → W a l → Writes (f a) (λ b l'. R b (l ++ l'))) → Writes (m >>= f) R
writes_next {m} {f} hm hf = record {
  read = λ s b p {q} x.
      let (a, p', e, h) = next_got (m s p) (λ a q. f a s q) x in
      let (l, there, w) = hm.read s b p e in
      let (l', further, r) = (hf a l w).read s b p' h in
      (l ++ l', there ∙ ap (λ y. l ++ y) further ∙ sym (append_assoc l l' (drop q.at s)), r);
}

writes_inside : {A : Type 0} {m : Reader A} {W : A → List ℕ → Type 0} → Writes m W → Writes (inside m) W
writes_inside {A} {m} {W} hm = record {
  read = λ s b p {a = a'} {q} x.
      let (a, p', e, h) = next_got (m s (opening p)) (λ a q. got a (closed q)) x in
      let (l, there, w) = hm.read s b (opening p) e in
      let f : a ≡ a' = cc in
      let g : closed p' ≡ q = cc in
      (l, there ∙ ap (λ (p : Place). l ++ drop p.at s) g, subst (λ a. W a l) f w);
}

writes_field : (k : ℕ) (test : ℕ → ℕ) → Writes (field k test) (λ v l. (l ≡ bytes k v) × (v < 256 ^ k) × (test v ≡ 0))
writes_field k test = record {
  read = λ s b p {a = v} {q} x.
      let (long, n, e, there) = (field_got k test s p v q).0 x in (
        take k (drop p.at s),
        sym (take-append-drop k (drop p.at s))
            ∙ ap (λ y. take k (drop p.at s) ++ y) (drop-drop k p.at s ∙ ap (λ (p : Place). drop p.at s) (sym there)),
        (sym (bytes_number_at k s p.at b long) ∙ ap (bytes k) (sym n), subst (λ v. v < 256 ^ k) (sym n) (number_at_below k s p.at b), e),
      );
}

writes_each : {A : Type 0} (w : ℕ → A → List ℕ) (i₀ n : ℕ) (f : ℕ → Reader A) → ((i : ℕ) → Writes (f i) (λ a l. l ≡ w (i₀ + i) a))
    → Writes (each n f) (λ c l. (l ≡ write_each w i₀ c) × (length c ≡ n))
unfolding each write_each
writes_each w i₀ zero f h = writes_give [] (refl, refl)
writes_each w i₀ (suc n) f h =
    writes_next (h 0) (λ a l e.
    writes_next (writes_each w (suc i₀) n (λ i. f (suc i)) (λ i. writes_weaken (λ a l e. e ∙ ap (λ n. w n a) (omega arith)) (h (suc i)))) (λ c l' (e', size).
    writes_give (a ∷ c) (ap₂ ◌++◌ (e ∙ ap (λ i. w i a) (add-zero i₀)) (append-nil l' ∙ e'), ap suc size)))

writes_number : (k : ℕ) (test : ℕ → ℕ) → Writes (field k test) (λ v l. l ≡ bytes k v)
writes_number k test = writes_weaken (λ v l h. h.0) (writes_field k test)

writes_exactly : (k code v : ℕ) → 0 < code → Writes (field k (unless code (λ w. eqb w v))) (λ w l. l ≡ bytes k v)
writes_exactly k code v some =
    writes_weaken (λ w l (e, small, passed). e ∙ ap (bytes k) (eqb→eq w v ((unless_iff code (eqb w v) some).0 passed)))
    (writes_field k (unless code (λ w. eqb w v)))

writes_mark : (v : ℕ) → Writes (mark v) (λ w l. l ≡ bytes 2 v)
writes_mark v = writes_exactly 2 2 v (omega arith)

writes_list : {A : Type 0} (w : ℕ → A → List ℕ) (n : ℕ) (f : ℕ → Reader A) → ((i : ℕ) → Writes (f i) (λ a l. l ≡ w i a))
    → Writes (each n f) (λ c l. l ≡ write_each w 0 c)
writes_list w n f h = writes_weaken (λ c l h. h.0) (writes_each w 0 n f (λ i. writes_weaken (λ a l e. e ∙ ap (λ n. w n a) (omega arith)) (h i)))

writes_rows : (p m d : ℕ) → Writes (each m (λ i. each d (λ k. field 4 (residue p)))) (λ rows l. l ≡ write_all (write_all (bytes 4)) rows)
writes_rows p m d = writes_list (λ i. write_all (bytes 4)) m _ (λ i. writes_list (λ k. bytes 4) d _ (λ k. writes_number 4 (residue p)))

writes_PR : Writes PR (λ t l. l ≡ write_PR t.0 t.1 t.2)
unfolding PR write_PR
writes_PR = writes_inside (
    writes_next (writes_mark PR_mark) (λ v l₀ e₀.
    writes_next (writes_number 4 _) (λ p l₁ e₁.
    writes_next (writes_number 1 _) (λ m l₂ e₂.
    writes_next (writes_number 1 _) (λ n l₃ e₃.
    writes_give (p, m, n) (ap₂ ◌++◌ e₀ (ap₂ ◌++◌ e₁ (ap₂ ◌++◌ e₂ (append-nil l₃ ∙ e₃))) ∙ simp append_assoc))))))

writes_OR : (n : ℕ) → Writes (OR n) (λ orders l. l ≡ write_OR orders)
unfolding OR write_OR
writes_OR n = writes_inside (writes_next (writes_mark OR_mark) (λ v l₀ e₀.
    writes_weaken (λ orders l e. ap₂ ◌++◌ e₀ e) (writes_list (λ j. bytes 1) n _ (λ j. writes_number 1 _))))

writes_SH : (m : ℕ) → Writes (SH m) (λ shifts l. l ≡ write_SH shifts)
unfolding SH write_SH
writes_SH m = writes_inside (writes_next (writes_mark SH_mark) (λ v l₀ e₀.
    writes_weaken (λ shifts l e. ap₂ ◌++◌ e₀ e) (writes_list (λ i z. bytes 2 (unsigned z)) m _ (λ i.
    writes_next (writes_field 2 _)
    (λ v l (e, small, passed). writes_give (two's_complement v) (append-nil l ∙ e ∙ ap (bytes 2) (sym (unsigned_two's_complement v small))))))))

writes_FC : (p m d j : ℕ) → Writes (FC p m d j) (λ column l. l ≡ write_FC j column)
unfolding FC write_FC
writes_FC p m d j = writes_inside (
    writes_next (writes_mark FC_mark) (λ v l₀ e₀.
    writes_next (writes_exactly 1 5 j (omega arith)) (λ w l₁ e₁.
    writes_weaken (λ column l e. ap₂ ◌++◌ e₀ (ap₂ ◌++◌ e₁ e) ∙ simp append_assoc) (writes_rows p m d))))

writes_CE : (p m n : ℕ) → Writes (CE p m n) (λ C l. l ≡ write_CE C)
unfolding CE write_CE
writes_CE p m n =
    writes_inside (writes_next (writes_mark CE_mark) (λ v l₀ e₀.
    writes_weaken (λ C l e. ap₂ ◌++◌ e₀ e) (writes_rows p m n)))

writes_PE : (p i j : ℕ) → Writes (PE p i j) (λ entry l. l ≡ write_PE i j entry)
unfolding PE write_PE
writes_PE p i j = writes_inside (
    writes_next (writes_mark PE_mark) (λ v l₀ e₀.
    writes_next (writes_exactly 1 5 i (omega arith)) (λ w l₁ e₁.
    writes_next (writes_exactly 1 5 j (omega arith)) (λ x l₂ e₂.
    writes_next (writes_number 1 _) (λ L l₃ e₃.
    writes_weaken (λ entry l (e, size). ap₂ ◌++◌ e₀ (ap₂ ◌++◌ e₁ (ap₂ ◌++◌ e₂ (ap₂ ◌++◌ (e₃ ∙ ap (bytes 1) (sym size)) e))) ∙ simp append_assoc)
    (writes_each (λ k. bytes 4) 0 L _ (λ k. writes_number 4 _)))))))

writes_problem : Writes problem_reader (λ b l. l ≡ write_problem b)
unfolding problem_reader write_problem
writes_problem =
    writes_next writes_PR (λ t l₀ e₀.
    writes_next (writes_OR t.2) (λ orders l₁ e₁.
    writes_next (writes_SH t.1) (λ shifts l₂ e₂.
    writes_next (writes_list write_FC t.2 _ (λ j. writes_FC t.0 t.1 (get_or orders j 0) j)) (λ F l₃ e₃.
    writes_end (record { p = t.0; m = t.1; n = t.2; orders = orders; shifts = shifts; F = F })
    (ap₂ ◌++◌ e₀ (ap₂ ◌++◌ e₁ (ap₂ ◌++◌ e₂ (append-nil l₃ ∙ e₃))) ∙ simp append_assoc)))))

writes_entries : (p m : ℕ) → Writes (entries_reader p m) (λ P l. l ≡ write_basis P)
unfolding entries_reader write_basis
writes_entries p m =
    writes_list (λ i. write_each (λ j entry. write_PE i j entry) 0) m _ (λ i. writes_list (λ j entry. write_PE i j entry) m _ (λ j. writes_PE p i j))

writes_basis : (b : Problem) → Writes (basis_reader b) (λ P l. l ≡ write_basis P)
unfolding basis_reader
writes_basis b = writes_next (writes_entries b.p b.m) (λ P l e. writes_end P (append-nil l ∙ e))

writes_answer : (b : Problem) → Writes (answer_reader b) (λ a l. l ≡ write_answer a)
unfolding answer_reader write_answer
writes_answer b =
    writes_next (writes_entries b.p b.m) (λ P l₀ e₀.
    writes_next (writes_CE b.p b.m b.n) (λ C l₁ e₁.
    writes_end (record { P = P; C = C }) (ap₂ ◌++◌ e₀ (append-nil l₁ ∙ e₁))))

-- A file that is read to its end.
wholly : {A : Type 0} {m : Reader A} {w : A → List ℕ} → Writes m (λ a l. l ≡ w a) → Ends m → (s : List ℕ) → AllBytes s → (f : ℕ) {a : A} {q : Place}
    → m s (front f) ≡ got a q → s ≡ w a
wholly h ends s b f {q} x =
    let (l, e, k) = h.read s b (front f) x in
    e ∙ ap (λ n. l ++ drop n s) (ends.at_end s (front f) x) ∙ ap (λ y. l ++ y) (drop-length s) ∙ append-nil l ∙ k

-- A file of bytes that is read as a problem is that problem as it is written, …
pub written_problem : (s : List ℕ) → AllBytes s → {b : Problem} {q : Place} → read_problem s ≡ got b q → s ≡ write_problem b
unfolding read_problem
written_problem s bytes h = wholly writes_problem problem_ends s bytes 0 h

-- … one that is read as an answer, that answer, …
pub written_answer : (b : Problem) (t : List ℕ) → AllBytes t → {a : Answer} {q : Place} → answer_reader b t (front 1) ≡ got a q → t ≡ write_answer a
written_answer b t bytes h = wholly (writes_answer b) (answer_ends b) t bytes 1 h

-- … and one that is read as a basis, that basis.
pub written_basis : (b : Problem) (t : List ℕ) → AllBytes t → {P : List (List (List ℕ))} {q : Place} → basis_reader b t (front 1) ≡ got P q → t ≡ write_basis P
written_basis b t bytes h = wholly (writes_basis b) (basis_ends b) t bytes 1 h

-- Files of bytes that are read as the same claim are the same.
pub layout_unambiguous : (s t s' t' : List ℕ) → AllBytes s → AllBytes t → AllBytes s' → AllBytes t' → (c : Claim) (q q' : Place) → read_claim s t ≡ got c q
    → read_claim s' t' ≡ got c q' → (s ≡ s') × (t ≡ t')
layout_unambiguous s t s' t' bs bt bs' bt' c q q' h h' =
    let (p, e, f) = claim_got s t c q h in
    let (p', e', f') = claim_got s' t' c q' h' in
    (written_problem s bs e ∙ sym (written_problem s' bs' e'), written_answer c.problem t bt f ∙ sym (written_answer c.problem t' bt' f'))

-- So are files that are read as the same problem and basis.
pub basis_layout_unambiguous : (s t s' t' : List ℕ) → AllBytes s → AllBytes t → AllBytes s' → AllBytes t'
    → (c : Problem × List (List (List ℕ))) (q q' : Place) → read_basis s t ≡ got c q → read_basis s' t' ≡ got c q' → (s ≡ s') × (t ≡ t')
basis_layout_unambiguous s t s' t' bs bt bs' bt' c q q' h h' =
    let (p, e, f) = basis_got s t c q h in
    let (p', e', f') = basis_got s' t' c q' h' in
    (written_problem s bs e ∙ sym (written_problem s' bs' e'), written_basis c.0 t bt f ∙ sym (written_basis c.0 t' bt' f'))
