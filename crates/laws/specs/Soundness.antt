-- Each reader of `Files` is sound: how far it moves at most, what holds of what it gives, how it refuses, how far it looks.
--   longest_FC, longest_problem, longest_PE, longest_basis, longest_answer       the most bytes that the readers move over
--   sound_size, sound_due, sound_shift, sound_residue, sound_count, sound_coefficient    the fields
--   Row, Rows, sound_row     rows of numbers below p
--   InSize, sound_PR, sound_OR, sound_SH, sound_FC       a problem's records, and what they give
--   Entry, Entries, sound_PE, sound_entries      an answer's entries, and what they give
--   listed_all               what holds of every member of a list and of its default holds of everything that is looked up
--   sound_basis_sized, sound_answer_sized        an answer to a problem whose m and n are in size, whatever its p
--   sound_problem, sound_basis, sound_answer     the three files' readers
--   problem_ends, basis_ends, answer_ends                they read to the file's end
use Rattle.std.specs.Prelude.{◌≡◌, ◌≢◌, Bool, List, [], ℕ, suc, pred, ◌+◌, ◌*◌, ◌≤◌, ◌<◌, T, leb, ltb, eqb, pos, nat_abs, length, get_or}
use Rattle.std.proofs.Common.{sym, subst, zero-le, mul-le-mul, mul-le-mul_right, le_refl, le_of_lt, not-suc-le-zero, arith, leb→le, ltb→lt}
use Rattle.std.proofs.Math.Logic.{by_cases}
use Rattle.std.proofs.Math.Decide.{dec_le}
use Rattle.std.proofs.Math.ListN.{get_or-eq_default}
use Rattle.algebra.specs.Prime.{Prime}
use Rattle.rules.specs.Sizes.{largest_prime, most_rows, most_order, most_shift, most_length}
use Rattle.rules.specs.RecordBytes.{head_bytes, column_bytes, entry_bytes, evidence_bytes}
use Rattle.rules.specs.Claim.{Problem}
use Rattle.rules.specs.Reader.{field, mark, unless, each}
use Rattle.rules.specs.Files.{PR, OR, SH, FC, PE, CE, problem_reader, coefficient_test, entries_reader, answer_reader, basis_reader, allowed_prime}
use Rattle.rules.specs.Files.{PR_mark, OR_mark, SH_mark, FC_mark, PE_mark, CE_mark, one_to, due, residue, two's_complement, shift_in_size, shift_reader}
use Rattle.rules.specs.Matrices.{at}
use Rattle.laws.specs.Valid.{ValidProblem, ValidBasis, ValidAnswer}
use Rattle.laws.specs.BoolLaws.{cond_cases}
use Rattle.laws.specs.ReaderLaws.{Sound, Listed, sound_weaken, sound_give, sound_next, sound_field, sound_end, sound_inside, sound_each, Ends}
use Rattle.laws.specs.ReaderLaws.{ends_end, ends_next}
use Rattle.laws.specs.FieldTests.{unless_iff, allowed_prime_iff, one_to_iff, coefficient_iff, coefficient_most}

-- The most bytes of a record `FC`: every size as large as it may be; …
unfoldable pub longest_FC : ℕ
longest_FC = column_bytes most_rows most_order

-- … of a problem: `PR`, `OR`, `SH` and the records `FC`; …
unfoldable pub longest_problem : ℕ
longest_problem = head_bytes most_rows most_rows + most_rows * longest_FC

-- … of a record `PE`; …
unfoldable pub longest_PE : ℕ
longest_PE = entry_bytes most_length

-- … of an answer that ends after the last `PE`; …
unfoldable pub longest_basis : ℕ
longest_basis = most_rows * most_rows * longest_PE

-- … and of an answer: the records `PE`, and `CE`.
unfoldable pub longest_answer : ℕ
longest_answer = longest_basis + evidence_bytes most_rows most_rows

-- A field with one code.
sound_unless : (k code : ℕ) (holds : ℕ → Bool) → 1 ≤ code → code ≤ 8 → Sound k 0 (λ v. T (holds v)) (field k (unless code holds))
sound_unless k code holds least most =
    sound_weaken (le_refl k) (le_refl 0) (λ v h. (unless_iff code (holds v) least).0 h)
    (sound_field k (unless code holds) (λ v. cond_cases (holds v) 0 code (λ c. c ≤ 8) (λ t. omega arith) (λ t. most)))

-- A mark.
sound_mark : (a : ℕ) → Sound 2 0 (λ v. T (eqb v a)) (mark a)
sound_mark a = sound_unless 2 2 (λ v. eqb v a) (omega arith) (omega arith)

-- A number of rows or of columns, or an order, …
pub sound_size : (most : ℕ) → Sound 1 0 (λ v. (1 ≤ v) × (v ≤ most)) (field 1 (unless 3 (one_to most)))
sound_size most =
    sound_weaken (le_refl 1) (le_refl 0) (λ v. (one_to_iff most v).0) (sound_unless 1 3 (one_to most) (omega arith) (omega arith))

-- … the number of a row or column, …
pub sound_due : (i : ℕ) → Sound 1 0 (λ v. T (eqb v i)) (field 1 (due i))
sound_due i = sound_unless 1 5 (λ v. eqb v i) (omega arith) (omega arith)

-- … a shift, …
pub sound_shift : Sound 2 0 (λ z. nat_abs z ≤ most_shift) shift_reader
sound_shift = sound_next (sound_unless 2 3 shift_in_size (omega arith) (omega arith)) (λ v h. sound_give (two's_complement v) (leb→le _ _ h))

-- … and a coefficient or a number of `CE`.
pub sound_residue : (p : ℕ) → Sound 4 0 (λ v. v < p) (field 4 (residue p))
sound_residue p = sound_weaken (le_refl 4) (le_refl 0) (λ v h. ltb→lt v p h) (sound_unless 4 6 (λ v. ltb v p) (omega arith) (omega arith))

-- A row of n of them, …
abbrev pub Row : (p n : ℕ) → List ℕ → Type 0
Row p n = Listed n 0 (λ j c. c < p)

pub sound_row : (p n : ℕ) → Sound (n * 4) 0 (Row p n) (each n (λ j. field 4 (residue p)))
sound_row p n = sound_weaken (le_refl _) (omega arith) (λ l h. h) (sound_each 0 n (λ j. field 4 (residue p)) (λ j. sound_residue p))

-- … and m rows.
abbrev pub Rows : (p m n : ℕ) → List (List ℕ) → Type 0
Rows p m n = Listed m [] (λ i. Row p n)

sound_rows : (p m n : ℕ) → Sound (m * (n * 4)) (m * 0) (Rows p m n) (each m (λ i. each n (λ j. field 4 (residue p))))
sound_rows p m n = sound_each [] m (λ i. each n (λ j. field 4 (residue p))) (λ i. sound_row p n)

-- What the record `PR` gives.
pub record InSize (t : ℕ × ℕ × ℕ) : Type 0 where
  pub prime : Prime t.0
  pub prime_size : t.0 ≤ largest_prime
  pub rows_least : 1 ≤ t.1
  pub rows_most : t.1 ≤ most_rows
  pub columns_least : 1 ≤ t.2
  pub columns_most : t.2 ≤ most_rows

-- The record `PR`, …
pub sound_PR : Sound 8 1 InSize PR
unfolding PR
sound_PR = sound_weaken (omega arith) (omega arith) (λ t h. h) (sound_inside (
    sound_next (sound_mark PR_mark) (λ v hv.
    sound_next (sound_unless 4 4 allowed_prime (omega arith) (omega arith)) (λ p hp.
    sound_next (sound_size most_rows) (λ m hm.
    sound_next (sound_size most_rows) (λ n hn.
    sound_give {Q = InSize} (p, m, n) (
    let (prime, size) = (allowed_prime_iff p).0 hp in
    record {
      prime = prime;
      prime_size = size;
      rows_least = hm.0;
      rows_most = hm.1;
      columns_least = hn.0;
      columns_most = hn.1;
    })))))))

-- … `OR`, …
pub sound_OR : (n : ℕ) → Sound (2 + n) 1 (Listed n 0 (λ j d. (1 ≤ d) × (d ≤ most_order))) (OR n)
unfolding OR
sound_OR n = sound_weaken (omega arith) (omega arith) (λ l h. h) (sound_inside (
    sound_next (sound_mark OR_mark) (λ v hv.
    sound_each 0 n (λ j. field 1 (unless 3 (one_to most_order))) (λ j. sound_size most_order))))

-- … `SH` …
pub sound_SH : (m : ℕ) → Sound (2 + 2 * m) 1 (Listed m (pos 0) (λ i z. nat_abs z ≤ most_shift)) (SH m)
unfolding SH
sound_SH m = sound_weaken (omega arith) (omega arith) (λ l h. h) (sound_inside (
    sound_next (sound_mark SH_mark) (λ v hv.
    sound_each (pos 0) m (λ i. shift_reader) (λ i. sound_shift))))

-- … and `FC`.
pub sound_FC : (p m d j : ℕ) → m ≤ most_rows → d ≤ most_order → Sound longest_FC 1 (Rows p m d) (FC p m d j)
unfolding FC longest_FC most_rows most_order
sound_FC p m d j hm hd = sound_weaken (omega (arith, mul-le-mul hm hd)) (omega arith) (λ l h. h) (sound_inside (
    sound_next (sound_mark FC_mark) (λ v hv.
    sound_next (sound_due j) (λ w hw.
    sound_rows p m d))))

-- Where the default is in Q and the members are, so is everything that is looked up.
pub listed_all : {A : Type 0} {n : ℕ} {d : A} {R : ℕ → A → Type 0} (l : List A) (Q : A → Type 0) → Q d → ((i : ℕ) (a : A) → R i a → Q a) → Listed n d R l
    → (i : ℕ) → Q (get_or l i d)
listed_all {A} {n} {d} l Q v f h i =
    by_cases (dec_le (suc i) n) (λ b. f i _ (h.member i b)) (λ ge. subst Q (sym (get_or-eq_default l d (omega (arith, h.size)))) v)

-- The numbers of a list of lists.
rows_below : (p m n : ℕ) (C : List (List ℕ)) → 0 < p → Rows p m n C → (i j : ℕ) → get_or (get_or C i []) j 0 < p
rows_below p m n C lo h = listed_all C (λ row. (j : ℕ) → get_or row j 0 < p) (λ j. lo) (λ i row r. listed_all row (λ c. c < p) lo (λ j c b. b) r) h

-- A problem is read over at most so many bytes, and is valid.
pub sound_problem : Sound longest_problem (3 + most_rows) ValidProblem problem_reader
unfolding problem_reader longest_problem
sound_problem = sound_weaken (omega arith) (omega arith) (λ l h. h) (
    sound_next {l = 2 + most_rows + (2 + 2 * most_rows) + most_rows * longest_FC} {d = 2 + most_rows} sound_PR (λ t sizes.
    sound_weaken (omega (arith, sizes.rows_most, sizes.columns_most, mul-le-mul_right longest_FC sizes.columns_most))
    (omega (arith, sizes.columns_most)) (λ l h. h) (
    sound_next (sound_OR t.2) (λ orders ho.
    sound_next (sound_SH t.1) (λ shifts hs.
    sound_next (sound_each [] t.2 (λ j. FC t.0 t.1 (get_or orders j 0) j)
    (λ j. sound_FC t.0 t.1 (get_or orders j 0) j sizes.rows_most (orders_most t.2 orders ho j))) (λ F hF.
    sound_end {Q = ValidProblem} (record { p = t.0; m = t.1; n = t.2; orders = orders; shifts = shifts; F = F }) (record {
      prime = sizes.prime;
      prime_size = sizes.prime_size;
      rows_least = sizes.rows_least;
      rows_most = sizes.rows_most;
      columns_least = sizes.columns_least;
      columns_most = sizes.columns_most;
      orders_length = ho.size;
      order_least = λ j h. (ho.member j h).0;
      order_most = orders_most t.2 orders ho;
      shifts_length = hs.size;
      shift_most = listed_all shifts (λ z. nat_abs z ≤ most_shift) zero-le (λ i z b. b) hs;
      F_length = hF.size;
      F_column_length = λ j h. (hF.member j h).size;
      F_entry_length = λ i j hi hj. ((hF.member j hj).member i hi).size;
      F_range =
          λ i j. listed_all F (λ column. (i k : ℕ) → get_or (get_or column i []) k 0 < t.0) (λ i k. le_of_lt sizes.prime.two_le)
          (λ j column h. rows_below t.0 t.1 (get_or orders j 0) column (le_of_lt sizes.prime.two_le) h) hF j i;
    })))))))
  where
    orders_most : (n : ℕ) (orders : List ℕ) → Listed n 0 (λ j d. (1 ≤ d) × (d ≤ most_order)) orders → (j : ℕ) → get_or orders j 0 ≤ most_order
    orders_most n orders h = listed_all orders (λ d. d ≤ most_order) zero-le (λ j d b. b.1) h

-- What the record `PE` gives.
pub record Entry (p : ℕ) (l : List ℕ) : Type 0 where
  pub size : length l ≤ most_length
  pub range : (k : ℕ) → k < length l → get_or l k 0 < p
  pub last : 0 < length l → get_or l (pred (length l)) 0 ≢ 0

-- The count of an entry's coefficients, …
pub sound_count : Sound 1 0 (λ L. L ≤ most_length) (field 1 (unless 3 (λ L. leb L most_length)))
sound_count =
    sound_weaken (le_refl 1) (le_refl 0) (λ L h. leb→le L most_length h) (sound_unless 1 3 (λ L. leb L most_length) (omega arith) (omega arith))

-- … and each of them.
pub sound_coefficient : (p L k : ℕ) → Sound 4 0 (λ v. (v < p) × (suc k ≡ L → v ≢ 0)) (field 4 (coefficient_test p L k))
sound_coefficient p L k =
    sound_weaken (le_refl 4) (le_refl 0) (λ v. (coefficient_iff p L k v).0) (sound_field 4 (coefficient_test p L k) (coefficient_most p L k))

-- The record `PE`, …
pub sound_PE : (p i j : ℕ) → Sound longest_PE 1 (Entry p) (PE p i j)
unfolding PE longest_PE
sound_PE p i j = sound_weaken (omega arith) (omega arith) (λ l h. h) (sound_inside (
    sound_next (sound_mark PE_mark) (λ v hv.
    sound_next (sound_due i) (λ w hw.
    sound_next (sound_due j) (λ x hx.
    sound_next {l = 4 * most_length} {d = 0} sound_count (λ L hL.
    sound_weaken (omega (arith, hL)) (omega arith) (λ l h. record {
      size = omega (arith, h.size, hL);
      range = λ k b. (h.member k (omega (arith, h.size))).0;
      last = λ some. (h.member (pred (length l)) (omega (arith, h.size))).1 (omega (arith, h.size));
    }) (
    sound_each 0 L (λ k. field 4 (coefficient_test p L k)) (sound_coefficient p L))))))))

-- … m rows of m of them, …
abbrev pub Entries : (p m : ℕ) → List (List (List ℕ)) → Type 0
Entries p m = Listed m [] (λ i. Listed m [] (λ j. Entry p))

pub sound_entries : (p m : ℕ) → m ≤ most_rows → Sound longest_basis (most_rows * most_rows) (Entries p m) (entries_reader p m)
unfolding entries_reader longest_basis
sound_entries p m hm =
    sound_weaken (omega (arith, mul-le-mul_right longest_PE (mul-le-mul hm hm))) (omega (arith, mul-le-mul hm hm)) (λ P h. h)
    (sound_each [] m (λ i. each m (λ j. PE p i j)) (λ i. sound_each [] m (λ j. PE p i j) (sound_PE p i)))

-- … and `CE`.
sound_CE : (p m n : ℕ) → m ≤ most_rows → n ≤ most_rows → Sound (evidence_bytes most_rows most_rows) 1 (Rows p m n) (CE p m n)
unfolding CE
sound_CE p m n hm hn = sound_weaken (omega (arith, mul-le-mul hm hn)) (omega arith) (λ l h. h) (sound_inside (
    sound_next (sound_mark CE_mark) (λ v hv.
    sound_rows p m n)))

module _ (b : Problem) (rows : b.m ≤ most_rows) where
  -- An answer that ends after the last `PE` is read over at most so many bytes, whatever the problem's prime, …
  pub sound_basis_sized : Sound longest_basis (most_rows * most_rows) (Entries b.p b.m) (basis_reader b)
  unfolding basis_reader
  sound_basis_sized = sound_weaken (omega arith) (omega arith) (λ P h. h) (
      sound_next (sound_entries b.p b.m rows) (λ P h.
      sound_end {Q = Entries b.p b.m} P h))

  -- … and so is an answer.
  pub sound_answer_sized : b.n ≤ most_rows
      → Sound longest_answer (most_rows * most_rows + 1) (λ a. Entries b.p b.m a.P × Rows b.p b.m b.n a.C) (answer_reader b)
  unfolding answer_reader longest_answer
  sound_answer_sized columns = sound_weaken (omega arith) (omega arith) (λ a h. h) (
      sound_next (sound_entries b.p b.m rows) (λ P h.
      sound_next (sound_CE b.p b.m b.n rows columns) (λ C hC.
      sound_end (record { P = P; C = C }) (h, hC))))

module _ (b : Problem) (valid : ValidProblem b) where
  positive : 0 < b.p
  positive = le_of_lt valid.prime.two_le

  -- What holds of the zero entry and of every entry read holds of every entry of P.
  entry_of : (P : List (List (List ℕ))) → Entries b.p b.m P → (Q : List ℕ → Type 0) → Q [] → ((l : List ℕ) → Entry b.p l → Q l) → (i j : ℕ) → Q
      (at P i j)
  entry_of P h Q v f = listed_all P (λ row. (j : ℕ) → Q (get_or row j [])) (λ j. v) (λ i row r. listed_all row Q v (λ j. f) r) h

  entry_below : (l : List ℕ) → Entry b.p l → (k : ℕ) → get_or l k 0 < b.p
  entry_below l e k =
      by_cases (dec_le (suc k) (length l)) (e.range k) (λ ge. subst (λ c. c < b.p) (sym (get_or-eq_default l 0 (omega arith))) positive)

  basis_valid : (P : List (List (List ℕ))) → Entries b.p b.m P → ValidBasis b P
  basis_valid P h = record {
    P_length = h.size;
    P_row_length = λ i hi. (h.member i hi).size;
    P_entry_length = entry_of P h (λ l. length l ≤ most_length) zero-le (λ l e. e.size);
    P_range = entry_of P h (λ l. (k : ℕ) → get_or l k 0 < b.p) (λ k. positive) entry_below;
    P_last = entry_of P h (λ l. 0 < length l → get_or l (pred (length l)) 0 ≢ 0) (λ some. absurd (not-suc-le-zero some)) (λ l e. e.last);
  }

  -- A basis is read over at most so many bytes, and is valid.
  pub sound_basis : Sound longest_basis (most_rows * most_rows) (ValidBasis b) (basis_reader b)
  sound_basis = sound_weaken (le_refl _) (le_refl _) basis_valid (sound_basis_sized b valid.rows_most)

  -- An answer is read over at most so many bytes, and is valid.
  pub sound_answer : Sound longest_answer (most_rows * most_rows + 1) (ValidAnswer b) (answer_reader b)
  sound_answer = sound_weaken (le_refl _) (le_refl _) (λ a (h, hC). record {
    basis = basis_valid a.P h;
    C_length = hC.size;
    C_row_length = λ i b. (hC.member i b).size;
    C_range = rows_below b.p b.m b.n a.C positive hC;
  }) (sound_answer_sized b valid.rows_most valid.columns_most)

-- A problem is read to the file's end, …
pub problem_ends : Ends problem_reader
unfolding problem_reader
problem_ends = ends_next _ (λ t. ends_next _ (λ orders. ends_next _ (λ shifts. ends_next _ (λ F. ends_end _))))

-- … so is a basis, …
pub basis_ends : (b : Problem) → Ends (basis_reader b)
unfolding basis_reader
basis_ends b = ends_next _ (λ P. ends_end P)

-- … and so is an answer.
pub answer_ends : (b : Problem) → Ends (answer_reader b)
unfolding answer_reader
answer_ends b = ends_next _ (λ P. ends_next _ (λ C. ends_end _))
