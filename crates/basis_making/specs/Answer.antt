-- The answer that is made, from the arrays of P.
--   most_answer, square_fits, basis_short            the bytes of the longest, and of the records of P
--   lengths_short, basis_sound         what the code asks of the arrays of P
--   rows_are, basis_are      P is what they stand for
--   answer_put               the records of P and the evidence of the cut problem are the answer
use Rattle.std.specs.Prelude.{◌≡◌, List, [], ℕ, ◌+◌, ◌*◌, ◌/◌, ◌%◌, ◌≤◌, ◌<◌, length, get_or}
use Rattle.std.proofs.Math.Path.{sym}
use Rattle.std.proofs.Common.{subst, ◌∙◌, lt_of_lt_of_le, mul-le-mul, mul-le-mul_right, arith}
use Rattle.std.proofs.Math.Logic.{by_cases}
use Rattle.std.proofs.Math.Decide.{dec_lt}
use Rattle.std.proofs.Math.ListN.{get_or-eq_default}
use Rattle.rules.specs.Sizes.{most_rows, most_order, most_length}
use Rattle.rules.specs.RecordBytes.{evidence_bytes}
use Rattle.rules.specs.Claim.{Problem}
use Rattle.rules.specs.Matrices.{at}
use Rattle.rules.specs.Evidence.{evidence_of}
use Rattle.rules.specs.Writer.{write_each, write_PE, write_basis, write_CE, write_answer}
use Rattle.rules.specs.Maker.{basis_after, cut_problem, answer_after}
use Rattle.rules.specs.Table.{table, table_ext}
use Rattle.laws.specs.Valid.{ValidProblem, ValidBasis}
use Rattle.laws.specs.MakerLaws.{after_valid}
use Rattle.writer.specs.Appended.{Appended, appended_both}
use Rattle.layout.specs.Flat.{square, square_place, length_at, cell, cell_at, cell_past}
use Rattle.layout.specs.Holds.{Short}
use Rattle.claim.specs.declared.Problem.{Problem as ProblemArrays}
use Rattle.claim.specs.declared.Basis.{Basis}
use Rattle.claim.specs.Claims.{problem_in, basis_of, basis_in}
use Rattle.claim.specs.Sound.{SoundProblem, SoundBasis}
use Rattle.stepping.specs.Next.{coefficient_at}
use Rattle.iteration.specs.Made.{BasisAfter}
use Rattle.basis_making.specs.Text.{entry_room, entry, row, rows, entry_short, write_short}
use Rattle.basis_making.specs.Cut.{cut_head, cut_arrays, cut_means}

-- The bytes of the longest answer.
abbrev pub most_answer : ℕ
most_answer = most_rows * (most_rows * entry_room) + evidence_bytes most_rows most_rows

-- P has no more rows and columns than there is room for.
pub square_fits : (m room : ℕ) → m ≤ most_rows → m * (m * room) ≤ most_rows * (most_rows * room)
square_fits m room h = mul-le-mul h (mul-le-mul_right room h)

-- The records of P are no longer than that.
pub basis_short : (P : Basis) → Short P.lengths → (m : ℕ) → length (write_basis (rows P m)) ≤ m * (m * entry_room)
unfolding write_basis
basis_short P short m =
    write_short (λ i. write_each (write_PE i) 0) (row P m) (m * entry_room)
    (λ i. write_short (write_PE i) (entry P i) entry_room (entry_short P short i) m) m

-- The place of a number in a square.
place_of : (k : ℕ) → square_place (k / most_rows) (k % most_rows) ≡ k
unfolding square_place most_rows
place_of k = omega arith

row_inside : (k : ℕ) → k < square → k / most_rows < most_rows
unfolding most_rows
row_inside k h = omega arith

column_inside : (k : ℕ) → k % most_rows < most_rows
unfolding most_rows
column_inside k = omega arith

module _ (x : ProblemArrays) (valid : ValidProblem (problem_in x)) (done : ℕ) (small : done ≤ most_order) (P : Basis)
    (h : BasisAfter (problem_in x) done P.lengths P.entries) where
  abbrev b : Problem
  b = problem_in x

  basis : ValidBasis b (basis_after b done)
  basis = after_valid b valid done small

  -- No entry is too long.
  pub lengths_short : Short P.lengths
  lengths_short k = by_cases (dec_lt k square)
      (λ hk.
      subst (λ k'. get_or P.lengths k' 0 ≤ most_length) (place_of k)
      (subst (λ n. n ≤ most_length) (sym (h.lengths_are (k / most_rows) (k % most_rows) (row_inside k hk) (column_inside k)))
      (basis.P_entry_length (k / most_rows) (k % most_rows))))
      (λ nk. subst (λ n. n ≤ most_length) (sym (get_or-eq_default P.lengths 0 (subst (λ n. n ≤ k) (sym h.lengths_full) (omega arith)))) (omega arith))

  -- The arrays are as the code asks.
  pub basis_sound : SoundBasis (cut_head x.head done) P.lengths P.entries
  basis_sound = record {
    P_below = h.kept.below;
    P_padded = record {
      length_most = lengths_short;
      past_length = λ i j k hi hj past. by_cases (dec_lt k most_length)
          (λ hk.
          cell_at P.entries i j k hk
          ∙ h.hold i j k hi hj hk
          ∙ get_or-eq_default (at (basis_after b done) i j) 0 (subst (λ n. n ≤ k) (h.lengths_are i j hi hj) past))
          (λ nk. cell_past P.entries i j k (omega arith));
    };
  }

  -- P as lists, by any way to look up its coefficients.
  listed : (g : ℕ → ℕ → ℕ → ℕ)
      → ((i j t : ℕ) → i < x.head.m → j < x.head.m → t < length_at P.lengths i j → get_or (at (basis_after b done) i j) t 0 ≡ g i j t)
      → basis_after b done ≡ table x.head.m (λ i. table x.head.m (λ j. table (length_at P.lengths i j) (g i j)))
  listed g same =
      table_ext x.head.m (λ i. table x.head.m (λ j. table (length_at P.lengths i j) (g i j))) [] (basis_after b done) basis.P_length
      (λ i hi. table_ext x.head.m (λ j. table (length_at P.lengths i j) (g i j)) [] (get_or (basis_after b done) i []) (basis.P_row_length i hi)
      (λ j hj. table_ext (length_at P.lengths i j) (g i j) 0 (at (basis_after b done) i j)
      (sym (h.lengths_are i j (lt_of_lt_of_le hi valid.rows_most) (lt_of_lt_of_le hj valid.rows_most))) (λ t ht. same i j t hi hj ht)))

  looked_up : (i j t : ℕ) → i < x.head.m → j < x.head.m → t < length_at P.lengths i j → get_or (at (basis_after b done) i j) t 0 ≡ coefficient_at P.entries i j t
  looked_up i j t hi hj ht =
      sym (h.hold i j t (lt_of_lt_of_le hi valid.rows_most) (lt_of_lt_of_le hj valid.rows_most) (lt_of_lt_of_le ht (lengths_short (square_place i j))))

  rows_are : rows P x.head.m ≡ basis_after b done
  rows_are = sym (listed (λ i j t. coefficient_at P.entries i j t) looked_up)

  basis_are : basis_in x.head.m P ≡ basis_after b done
  unfolding basis_of
  basis_are = sym (listed (cell P.entries) (λ i j t hi hj ht. looked_up i j t hi hj ht ∙ sym (cell_at P.entries i j t (lt_of_lt_of_le ht (lengths_short (square_place i j))))))

  -- The records of P, and behind them the evidence, are the answer.
  pub answer_put : SoundProblem x → (l₀ l₁ l₂ : List ℕ) (e₁ e₂ : ℕ) → Appended l₀ l₁ 0 e₁ (write_basis (rows P x.head.m))
      → Appended l₁ l₂ e₁ e₂ (write_CE (evidence_of (problem_in (cut_arrays x done)) (basis_in x.head.m P)))
      → Appended l₀ l₂ 0 e₂ (write_answer (answer_after b done))
  unfolding write_answer answer_after
  answer_put sound l₀ l₁ l₂ e₁ e₂ z y =
      appended_both l₀ l₁ l₂ 0 e₁ e₂ (write_basis (basis_after b done)) (write_CE (evidence_of (cut_problem b done) (basis_after b done)))
      (subst (λ Q. Appended l₀ l₁ 0 e₁ (write_basis Q)) rows_are z)
      (subst (λ Q. Appended l₁ l₂ e₁ e₂ (write_CE (evidence_of (cut_problem b done) Q))) basis_are
      (subst (λ c. Appended l₁ l₂ e₁ e₂ (write_CE (evidence_of c (basis_in x.head.m P)))) (cut_means x done sound) y))
