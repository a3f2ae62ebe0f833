-- The rules, run on closed files: each definition here opens all that it takes to compute it, so that a case is judged by `refl`.
--   run_verdict, run_line, run_place, run_part, run_evidence     the four numbers, the line, the part pointed at and its bytes, the
--                                                                evidence made
use Rattle.std.specs.Prelude.{List, ℕ}
use Rattle.algebra.specs.Ring.{sign}
use Rattle.algebra.specs.Sum.{sum, skip}
use Rattle.algebra.specs.Residue.{red}
use Rattle.algebra.specs.Series.{convolve, constant}
use Rattle.algebra.specs.Matrix.{cons, beside, vmul, mmul}
use Rattle.algebra.specs.Det.{det}
use Rattle.algebra.specs.Degree.{coefficient}
use Rattle.rules.specs.Sizes.{largest_prime, most_rows, most_order, most_shift, most_length}
use Rattle.rules.specs.Reader.{next, number_at, field, each, end}
use Rattle.rules.specs.Files.{no_divisor, is_prime, two's_complement, PR, OR, SH, FC, problem_reader, coefficient_test, PE, CE, entries_reader}
use Rattle.rules.specs.Files.{answer_reader, basis_reader, read_problem, read_both}
use Rattle.rules.specs.Writer.{bytes, write_each, unsigned, write_PR, write_OR, write_SH, write_FC, write_PE, write_CE, write_basis}
use Rattle.rules.specs.Matrices.{product}
use Rattle.rules.specs.Conditions.{some_below, degree_of, shifted_degree_of, largest, row_degree_of, reduced, sum_below, max_below, determinant_bound, count_nonzero}
use Rattle.rules.specs.Conditions.{monomial_determinant, total, degree_sum_of, low_fault, order_fault, first_below, first_place, some_constants, combined_to_zero}
use Rattle.rules.specs.Conditions.{rank_below}
use Rattle.rules.specs.Writer.{write_problem, write_answer}
use Rattle.rules.specs.Verdict.{Numbers, numbers, verdict, judge_claim, by_product, by_rank}
use Rattle.rules.specs.Table.{table}
use Rattle.rules.specs.Reply.{reply_numbers}
use Rattle.rules.specs.Evidence.{evidence_of, make_evidence}
use Rattle.rules.specs.Part.{Part, rest_of_file, column_size, column_start, claim_part, pointed_at, part_bytes}
use Rattle.rules.specs.Print.{digits_within, line_of}

-- The four numbers of the verdict on two files.
unfoldable pub run_verdict : List ℕ → List ℕ → Numbers
unfolding sign sum skip red convolve constant cons beside vmul mmul det coefficient largest_prime most_rows most_order most_shift
    most_length next number_at field each end no_divisor is_prime two's_complement PR OR SH FC problem_reader coefficient_test PE CE
    entries_reader answer_reader basis_reader read_problem read_both bytes write_each unsigned write_PR write_OR write_SH write_FC
    write_PE write_CE write_basis product some_below degree_of shifted_degree_of largest row_degree_of total reduced sum_below max_below determinant_bound count_nonzero
    monomial_determinant degree_sum_of low_fault order_fault first_below first_place some_constants combined_to_zero rank_below write_problem
    write_answer numbers verdict judge_claim by_product by_rank
run_verdict s t = numbers (verdict s t)

-- The line that is printed for it.
unfoldable pub run_line : List ℕ → List ℕ → List ℕ
unfolding run_verdict line_of digits_within
run_line s t = line_of (run_verdict s t)

-- The part that it points at, …
unfoldable pub run_place : List ℕ → List ℕ → Part
unfolding run_verdict rest_of_file column_size column_start claim_part pointed_at
run_place s t = pointed_at s t

-- … and its bytes.
unfoldable pub run_part : List ℕ → List ℕ → List ℕ
unfolding run_place part_bytes
run_part s t = part_bytes s t (run_place s t)

-- The four numbers that evidence-making answers, and the buffer afterwards.
unfoldable pub run_evidence : List ℕ → List ℕ → List ℕ → Numbers × List ℕ
unfolding run_verdict table evidence_of make_evidence reply_numbers
run_evidence s t lent = (reply_numbers (make_evidence s t lent).answer, (make_evidence s t lent).buffer)
