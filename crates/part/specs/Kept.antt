-- Steps of the parts that no proof cites now; they stand because they were stated.
--   read_rows .. read_ordered        what the code's problem holds where the file is read
--   column_found                     the `FC` record of any column, by the numbers of the code's problem
--   column_rows .. column_ordered    the same of a problem that has the column
--   evidence_rows, evidence_few      the same where the code is 12
--   within_first .. within_most      which file, and that its bytes can be counted
--   part_in_problem, part_in_answer  bytes cut out of a file are the part
use Rattle.std.specs.Prelude.{◌≡◌, ◌≢◌, Bool, true, false, List, eqb, length, drop, Ok}
use Rattle.std.proofs.Math.Path.{refl, sym, ap, ap₂, subst}
use Rattle.std.proofs.Common.{◌∙◌, arith, eq-eqb, ne_eqb}
use Rattle.std.proofs.Math.Bool.{cond}
use Prim.Native.Nat.{ℕ, ◌+◌, ◌-◌, ◌*◌, ◌≤◌, ◌<◌}
use Rattle.std.proofs.Math.ListN.{get_or, take}
use Rattle.std.specs.Borrow.{Bor}
use Rattle.rules.specs.Sizes.{most_rows}
use Rattle.rules.specs.RecordBytes.{head_bytes, column_bytes}
use Rattle.rules.specs.Claim.{Problem}
use Rattle.rules.specs.Reader.{Place, got}
use Rattle.rules.specs.Files.{read_problem}
use Rattle.rules.specs.Matrices.{order}
use Rattle.rules.specs.Conditions.{sum_below}
use Rattle.rules.specs.Verdict.{numbers, verdict}
use Rattle.rules.specs.Part.{Part, column_size, column_start, part_bytes}
use Rattle.laws.specs.Ranges.{problem_valid, claim_got}
use Rattle.laws.specs.SumLaws.{sum_below_cong}
use Rattle.laws.specs.WriterLaws.{rectangle_most}
use Rattle.layout.specs.Holds.{Ordered}
use Rattle.storing.specs.Arrays.{list_at}
use Rattle.claim.specs.declared.Problem.{Problem as ProblemStruct}
use Rattle.problem_file.specs.Values.{problem_value, problem_arrays}
use Rattle.part.specs.Parts.{PartIn, HasColumn}
use Rattle.part.specs.Steps.{same_part, read_of_code}

module _ (s : List ℕ) (x : ProblemStruct) (h : (Ok tt, x) ≡ problem_value (read_problem s)) {b : Problem} {q : Place} (e : read_problem s ≡ got b q) where
  as_read : x ≡ problem_arrays b
  unfolding problem_value
  as_read = ap (λ z. z.1) (h ∙ ap problem_value e)

  pub read_rows : x.head.m ≡ b.m
  read_rows = ap (λ (y : ProblemStruct). y.head.m) as_read

  pub read_columns : x.head.n ≡ b.n
  read_columns = ap (λ (y : ProblemStruct). y.head.n) as_read

  pub read_order : (k : ℕ) → get_or x.head.orders k 0 ≡ order b k
  read_order k =
      let valid = problem_valid s e in
      ap (λ (y : ProblemStruct). get_or y.head.orders k 0) as_read ∙ list_at most_rows b.orders (omega (arith, valid.orders_length, valid.columns_most)) k

  pub read_ordered : Ordered x.head.orders
  read_ordered k = omega (arith, read_order k, (problem_valid s e).order_most k)

  pub column_found : (j start size : ℕ)
      → start ≡ head_bytes x.head.m x.head.n + sum_below j (λ k. column_bytes x.head.m (get_or x.head.orders k 0))
      → size ≡ column_bytes x.head.m (get_or x.head.orders j 0)
      → ◌≡◌ {A = Part} (record { file = 0; start = start; size = size }) (record { file = 0; start = column_start b j; size = column_size b j })
  unfolding column_start column_size
  column_found j start size hs hk =
      let each : (k : ℕ) → column_bytes x.head.m (get_or x.head.orders k 0) ≡ column_size b k = λ k. ap₂ column_bytes read_rows (read_order k) in
      same_part refl
      (hs ∙ ap₂ ◌+◌ (ap₂ head_bytes read_rows read_columns) (sum_below_cong j _ _ (λ k below. each k)))
      (hk ∙ each j)

  rows_are_small : x.head.m ≤ most_rows
  rows_are_small = omega (arith, read_rows, (problem_valid s e).rows_most)

  columns_are_small : x.head.n ≤ most_rows
  columns_are_small = omega (arith, read_columns, (problem_valid s e).columns_most)

module _ (s : List ℕ) (x : ProblemStruct) (h : (Ok tt, x) ≡ problem_value (read_problem s)) (j : ℕ) (has : HasColumn s j) where
  pub column_rows : x.head.m ≤ most_rows
  column_rows = rows_are_small s x h has.2

  pub column_columns : x.head.n ≤ most_rows
  column_columns = columns_are_small s x h has.2

  pub column_ordered : Ordered x.head.orders
  column_ordered = read_ordered s x h has.2

module _ (s t : List ℕ) (x : ProblemStruct) (h : (Ok tt, x) ≡ problem_value (read_problem s)) (code : (numbers (verdict s t)).code ≡ 12) where
  pub evidence_rows : x.head.m ≤ most_rows
  evidence_rows =
      let (c, q, e) = read_of_code s t (omega (arith, code)) in
      let (p, ep, ea) = claim_got s t c q e in
      rows_are_small s x h ep

  pub evidence_few : 4 * x.head.m * x.head.n ≤ 4 * most_rows * most_rows
  evidence_few =
      let (c, q, e) = read_of_code s t (omega (arith, code)) in
      let (p, ep, ea) = claim_got s t c q e in
      rectangle_most (rows_are_small s x h ep) (columns_are_small s x h ep)

module _ {file : ℕ} {A : Type 0} (a b : A) where
  first_file : file ≡ 0 → cond (eqb file 0) a b ≡ a
  first_file e = ap (λ (x : Bool). cond x a b) (eq-eqb file 0 e)

  second_file : file ≢ 0 → cond (eqb file 0) a b ≡ b
  second_file e = ap (λ (x : Bool). cond x a b) (ne_eqb file 0 e)

module _ (a b : ℕ) {file k : ℕ} where
  pub within_first : file ≡ 0 → k ≤ cond (eqb file 0) a b → k ≤ a
  within_first e h = subst (λ (n : ℕ). k ≤ n) (first_file a b e) h

  pub within_second : file ≢ 0 → k ≤ cond (eqb file 0) a b → k ≤ b
  within_second e h = subst (λ (n : ℕ). k ≤ n) (second_file a b e) h

  pub end_first : file ≡ 0 → k ≡ a → k ≡ cond (eqb file 0) a b
  end_first e h = h ∙ sym (first_file a b e)

  pub end_second : file ≢ 0 → k ≡ b → k ≡ cond (eqb file 0) a b
  end_second e h = h ∙ sym (second_file a b e)

-- What ends within one of two files is as small as both.
pub within_most : (x : Bool) {k a b n : ℕ} → k ≤ cond x a b → a < n → b < n → k < n
within_most true h ha hb = omega arith
within_most false h ha hb = omega arith

module _ (s t r : Bor (List ℕ)) (file start size : ℕ) where
  count : start + size - start ≡ size
  count = omega arith

  pub part_in_problem : file ≡ 0 → r.now ≡ take (start + size - start) (drop start s.now) → r.ref_ptr ≡ (s.ref_ptr.0, start + s.ref_ptr.1)
      → PartIn s t r (record { file = file; start = start; size = size })
  unfolding part_bytes
  part_in_problem e bytes place =
      record {
        bytes = bytes ∙ ap (λ (n : ℕ). take n (drop start s.now)) count ∙ sym (ap (λ (x : Bool). take size (drop start (cond x s.now t.now))) (eq-eqb file 0 e));
        where_it_is = place ∙ sym (ap (λ (x : Bool). ((cond x s t).ref_ptr.0, start + (cond x s t).ref_ptr.1)) (eq-eqb file 0 e));
      }

  pub part_in_answer : file ≢ 0 → r.now ≡ take (start + size - start) (drop start t.now) → r.ref_ptr ≡ (t.ref_ptr.0, start + t.ref_ptr.1)
      → PartIn s t r (record { file = file; start = start; size = size })
  unfolding part_bytes
  part_in_answer e bytes place =
      record {
        bytes = bytes ∙ ap (λ (n : ℕ). take n (drop start t.now)) count ∙ sym (ap (λ (x : Bool). take size (drop start (cond x s.now t.now))) (ne_eqb file 0 e));
        where_it_is = place ∙ sym (ap (λ (x : Bool). ((cond x s t).ref_ptr.0, start + (cond x s t).ref_ptr.1)) (ne_eqb file 0 e));
      }
