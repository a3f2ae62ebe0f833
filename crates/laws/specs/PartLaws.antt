-- The part that a verdict points at: which bytes it has, and that it lies within its file.
--   length_write_problem, length_write_answer      how long the files are, by their records
--   pointed_refused, pointed_claim     the part for files that are not read, and for a claim
--   part_below_order         code 11: the `FC` record of the column
--   part_at_order            code 12: the `CE` record
--   front_of_answer, pointed_front, part_front     codes 0, 9, 10 and 13: the empty part at the front of the answer
--   refused_start, part_refused        codes 1 to 8: from the record named to the file's end
--   pointed_file, pointed_within       every part is one of the problem or of the answer
use Rattle.std.specs.Prelude.{◌≡◌, ◌≢◌, Bool, true, false, cond, eqb, get_or}
use Rattle.std.proofs.Math.Path.{refl, sym, ap, ap₂, subst}
use Rattle.std.proofs.Common.{◌∙◌, le_trans, drop_at}
use mathlib.Core.List.{List, [], ◌++◌}
use Prim.Native.Nat.{ℕ, suc, ◌+◌, ◌-◌, ◌≤◌, ◌<◌, zero-le}
use native.Mathlib.Omega.{arith}
use Rattle.std.proofs.Math.ListN.{length, take, drop, length-append, length-drop}
use Rattle.std.proofs.Math.Seq.{take_at, take_all, drop-append-add}
use Rattle.rules.specs.RecordBytes.{head_bytes}
use Rattle.rules.specs.Claim.{Problem, Answer, Claim}
use Rattle.rules.specs.Reader.{Place, Refusal, Result, refused, got, front}
use Rattle.rules.specs.Files.{read_claim}
use Rattle.rules.specs.Matrices.{order}
use Rattle.rules.specs.Conditions.{sum_below}
use Rattle.laws.specs.Valid.{ValidProblem, ValidAnswer}
use Rattle.rules.specs.Verdict.{Verdict, passed, unread, not_reduced, not_monomial, below_order, at_order, low_rank, numbers}
use Rattle.rules.specs.Verdict.{judge_claim, verdict}
use Rattle.rules.specs.Writer.{write_each, write_PR, write_OR, write_SH, write_FC, write_CE, write_problem, write_basis, write_answer}
use Rattle.rules.specs.Evidence.{evidence_size}
use Rattle.rules.specs.Part.{Part, rest_of_file, column_size, column_start, claim_part, pointed_at, part_bytes}
use Rattle.laws.specs.ByteNumbers.{AllBytes}
use Rattle.laws.specs.Ranges.{problem_valid, answer_valid, claim_got}
use Rattle.laws.specs.RefusalPlaces.{claim_refused}
use Rattle.laws.specs.RoundTrip.{written_problem, written_answer}
use Rattle.laws.specs.SumLaws.{sum_below_cong, sum_below_within}
use Rattle.laws.specs.WriterLaws.{length_write_each, drop_write_each, length_write_PR, length_write_OR}
use Rattle.laws.specs.WriterLaws.{length_write_SH, length_write_FC, length_write_CE}
use Rattle.laws.specs.ReadLengths.{problem_length, answer_length}
use Rattle.laws.specs.VerdictLaws.{verdict_of_claim, verdict_of_refusal, Judged, verdict_judged}

-- WHERE THE RECORDS STAND

module _ (b : Problem) (valid : ValidProblem b) where
  -- The records before the first `FC`.
  head : List ℕ
  head = write_PR b.p b.m b.n ++ write_OR b.orders ++ write_SH b.shifts

  length_head : length head ≡ head_bytes b.m b.n
  unfolding head
  length_head = omega (
    arith,
    length-append (write_PR b.p b.m b.n ++ write_OR b.orders) (write_SH b.shifts),
    length-append (write_PR b.p b.m b.n) (write_OR b.orders),
    length_write_PR b.p b.m b.n,
    length_write_OR b.orders,
    length_write_SH b.shifts,
    valid.orders_length,
    valid.shifts_length,
  )

  length_column : (i j : ℕ) → j < b.n → length (write_FC i (get_or b.F j [])) ≡ column_size b j
  unfolding column_size
  length_column i j h = length_write_FC b.m (order b j) i (get_or b.F j []) (valid.F_column_length j h) (λ k hk. valid.F_entry_length k j hk h)

  -- A problem is as long as a column after the last would start.
  pub length_write_problem : length (write_problem b) ≡ column_start b b.n
  unfolding write_problem column_start head
  length_write_problem =
      length-append head (write_each write_FC 0 b.F)
      ∙ ap₂ ◌+◌ length_head
      (length_write_each [] write_FC 0 b.F
      ∙ ap (λ n. sum_below n (λ j. length (write_FC (0 + j) (get_or b.F j [])))) valid.F_length
      ∙ sum_below_cong b.n _ (column_size b) (λ j h. length_column (0 + j) j h))

  -- From its start on a column's record stands, and then the others.
  column_at : (j : ℕ) → j < b.n
      → drop (column_start b j) (write_problem b) ≡ write_FC j (get_or b.F j []) ++ write_each write_FC (suc j) (drop (suc j) b.F)
  unfolding write_problem column_start head
  column_at j h =
      ap (λ n. drop n (write_problem b))
      (ap₂ ◌+◌ (sym length_head) (sum_below_cong j (column_size b) _ (λ i hi. sym (length_column (0 + i) i (omega arith)))))
      ∙ drop-append-add head (write_each write_FC 0 b.F) (sum_below j (λ i. length (write_FC (0 + i) (get_or b.F i []))))
      ∙ drop_write_each [] write_FC 0 b.F j (omega (arith, valid.F_length))
      ∙ ap (λ n. write_FC n (get_or b.F j []) ++ write_each write_FC (suc n) (drop (suc j) b.F)) (omega arith)

  -- The record ends within the problem.
  column_within : (j : ℕ) → j < b.n → column_start b j + column_size b j ≤ length (write_problem b)
  unfolding column_start
  column_within j h = omega (arith, length_write_problem, sum_below_within b.n (column_size b) j h)

  -- The `CE` record of a valid answer.
  length_CE : (a : Answer) → ValidAnswer b a → length (write_CE a.C) ≡ evidence_size b
  length_CE a va = length_write_CE b.m b.n a.C va.C_length va.C_row_length

  -- An answer is as long as its basis and 2 + 4 × m × n bytes.
  pub length_write_answer : (a : Answer) → ValidAnswer b a → length (write_answer a) ≡ length (write_basis a.P) + evidence_size b
  unfolding write_answer
  length_write_answer a va = length-append (write_basis a.P) (write_CE a.C) ∙ ap (λ n. length (write_basis a.P) + n) (length_CE a va)

-- WHICH PART

abbrev by_reading : List ℕ → List ℕ → Result Claim → Part
by_reading s t x = elim x [ refused r ↦ rest_of_file s t r.place | got c q ↦ claim_part t c.problem (judge_claim c) ]

-- The empty part at the front of the answer.
abbrev pub front_of_answer : Part
front_of_answer = record { file = 1; start = 0; size = 0 }

-- A claim's verdict other than 11 and 12 points at the front of the answer.
claim_front : (t : List ℕ) (b : Problem) (v : Verdict) → (numbers v).code ≢ 11 → (numbers v).code ≢ 12 → claim_part t b v ≡ front_of_answer
unfolding claim_part numbers
claim_front t b (passed d) below_not at_not = refl
claim_front t b (unread r) below_not at_not = refl
claim_front t b not_reduced below_not at_not = refl
claim_front t b not_monomial below_not at_not = refl
claim_front t b (below_order i j) below_not at_not = absurd (below_not refl)
claim_front t b (at_order i j) below_not at_not = absurd (at_not refl)
claim_front t b low_rank below_not at_not = refl

length_cond : (b : Bool) (s t : List ℕ) → length (cond b s t) ≡ cond b (length s) (length t)
length_cond true s t = refl
length_cond false s t = refl

module _ (s t : List ℕ) where
  -- For two files that are not read, the part is from the record named to the file's end, …
  pub pointed_refused : (r : Refusal) → read_claim s t ≡ refused r → pointed_at s t ≡ rest_of_file s t r.place
  unfolding pointed_at
  pointed_refused r e = ap (by_reading s t) e

  -- … and for others it is that of the verdict.
  pub pointed_claim : (c : Claim) (q : Place) → read_claim s t ≡ got c q → pointed_at s t ≡ claim_part t c.problem (verdict s t)
  unfolding pointed_at
  pointed_claim c q e = ap (by_reading s t) e ∙ ap (claim_part t c.problem) (sym (verdict_of_claim s t c q e))

  -- "Code 11: the `FC` record of that column in the problem."
  pub part_below_order : AllBytes s → (c : Claim) (q : Place) → read_claim s t ≡ got c q → (i j : ℕ) → verdict s t ≡ below_order i j
      → part_bytes s t (pointed_at s t) ≡ write_FC j (get_or c.problem.F j [])
  unfolding part_bytes claim_part
  part_below_order bytes c q e i j h =
      let (p, ep, ea) = claim_got s t c q e in
      let valid = problem_valid s ep in
      let (row, column) = subst (Judged c.problem) h (verdict_judged s t c q e) in
      ap (part_bytes s t) (pointed_claim c q e ∙ ap (claim_part t c.problem) h)
      ∙ ap (λ l. take (column_size c.problem j) (drop (column_start c.problem j) l)) (written_problem s bytes ep)
      ∙ ap (take (column_size c.problem j)) (column_at c.problem valid j column)
      ∙ take_at _ _ (column_size c.problem j) (length_column c.problem valid j j column)

  -- "Code 12: the `CE` record in the answer."
  pub part_at_order : AllBytes t → (c : Claim) (q : Place) → read_claim s t ≡ got c q → (i j : ℕ) → verdict s t ≡ at_order i j
      → part_bytes s t (pointed_at s t) ≡ write_CE c.answer.C
  unfolding part_bytes claim_part write_answer
  part_at_order bytes c q e i j h =
      let (p, ep, ea) = claim_got s t c q e in
      let valid = problem_valid s ep in
      let va = answer_valid c.problem valid t (front 1) ea in
      let size = length_CE c.problem valid c.answer va in
      ap (part_bytes s t) (pointed_claim c q e ∙ ap (claim_part t c.problem) h)
      ∙ ap (λ l. take (evidence_size c.problem) (drop (length l - evidence_size c.problem) l)) (written_answer c.problem t bytes ea)
      ∙ ap (take (evidence_size c.problem)) (drop_at (write_basis c.answer.P) (write_CE c.answer.C)
      (length (write_answer c.answer) - evidence_size c.problem)
      (omega (arith, length_write_answer c.problem valid c.answer va)))
      ∙ take_all (evidence_size c.problem) (write_CE c.answer.C) (omega arith)

  -- Codes 0, 9, 10 and 13, which are all but 1 to 8, 11 and 12: "the empty part at the front of the answer."
  pub pointed_front : ¬ ((1 ≤ (numbers (verdict s t)).code) × ((numbers (verdict s t)).code ≤ 8)) → (numbers (verdict s t)).code ≢ 11
      → (numbers (verdict s t)).code ≢ 12 → pointed_at s t ≡ front_of_answer
  unfolding numbers
  pointed_front unread_not below_not at_not = by_result (read_claim s t) refl
    where
      by_result : (x : Result Claim) → read_claim s t ≡ x → pointed_at s t ≡ front_of_answer
      by_result (refused r) e =
          let placed = claim_refused s t r e in
          let code : (numbers (verdict s t)).code ≡ r.code = ap (λ v. (numbers v).code) (verdict_of_refusal s t r e) in
          absurd (unread_not (omega (arith, placed.code_least), omega (arith, placed.code_most)))
      by_result (got c q) e = pointed_claim c q e ∙ claim_front t c.problem (verdict s t) below_not at_not

  -- It has no byte.
  pub part_front : pointed_at s t ≡ front_of_answer → part_bytes s t (pointed_at s t) ≡ []
  unfolding part_bytes
  part_front e = ap (part_bytes s t) e

  module _ (r : Refusal) (e : read_claim s t ≡ refused r) where
    -- The record named by a refusal starts within its file, …
    pub refused_start : r.place.start ≤ cond (eqb r.place.file 0) (length s) (length t)
    refused_start = let placed = claim_refused s t r e in le_trans placed.start placed.at

    -- … and the part is "from the first byte of the record named to that file's end".
    pub part_refused : part_bytes s t (pointed_at s t) ≡ drop r.place.start (cond (eqb r.place.file 0) s t)
    unfolding part_bytes rest_of_file
    part_refused =
        ap (part_bytes s t) (pointed_refused r e)
        ∙ take_all (cond (eqb r.place.file 0) (length s) (length t) - r.place.start) (drop r.place.start (cond (eqb r.place.file 0) s t))
        (omega (arith, length-drop r.place.start (cond (eqb r.place.file 0) s t), length_cond (eqb r.place.file 0) s t))

-- WITHIN THE FILE

-- A part of the problem or of the answer.
record Within (s t : List ℕ) (q : Part) : Type 0 where
  file : q.file ≤ 1
  inside : q.start + q.size ≤ cond (eqb q.file 0) (length s) (length t)

within_claim : (s t : List ℕ) (b : Problem) (v : Verdict) → Judged b v → ((j : ℕ) → j < b.n → column_start b j + column_size b j ≤ length s)
    → evidence_size b ≤ length t → Within s t (claim_part t b v)
unfolding claim_part
within_claim s t b (passed d) h hs ht = record { file = omega arith; inside = zero-le }
within_claim s t b (unread r) h hs ht = absurd h
within_claim s t b not_reduced h hs ht = record { file = omega arith; inside = zero-le }
within_claim s t b not_monomial h hs ht = record { file = omega arith; inside = zero-le }
within_claim s t b (below_order i j) h hs ht = record { file = omega arith; inside = hs j h.1 }
within_claim s t b (at_order i j) h hs ht = record { file = omega arith; inside = omega arith }
within_claim s t b low_rank h hs ht = record { file = omega arith; inside = zero-le }

module _ (s t : List ℕ) where
  within : Within s t (pointed_at s t)
  unfolding rest_of_file
  within = by_result (read_claim s t) refl
    where
      by_result : (x : Result Claim) → read_claim s t ≡ x → Within s t (pointed_at s t)
      by_result (refused r) e = subst (Within s t) (sym (pointed_refused s t r e)) (record {
        file = (claim_refused s t r e).file;
        inside = omega (arith, refused_start s t r e);
      })
      by_result (got c q) e =
          let (p, ep, ea) = claim_got s t c q e in
          let valid = problem_valid s ep in
          let va = answer_valid c.problem valid t (front 1) ea in
          subst (Within s t) (sym (pointed_claim s t c q e))
          (within_claim s t c.problem (verdict s t) (verdict_judged s t c q e)
          (λ j h. omega (arith, problem_length s ep, column_within c.problem valid j h))
          (omega (arith, answer_length c.problem t ea, length_write_answer c.problem valid c.answer va)))

  -- Every part is one of the problem, file 0, or of the answer, file 1, …
  pub pointed_file : (pointed_at s t).file ≤ 1
  pointed_file = within.file

  -- … and ends within it.
  pub pointed_within : (pointed_at s t).start + (pointed_at s t).size ≤ cond (eqb (pointed_at s t).file 0) (length s) (length t)
  pointed_within = within.inside
