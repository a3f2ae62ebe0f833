-- Steps towards the part that a verdict points at.
--   same_part                equal numbers make equal parts
--   is_handed, was_read      the code's reading of a problem that the rules read
--   is_read                  what the arrays of a problem that was read stand for
--   rows_small .. column_found         its sizes, and the `FC` record by its numbers
--   read_of_code             a code past 8: both files are read
--   column_held, column_pointed        code 11: the column is there, and its record is the part
--   evidence_found, evidence_within    code 12: the `CE` record is the part, and lies in the answer
--   span_code .. span_front  the part, by the numbers of a verdict
--   chosen                   what stands behind the one of two references
use Rattle.std.specs.Prelude.{◌≡◌, ◌≢◌, Bool, true, false, List, eqb, length, Result as Outcome, Ok, is_ok}
use Rattle.std.proofs.Math.Path.{refl, sym, ap, ap₂, subst}
use Rattle.std.proofs.Common.{◌∙◌, arith}
use Rattle.std.proofs.Math.Bool.{cond}
use Prim.Native.Nat.{ℕ, ◌+◌, ◌-◌, ◌≤◌, ◌<◌}
use Rattle.std.proofs.Math.ListN.{get_or}
use Rattle.std.specs.Borrow.{Bor}
use Rattle.rules.specs.Sizes.{most_rows}
use Rattle.rules.specs.RecordBytes.{head_bytes, column_bytes, evidence_bytes}
use Rattle.rules.specs.Claim.{Problem, Claim}
use Rattle.rules.specs.Reader.{Place, Refusal, Result, refused, got}
use Rattle.rules.specs.Files.{read_problem, read_claim}
use Rattle.rules.specs.Conditions.{sum_below}
use Rattle.rules.specs.Verdict.{Verdict, passed, unread, not_reduced, not_monomial, below_order, at_order, low_rank, Numbers, numbers, verdict}
use Rattle.rules.specs.Evidence.{evidence_size}
use Rattle.rules.specs.Part.{Part, column_size, column_start, claim_part, rest_of_file, pointed_at}
use Rattle.laws.specs.Ranges.{problem_valid, claim_got}
use Rattle.laws.specs.RefusalPlaces.{claim_refused}
use Rattle.laws.specs.VerdictLaws.{verdict_of_refusal, code_of_refusal, Judged, verdict_judged}
use Rattle.laws.specs.PartLaws.{pointed_refused, pointed_claim, front_of_answer, pointed_front, refused_start, pointed_within}
use Rattle.laws.specs.SumLaws.{sum_below_cong}
use Rattle.verdict.specs.declared.Refusal.{Refusal as Refused}
use Rattle.claim.specs.declared.Problem.{Problem as ProblemStruct}
use Rattle.claim.specs.Claims.{problem_in}
use Rattle.claim.specs.Holds.{holds_orders}
use Rattle.problem_file.specs.Values.{problem_value}
use Rattle.reader.specs.Readings.{handed, handed_on}
use Rattle.part.specs.Parts.{HasColumn, ColumnPart, start_of}

-- Equal numbers make equal parts.
pub same_part : {f f' s s' k k' : ℕ} → f ≡ f' → s ≡ s' → k ≡ k'
    → ◌≡◌ {A = Part} (record { file = f; start = s; size = k }) (record { file = f'; start = s'; size = k' })
same_part ef es ek = λ i. record { file = ef i; start = es i; size = ek i }

-- WHAT IS READ

-- A problem that the rules read is one that the code's reading hands back.
pub is_handed : (s : List ℕ) {b : Problem} {q : Place} → read_problem s ≡ got b q → {r : Outcome ProblemStruct Refused} → r ≡ handed (problem_value (read_problem s))
    → is_ok r ≡ true
unfolding problem_value handed
is_handed s e h = ap is_ok (h ∙ ap (λ m. handed (problem_value m)) e)

pub was_read : (s : List ℕ) {r : Outcome ProblemStruct Refused} {x : ProblemStruct} → r ≡ handed (problem_value (read_problem s)) → r ≡ Ok x
    → (Ok tt, x) ≡ problem_value (read_problem s)
was_read s h k = handed_on (problem_value (read_problem s)) (sym k ∙ h)

-- What the arrays of a problem that was read stand for.
module _ (s : List ℕ) (x : ProblemStruct) {p : Place} (e : read_problem s ≡ got (problem_in x) p) where
  is_read : {b : Problem} {q : Place} → read_problem s ≡ got b q → problem_in x ≡ b
  is_read k = let same : ◌≡◌ {A = Result Problem} (got (problem_in x) p) (got _ _) = sym e ∙ k in cc

  pub rows_small : x.head.m ≤ most_rows
  rows_small = (problem_valid s e).rows_most

  pub columns_small : x.head.n ≤ most_rows
  columns_small = (problem_valid s e).columns_most

  pub column_below : (j : ℕ) → HasColumn s j → j < x.head.n
  column_below j (b, q, k, h) = subst (λ (c : Problem). j < c.n) (sym (is_read k)) h

  -- The `FC` record of a column, by the numbers that the code has.
  pub column_found : (j start size : ℕ) → j < x.head.n
      → start ≡ head_bytes x.head.m x.head.n + sum_below j (λ k. column_bytes x.head.m (get_or x.head.orders k 0))
      → size ≡ column_bytes x.head.m (get_or x.head.orders j 0) → ColumnPart s j (record { file = 0; start = start; size = size })
  unfolding column_start column_size
  column_found j start size within hs hk b q k =
      let each : (i : ℕ) → i < x.head.n → column_bytes x.head.m (get_or x.head.orders i 0) ≡ column_size (problem_in x) i =
      λ i h. ap (column_bytes x.head.m) (holds_orders x.head x.f i h)
      in
      same_part refl
      (hs ∙ ap (λ (n : ℕ). head_bytes x.head.m x.head.n + n) (sum_below_cong j _ _ (λ i below. each i (omega arith))))
      (hk ∙ each j within)
      ∙ ap (λ (c : Problem). record { file = 0; start = column_start c j; size = column_size c j }) (is_read k)

-- WHAT A CODE SAYS

judged_below : (b : Problem) (v : Verdict) → Judged b v → (numbers v).code ≡ 11 → v ≡ below_order (numbers v).number (numbers v).at
unfolding numbers
judged_below b (passed d) h e = absurd (omega (arith, e))
judged_below b (unread r) h e = absurd h
judged_below b not_reduced h e = absurd (omega (arith, e))
judged_below b not_monomial h e = absurd (omega (arith, e))
judged_below b (below_order i j) h e = refl
judged_below b (at_order i j) h e = absurd (omega (arith, e))
judged_below b low_rank h e = absurd (omega (arith, e))

judged_at : (b : Problem) (v : Verdict) → Judged b v → (numbers v).code ≡ 12 → v ≡ at_order (numbers v).number (numbers v).at
unfolding numbers
judged_at b (passed d) h e = absurd (omega (arith, e))
judged_at b (unread r) h e = absurd h
judged_at b not_reduced h e = absurd (omega (arith, e))
judged_at b not_monomial h e = absurd (omega (arith, e))
judged_at b (below_order i j) h e = absurd (omega (arith, e))
judged_at b (at_order i j) h e = refl
judged_at b low_rank h e = absurd (omega (arith, e))

module _ (s t : List ℕ) where
  -- With a code past 8 both files are read.
  pub read_of_code : 8 < (numbers (verdict s t)).code → (c : Claim) × (q : Place) × (read_claim s t ≡ got c q)
  unfolding numbers
  read_of_code h = by_result (read_claim s t) refl
    where
      by_result : (x : Result Claim) → read_claim s t ≡ x → (c : Claim) × (q : Place) × (read_claim s t ≡ got c q)
      by_result (refused r) e =
          let code : (numbers (verdict s t)).code ≡ r.code = ap (λ v. (numbers v).code) (verdict_of_refusal s t r e) in
          absurd (omega (arith, code, (claim_refused s t r e).code_most))
      by_result (got c q) e = (c, q, e)

  -- Code 11: the problem is read and has the column …
  pub column_held : (numbers (verdict s t)).code ≡ 11 → HasColumn s (numbers (verdict s t)).at
  column_held h =
      let (c, q, e) = read_of_code (omega (arith, h)) in
      let (p, ep, ea) = claim_got s t c q e in
      let judged = verdict_judged s t c q e in
      (c.problem, p, ep, (subst (Judged c.problem) (judged_below c.problem (verdict s t) judged h) judged).1)

  -- … and its record is the part.
  pub column_pointed : (numbers (verdict s t)).code ≡ 11 → (x : Part) → ColumnPart s (numbers (verdict s t)).at x → x ≡ pointed_at s t
  unfolding claim_part
  column_pointed h x found =
      let (c, q, e) = read_of_code (omega (arith, h)) in
      let (p, ep, ea) = claim_got s t c q e in
      found c.problem p ep
      ∙ sym (pointed_claim s t c q e ∙ ap (claim_part t c.problem) (judged_below c.problem (verdict s t) (verdict_judged s t c q e) h))

  -- Code 12: the problem is read, and which part it is.
  pub evidence_read : (numbers (verdict s t)).code ≡ 12
      → (b : Problem) × (q : Place) × (read_problem s ≡ got b q)
      × (pointed_at s t ≡ record { file = 1; start = length t - evidence_size b; size = evidence_size b })
  unfolding claim_part
  evidence_read h =
      let (c, q, e) = read_of_code (omega (arith, h)) in
      let (p, ep, ea) = claim_got s t c q e in
      (c.problem, p, ep, pointed_claim s t c q e ∙ ap (claim_part t c.problem) (judged_at c.problem (verdict s t) (verdict_judged s t c q e) h))

  module _ (x : ProblemStruct) {p : Place} (read : read_problem s ≡ got (problem_in x) p) (code : (numbers (verdict s t)).code ≡ 12) where
    -- The record is the part, …
    pub evidence_found : ◌≡◌ {A = Part} (record { file = 1; start = length t - evidence_bytes x.head.m x.head.n; size = evidence_bytes x.head.m x.head.n }) (pointed_at s t)
    evidence_found =
        let (b, q, e, part) = evidence_read code in
        ap (λ (c : Problem). record { file = 1; start = length t - evidence_size c; size = evidence_size c }) (is_read s x read e) ∙ sym part

    -- … and the answer has room for it at its end.
    pub evidence_within : evidence_bytes x.head.m x.head.n ≤ length t
    evidence_within =
        let inside : length t - evidence_bytes x.head.m x.head.n + evidence_bytes x.head.m x.head.n ≤ length t =
        subst (λ x. x.start + x.size ≤ cond (eqb x.file 0) (length s) (length t)) (sym evidence_found) (pointed_within s t)
        in
        omega (arith, inside)

-- WHAT THE NUMBERS OF A VERDICT SAY

module _ (s t : List ℕ) {v : Verdict} (e : v ≡ verdict s t) {n : Numbers} (numbered : n ≡ numbers v) where
  found : n ≡ numbers (verdict s t)
  found = numbered ∙ ap numbers e

  pub span_code : n.code ≡ (numbers (verdict s t)).code
  span_code = ap (λ x. x.code) found

  span_at : (numbers (verdict s t)).at ≡ n.at
  span_at = sym (ap (λ x. x.at) found)

  -- Code 11: …
  pub span_column : n.code ≡ 11 → HasColumn s n.at
  span_column k = subst (HasColumn s) span_at (column_held s t (sym span_code ∙ k))

  pub span_column_part : n.code ≡ 11 → (x : Part) → ColumnPart s n.at x → x ≡ pointed_at s t
  span_column_part k x is = column_pointed s t (sym span_code ∙ k) x (subst (λ (j : ℕ). ColumnPart s j x) (sym span_at) is)

  -- Codes 1 to 8: …
  module _ (least : 1 ≤ n.code) (most : n.code ≤ 8) {start : ℕ} (begins : start ≡ start_of v) where
    refusal : (r : Refusal) × (read_claim s t ≡ refused r)
    refusal = code_of_refusal s t (omega (arith, span_code)) (omega (arith, span_code))

    unread_here : v ≡ unread refusal.0
    unread_here = e ∙ verdict_of_refusal s t refusal.0 refusal.1

    file_is : n.file ≡ refusal.0.place.file
    unfolding numbers
    file_is = ap (λ x. x.file) numbered ∙ ap (λ v. (numbers v).file) unread_here

    start_is : start ≡ refusal.0.place.start
    start_is = begins ∙ ap start_of unread_here

    pub span_start : start ≤ cond (eqb n.file 0) (length s) (length t)
    span_start =
        subst (λ (k : ℕ). k ≤ cond (eqb n.file 0) (length s) (length t)) (sym start_is)
        (subst (λ (f : ℕ). refusal.0.place.start ≤ cond (eqb f 0) (length s) (length t)) (sym file_is) (refused_start s t refusal.0 refusal.1))

    pub span_rest : ◌≡◌ {A = Part} (record { file = n.file; start = start; size = cond (eqb n.file 0) (length s) (length t) - start }) (pointed_at s t)
    unfolding rest_of_file
    span_rest =
        ap₂ (λ (f k : ℕ). record { file = f; start = k; size = cond (eqb f 0) (length s) (length t) - k }) file_is start_is
        ∙ sym (pointed_refused s t refusal.0 refusal.1)

  -- Every other code.
  pub span_front : ¬ ((1 ≤ n.code) × (n.code ≤ 8)) → n.code ≢ 11 → n.code ≢ 12 → front_of_answer ≡ pointed_at s t
  span_front unread_not below_not at_not =
      sym (pointed_front s t (λ h. unread_not (omega (arith, span_code, h.0), omega (arith, span_code, h.1))) (λ h. below_not (span_code ∙ h))
      (λ h. at_not (span_code ∙ h)))

-- WHICH FILE

-- What stands behind the one of two references.
pub chosen : (x : Bool) (s t : Bor (List ℕ)) → (cond x s t).now ≡ cond x s.now t.now
chosen true s t = refl
chosen false s t = refl
