-- Document 02, L7: "With b steps done, b at least 1, the file written is passed by the judge for the same problem with each order replaced
-- by the smaller of it and b, its F columns cut to match. With 0 steps P is the identity and C zero, and no such claim is made."
--   cut_order, cut_agrees, cut_valid           the problem cut to the steps done
--   passed_by_tests          a claim that passes each test of the judge is passed
--   after_passed             what is made after k steps is passed
--   steps_done_least, steps_done_most          how many steps are done
--   made_valid, made_passed, made_read, made_file_passed       what is made is within its sizes, is passed, and so are the files written
--   identity_made, nothing_made        with 0 steps
use Rattle.std.specs.Prelude.{◌≡◌, Bool, true, false, eqb, ℤ, pos}
use Rattle.std.proofs.Math.Path.{refl, sym, ap, ap₂, subst, fun_ext}
use Rattle.std.proofs.Common.{◌∙◌, le_of_suc-le-suc, not-suc-le-zero, mod-eq_of_lt}
use Rattle.std.proofs.Math.Bool.{cond}
use mathlib.Core.List.{List, [], ◌∷◌}
use Rattle.std.specs.Prelude.{Option, None, Some}
use Prim.Native.Nat.{ℕ, zero, suc, min, ◌+◌, ◌≤◌, ◌<◌, zero-le}
use Rattle.std.proofs.Math.Nat.{le_of_lt, zero-mod}
use native.Mathlib.Omega.{arith}
use Rattle.std.proofs.Math.Decide.{dec_lt, ℕ_discrete}
use Rattle.std.proofs.Math.ListN.{length, get_or, take, length-take, get_or-eq_default}
use Rattle.algebra.specs.Residue.{K, red, red_onto, red_value}
use Rattle.algebra.specs.Series.{series_ext, constant}
use Rattle.algebra.proofs.Series.{Series}
use Rattle.algebra.specs.Matrix.{Matrix, unit, unit_diagonal, unit_off, mmul, beside, beside_same}
use Rattle.algebra.specs.Det.{det_local}
use Rattle.algebra.proofs.Degree.{leading}
use Rattle.algebra.specs.Dependence.{independent_local, independent_not_dependent}
use Rattle.algebra.proofs.PolyMatrix.{entries}
use Rattle.algebra.proofs.Step.{residuals, Basis}
use Rattle.algebra.proofs.StepRank.{vmul_zeros}
use Rattle.algebra.proofs.StepBasis.{cut_basis, basis_local}
use Rattle.rules.specs.Sizes.{most_order}
use Rattle.rules.specs.Claim.{Problem, Claim}
use Rattle.rules.specs.Matrices.{order, shift, at, matrix_F, matrix_P, matrix_C, product}
use Rattle.laws.specs.Valid.{ValidProblem, ValidBasis, Valid}
use Rattle.rules.specs.Reader.{Place, got}
use Rattle.rules.specs.Files.{read_claim}
use Rattle.rules.specs.Writer.{write_problem, write_answer}
use Rattle.rules.specs.Conditions.{max_below, leading_coefficient, leading_matrix, reduced, monomial_determinant, degree_sum, low_fault, order_fault}
use Rattle.rules.specs.Conditions.{first_place, rank_matrix, rank_below}
use Rattle.rules.specs.Verdict.{Verdict, passed, not_reduced, not_monomial, below_order, at_order, low_rank, pass_with, by_rank, by_product}
use Rattle.rules.specs.Verdict.{judge_claim, verdict}
use Rattle.rules.specs.Table.{table}
use Rattle.rules.specs.Evidence.{evidence_of}
use Rattle.rules.specs.Maker.{trimmed, listed, list_matrix, basis_after, steps_done, cut_problem, answer_after, make_answer}
use Rattle.laws.specs.BoolLaws.{false_iff, eqb_iff}
use Rattle.laws.specs.SearchLaws.{first_place_none}
use Rattle.laws.specs.ReducedLaws.{reduced_iff}
use Rattle.laws.specs.DeterminantLaws.{le_max_below, monomial_determinant_iff, degree_sum_exponent}
use Rattle.laws.specs.ProductLaws.{no_low_fault_iff, rank_below_iff}
use Rattle.rules.specs.Table.{length_table, get_or_table, table_all}
use Rattle.laws.specs.EvidenceLaws.{evidence_number, evidence_no_order_fault, evidence_valid}
use Rattle.laws.specs.RoundTrip.{read_written_claim}
use Rattle.laws.specs.VerdictLaws.{verdict_of_claim}
use Rattle.laws.specs.MakerLaws.{AfterBasis, after_valid, after_basis}

-- THE CUT PROBLEM

-- The first n members of a list are as before, …
get_d_take : (n : ℕ) (l : List ℕ) (k : ℕ) → k < n → get_or (take n l) k 0 ≡ get_or l k 0
get_d_take zero l k h = absurd (not-suc-le-zero h)
get_d_take (suc n) [] k h = refl
get_d_take (suc n) (x ∷ l) zero h = refl
get_d_take (suc n) (x ∷ l) (suc k) h = get_d_take n l k (le_of_suc-le-suc h)

-- … and what holds of the default and of every member holds of each that is left.
take_every : (Q : ℕ → Type 0) → Q 0 → (n : ℕ) (l : List ℕ) → ((k : ℕ) → Q (get_or l k 0)) → (k : ℕ) → Q (get_or (take n l) k 0)
take_every Q default n l every k = elim (dec_lt k n) [
  | yes h ↦ subst Q (sym (get_d_take n l k h)) (every k)
  | no nh ↦ subst Q (sym (get_or-eq_default (take n l) 0 (omega (arith, length-take n l)))) default
]

module _ (b : Problem) (k : ℕ) where
  -- Each order is replaced "by the smaller of it and b", …
  pub cut_order : (j : ℕ) → j < b.n → order (cut_problem b k) j ≡ min (order b j) k
  unfolding cut_problem
  cut_order j hj = get_or_table b.n (λ j. min (order b j) k) 0 j hj

  -- … and F's columns are "cut to match".
  cut_entry : (i j : ℕ) → i < b.m → j < b.n → at (cut_problem b k).F j i ≡ take (min (order b j) k) (at b.F j i)
  unfolding cut_problem
  cut_entry i j hi hj = ap (λ column. get_or column i []) (get_or_table b.n _ [] j hj) ∙ get_or_table b.m _ [] i hi

  -- Below the cut orders F is as before.
  pub cut_agrees : (i j l : ℕ) → i < b.m → j < b.n → l < min (order b j) k
      → red b.p (get_or (at b.F j i) l 0) ≡ red b.p (get_or (at (cut_problem b k).F j i) l 0)
  cut_agrees i j l hi hj hl = ap (red b.p) (sym (ap (λ e. get_or e l 0) (cut_entry i j hi hj) ∙ get_d_take (min (order b j) k) (at b.F j i) l hl))

  -- The cut problem is within its sizes, from 1 step on.
  pub cut_valid : ValidProblem b → 1 ≤ k → ValidProblem (cut_problem b k)
  unfolding cut_problem
  cut_valid valid least = record {
    prime = valid.prime;
    prime_size = valid.prime_size;
    rows_least = valid.rows_least;
    rows_most = valid.rows_most;
    columns_least = valid.columns_least;
    columns_most = valid.columns_most;
    orders_length = length_table b.n _;
    order_least = λ j hj. subst (λ d. 1 ≤ d) (sym (cut_order j hj)) (omega (arith, valid.order_least j hj));
    order_most = table_all b.n (λ j. min (order b j) k) 0 (λ d. d ≤ most_order) zero-le (λ j. omega (arith, valid.order_most j));
    shifts_length = valid.shifts_length;
    shift_most = valid.shift_most;
    F_length = length_table b.n _;
    F_column_length = λ j hj. ap length (get_or_table b.n _ [] j hj) ∙ length_table b.m _;
    F_entry_length = λ i j hi hj.
        ap length (cut_entry i j hi hj)
        ∙ length-take (min (order b j) k) (at b.F j i)
        ∙ omega (arith, valid.F_entry_length i j hi hj)
        ∙ sym (cut_order j hj);
    F_range = λ i j l. table_all b.n _ [] (λ column. get_or (get_or column i []) l 0 < b.p) (positive)
        (λ j. table_all b.m _ [] (λ e. get_or e l 0 < b.p) (positive)
        (λ i. take_every (λ x. x < b.p) positive (min (order b j) k) (at b.F j i) (valid.F_range i j) l) i) j;
  }
    where
      positive : 0 < b.p
      positive = le_of_lt valid.prime.two_le

-- THE VERDICT

-- The verdict that the tests choose, by Δ.
abbrev choose : Bool → Bool → Option (ℕ × ℕ) → Option (ℕ × ℕ) → Bool → Option ℤ → Verdict
choose r d l o k sum =
    elim r [
      | false ↦ not_reduced
      | true ↦
          elim d [
            | false ↦ not_monomial
            | true ↦
                elim l [
                  | Some place ↦ below_order place.0 place.1
                  | None ↦ elim o [ Some place ↦ at_order place.0 place.1 | None ↦ cond k low_rank (pass_with sum) ]
                ]
          ]
    ]

-- A claim that passes each test is passed.
pub passed_by_tests : (c : Claim) (d : ℕ)
    → reduced c.problem c.answer.P ≡ true
    → monomial_determinant c.problem c.answer.P ≡ true
    → first_place c.problem.m c.problem.n (low_fault c.problem c.answer.P) ≡ None
    → first_place c.problem.m c.problem.n (order_fault c.problem c.answer.P c.answer.C) ≡ None
    → rank_below c.problem c.answer.P c.answer.C ≡ false
    → degree_sum c.problem c.answer.P ≡ Some (pos d)
    → judge_claim c ≡ passed d
unfolding judge_claim by_product by_rank
passed_by_tests c d er ed el eo ek es = λ i. choose (er i) (ed i) (el i) (eo i) (ek i) (es i)

-- The claim made by k steps: the problem cut to them, and P and C.
abbrev pub after_claim : Problem → ℕ → Claim
after_claim b k = record { problem = cut_problem b k; answer = answer_after b k }

module _ (b : Problem) (valid : ValidProblem b) (k : ℕ) (small : k ≤ most_order) where
  -- The cut problem, and P.
  abbrev cut : Problem
  cut = cut_problem b k

  abbrev P : List (List (List ℕ))
  P = basis_after b k

  abbrev series_P : Matrix (Series (K cut.p))
  series_P = entries (K cut.p) (matrix_P cut P)

  abbrev series_F : Matrix (Series (K cut.p))
  series_F = entries (K cut.p) (matrix_F cut)

  -- What is known of P.
  after : AfterBasis b valid k
  after = after_basis b valid k small

  positive : 0 < cut.p
  unfolding cut_problem
  positive = le_of_lt valid.prime.two_le

  -- P is a basis for the cut F and the cut orders.
  cut_after : Basis (K cut.p) cut.m cut.n series_F (shift cut) (order cut) after.r series_P
  unfolding cut_problem
  cut_after =
      basis_local (K b.p) b.m b.n series_F (shift b) (λ j. min (order b j) k) (order cut) after.r after.r series_P series_P
      (λ j hj. sym (cut_order b k j hj)) (λ i hi. refl) (λ i j hi hj. refl)
      (cut_basis (K b.p) b.m b.n (entries (K b.p) (matrix_F b)) series_F (shift b) (λ j. min (order b j) k) after.r series_P
      (λ i j l hi hj hl. cut_agrees b k i j l hi hj hl) after.basis)

  -- So it passes each test of the judge: 1, …
  is_reduced : reduced cut P ≡ true
  unfolding cut_problem
  is_reduced = (reduced_iff cut P).1 (λ z. cut_after.nonsingular
      (det_local (K cut.p) cut.m (leading (K cut.p) after.r (shift cut) series_P) (leading_matrix cut P)
      (λ i j hi hj. sym (ap (λ o. leading_coefficient b.p o (shift b j) (series_P i j)) (after.row_degrees i hi)))
      ∙ z))

  -- … 2, …
  is_monomial : monomial_determinant cut P ≡ true
  is_monomial = (monomial_determinant_iff cut P).1 cut_after.monomial

  -- … 3, …
  no_low_fault : first_place cut.m cut.n (low_fault cut P) ≡ None
  unfolding product mmul
  no_low_fault = (first_place_none cut.m cut.n (low_fault cut P)).1
      (λ i j hi hj. (no_low_fault_iff cut P i j).1 (λ l hl. cut_after.vanishes i hi j l hj hl))

  no_order_fault : first_place cut.m cut.n (order_fault cut P (evidence_of cut P)) ≡ None
  no_order_fault = (first_place_none cut.m cut.n (order_fault cut P (evidence_of cut P))).1 (λ i j hi hj. evidence_no_order_fault cut P i j hi hj)

  -- … and 4.
  full_rank : rank_below cut P (evidence_of cut P) ≡ false
  unfolding product mmul
  full_rank = (false_iff _).1 (λ t.
      independent_not_dependent (K cut.p) cut.m (cut.m + cut.n) (rank_matrix cut P (evidence_of cut P))
      (independent_local (K cut.p) cut.m (cut.m + cut.n) (beside cut.m at_zero (residuals (K cut.p) cut.m series_F (order cut) series_P))
      (rank_matrix cut P (evidence_of cut P))
      (beside_same (K cut.p) cut.m cut.m cut.n at_zero at_zero (residuals (K cut.p) cut.m series_F (order cut) series_P)
      (matrix_C cut (evidence_of cut P)) (λ i j hi hj. refl)
      (λ i j hi hj. sym (ap (red cut.p) (evidence_number cut P i j hi hj) ∙ red_onto cut.p (product cut P i j (order cut j)))))
      cut_after.full_rank)
      ((rank_below_iff cut P (evidence_of cut P) positive).0 t))
    where
      at_zero : Matrix (K cut.p)
      at_zero i j = series_P i j zero

  -- What is made after k steps is passed, for the problem cut to them.
  pub after_passed : (d : ℕ) × (judge_claim (after_claim b k) ≡ passed d)
  unfolding answer_after
  after_passed = (
    cut_after.monomial.0,
    passed_by_tests (after_claim b k) cut_after.monomial.0 is_reduced is_monomial no_low_fault no_order_fault full_rank
        (degree_sum_exponent cut P is_reduced cut_after.monomial),
  )

  basis_valid : ValidBasis cut P
  unfolding cut_problem
  basis_valid =
      let v = after_valid b valid k small in
      record { P_length = v.P_length; P_row_length = v.P_row_length; P_entry_length = v.P_entry_length; P_range = v.P_range; P_last = v.P_last }

  -- From 1 step on it is within its sizes.
  pub after_claim_valid : 1 ≤ k → Valid (after_claim b k)
  unfolding answer_after
  after_claim_valid least =
      let cut_problem_valid = cut_valid b k valid least in
      record { valid_problem = cut_problem_valid; valid_answer = evidence_valid cut P cut_problem_valid basis_valid }

-- THE STEPS DONE

max_below_most : (n : ℕ) (f : ℕ → ℕ) (most : ℕ) → ((i : ℕ) → f i ≤ most) → max_below n f ≤ most
unfolding max_below
max_below_most zero f most h = zero-le
max_below_most (suc n) f most h = omega (arith, h zero, max_below_most n (λ i. f (suc i)) most (λ i. h (suc i)))

module _ (b : Problem) (valid : ValidProblem b) (steps : ℕ) where
  -- No more steps are done than the largest order is, …
  pub steps_done_most : steps_done b steps ≤ most_order
  unfolding steps_done
  steps_done_most = omega (arith, max_below_most b.n (order b) most_order valid.order_most)

  -- … and one at least, where one is allowed.
  pub steps_done_least : 1 ≤ steps → 1 ≤ steps_done b steps
  unfolding steps_done
  steps_done_least least = omega (arith, le_max_below b.n (order b) 0 valid.columns_least, valid.order_least 0 valid.columns_least)

  -- The claim made: the problem cut to the steps done, and the answer.
  abbrev pub made_claim : Claim
  made_claim = record { problem = cut_problem b (make_answer b steps).done; answer = (make_answer b steps).answer }

  made_is : made_claim ≡ after_claim b (steps_done b steps)
  unfolding make_answer
  made_is = refl

  -- It is within its sizes, …
  pub made_valid : 1 ≤ steps → Valid made_claim
  made_valid least = subst Valid (sym made_is) (after_claim_valid b valid (steps_done b steps) steps_done_most (steps_done_least least))

  -- … and passed.
  pub made_passed : (d : ℕ) × (judge_claim made_claim ≡ passed d)
  made_passed = let (d, e) = after_passed b valid (steps_done b steps) steps_done_most in (d, ap judge_claim made_is ∙ e)

  -- The files written are read as that claim, …
  pub made_read : 1 ≤ steps → (q : Place) × (read_claim (write_problem made_claim.problem) (write_answer made_claim.answer) ≡ got made_claim q)
  made_read least = read_written_claim made_claim (made_valid least)

  -- … and "the file written is passed by the judge for the same problem with each order replaced by the smaller of it and b, its F columns
  -- cut to match".
  pub made_file_passed : 1 ≤ steps
      → (d : ℕ) × (verdict (write_problem (cut_problem b (make_answer b steps).done)) (write_answer (make_answer b steps).answer) ≡ passed d)
  made_file_passed least =
      let (q, read) = made_read least in
      let (d, e) = made_passed in
      (d, verdict_of_claim (write_problem made_claim.problem) (write_answer made_claim.answer) made_claim q read ∙ e)

-- NO STEPS

module _ (b : Problem) (valid : ValidProblem b) where
  one_number : (red b.p 1).0 ≡ 1
  one_number = red_value b.p (le_of_lt valid.prime.two_le) 1 ∙ mod-eq_of_lt valid.prime.two_le

  zero_number : (red b.p 0).0 ≡ 0
  zero_number = red_value b.p (le_of_lt valid.prime.two_le) 0 ∙ zero-mod b.p

  -- An entry of the identity.
  listed_unit : (i j : ℕ) → listed b.p 1 (unit (Series (K b.p)) i j) ≡ cond (eqb i j) (1 ∷ []) []
  unfolding listed trimmed table constant
  listed_unit i j = elim (ℕ_discrete i j) [
    | yes e ↦
        ap (λ x. trimmed (x ∷ [])) (ap (λ j. (unit (Series (K b.p)) i j 0).0) (sym e) ∙ ap (λ f. (f 0).0) (unit_diagonal (Series (K b.p)) i) ∙ one_number)
        ∙ sym (ap (λ t. cond t (1 ∷ []) []) ((eqb_iff i j).1 e))
    | no ne ↦
        ap (λ x. trimmed (x ∷ [])) (ap (λ f. (f 0).0) (unit_off (Series (K b.p)) i j ne) ∙ zero_number)
        ∙ sym (ap (λ t. cond t (1 ∷ []) []) ((false_iff (eqb i j)).1 (λ e. ne ((eqb_iff i j).0 e))))
  ]

  -- "With 0 steps P is the identity": its entries.
  pub identity_made : basis_after b 0 ≡ table b.m (λ i. table b.m (λ j. cond (eqb i j) (1 ∷ []) []))
  unfolding basis_after list_matrix
  identity_made = ap (table b.m) (fun_ext (λ i. ap (table b.m) (fun_ext (listed_unit i))))

  -- Nothing is left of F …
  nothing_left : (i j k : ℕ) → get_or (at (cut_problem b 0).F j i) k 0 ≡ 0
  unfolding cut_problem
  nothing_left i j k =
      table_all b.n (λ j. table b.m (λ i. take (min (order b j) 0) (at b.F j i))) [] (λ column. get_or (get_or column i []) k 0 ≡ 0) refl
      (λ j. table_all b.m (λ i. take (min (order b j) 0) (at b.F j i)) [] (λ e. get_or e k 0 ≡ 0) refl
      (λ i. ap (λ n. get_or (take n (at b.F j i)) k 0) (cut_to_none (order b j))) i) j
    where
      cut_to_none : (d : ℕ) → min d 0 ≡ 0
      cut_to_none d = omega arith

  -- … so that the coefficients of the product are 0.
  no_product : (Q : List (List (List ℕ))) (i j k : ℕ) → (product (cut_problem b 0) Q i j k).0 ≡ 0
  unfolding product mmul cut_problem
  no_product Q i j k =
      ap (λ f. (f k).0)
      (vmul_zeros (Series (K b.p)) b.m (entries (K b.p) (matrix_P b Q) i) (entries (K b.p) (matrix_F (cut_problem b 0))) j
      (λ t ht. series_ext (K b.p) (λ l. ap (red b.p) (nothing_left t j l))))
      ∙ zero_number

  -- "With 0 steps P is the identity and C zero".
  pub nothing_made : make_answer b 0
      ≡ record {
        answer = record { P = table b.m (λ i. table b.m (λ j. cond (eqb i j) (1 ∷ []) [])); C = table b.m (λ i. table b.n (λ j. 0)) };
        done = 0;
      }
  unfolding make_answer answer_after evidence_of steps_done cut_problem
  nothing_made =
      ap (λ d. record { answer = answer_after b d; done = d }) none_done
      ∙ ap₂ (λ P C. record { answer = record { P = P; C = C }; done = 0 })
      identity_made
      (ap (table b.m) (fun_ext (λ i. ap (table b.n) (fun_ext (λ j. no_product (basis_after b 0) i j (order (cut_problem b 0) j))))))
    where
      none_done : min 0 (max_below b.n (order b)) ≡ 0
      none_done = omega arith
