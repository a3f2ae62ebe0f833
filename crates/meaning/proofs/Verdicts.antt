-- What each verdict on a claim says, and that it is given exactly if what it says holds: so that the verdicts exclude each other and one
-- always applies.
--   judge_claim_meaning                                      it is given exactly if that holds
--   one_applies, verdicts_exclusive                          one holds, and no two
use Rattle.std.specs.Prelude.{◌≡◌, refl, ◌↔◌, Bool, true, false, cond, ℕ, ◌+◌, ◌<◌, pos}
use Rattle.std.proofs.Common.{sym, ap, subst, ◌∙◌}
use Rattle.std.proofs.Math.Logic.Iff
use Rattle.std.specs.Prelude.{Option, None, Some}
use Rattle.algebra.specs.Residue.{red, red_value, red_zero_iff, K_decides}
use Rattle.algebra.specs.Matrix.{mmul}
use Rattle.algebra.specs.Dependence.{independent_not_dependent, not_dependent_independent}
use Rattle.rules.specs.Claim.{Claim}
use Rattle.rules.specs.Matrices.{order, at, product}
use Rattle.rules.specs.Conditions.{reduced, monomial_determinant, degree_sum, low_fault, order_fault, first_place}
use Rattle.rules.specs.Conditions.{rank_below}
use Rattle.rules.specs.Verdict.{Verdict, passed, unread, not_reduced, not_monomial, below_order, at_order, low_rank, pass_with, judge_claim}
use Rattle.rules.specs.Verdict.{by_product, by_rank}
use Rattle.laws.specs.BoolLaws.{false_iff}
use Rattle.laws.specs.SearchLaws.{first_place_none, first_place_some}
use Rattle.laws.specs.ReducedLaws.{reduced_iff}
use Rattle.laws.specs.DeterminantLaws.{monomial_determinant_iff, degree_sum_exponent}
use Rattle.laws.specs.ProductLaws.{low_fault_iff, order_fault_iff, rank_below_iff}
use Rattle.meaning.specs.Plain.{row_times_column, row_P, column_F}
use Rattle.meaning.proofs.Bridge.{red_row_times_column}
use Rattle.meaning.specs.Generating.{field_of}
use Rattle.meaning.specs.Verdicts.{Reduced, SomeMonomial, product_number, LowFault, OrderFault, FirstAt, Nowhere, rank_of, LowRank, FullRank, Says}

-- THE TESTS AS STATEMENTS

module _ (m n : ℕ) (fault : ℕ → ℕ → Bool) (Fault : ℕ → ℕ → Type 0) (test : (i j : ℕ) → (fault i j ≡ true) ↔ Fault i j) where
  fails : (i j : ℕ) → (fault i j ≡ false) ↔ (¬ Fault i j)
  fails i j = Iff.trans (false_iff (fault i j)) (Iff.not (test i j))

  nowhere_iff : (first_place m n fault ≡ None) ↔ Nowhere m n Fault
  nowhere_iff = (
    λ e i j hi hj. (fails i j).0 ((first_place_none m n fault).0 e i j hi hj),
    λ h. (first_place_none m n fault).1 (λ i j hi hj. (fails i j).1 (h i j hi hj)),
  )

  first_at_iff : (i j : ℕ) → (first_place m n fault ≡ Some (i, j)) ↔ FirstAt m n Fault i j
  first_at_iff i j = (
    λ e. let f = (first_place_some m n fault i j).0 e in
        record {
          row = f.row;
          column = f.column;
          fault = (test i j).0 f.faulty;
          rows_before = λ a b ha hb. (fails a b).0 (f.rows_before a b ha hb);
          columns_before = λ b hb. (fails i b).0 (f.columns_before b hb);
        },
    λ f. (first_place_some m n fault i j).1 (
        record {
          row = f.row;
          column = f.column;
          faulty = (test i j).1 f.fault;
          rows_before = λ a b ha hb. (fails a b).1 (f.rows_before a b ha hb);
          columns_before = λ b hb. (fails i b).1 (f.columns_before b hb);
        }),
  )

module _ (c : Claim) (positive : 0 < c.problem.p) where
  -- The coefficient of P·F, in K.
  pub red_product : (i j k : ℕ)
      → red c.problem.p (row_times_column c.problem.m (row_P c i) (column_F c j) k) ≡ product c.problem c.answer.P i j k
  unfolding product mmul
  red_product i j k = red_row_times_column c.problem.p c.problem.m (row_P c i) (λ i j. at c.problem.F j i) j k

  -- Its number is the coefficient modulo p.
  pub product_value : (i j k : ℕ) → (product c.problem c.answer.P i j k).0 ≡ product_number c i j k
  product_value i j k = ap (λ x. x.0) (sym (red_product i j k)) ∙ red_value c.problem.p positive _

  product_zero_iff : (i j k : ℕ) → (product c.problem c.answer.P i j k ≡ (field_of c).𝟘) ↔ (product_number c i j k ≡ 0)
  product_zero_iff i j k = (
    λ e. (red_zero_iff c.problem.p positive _).0 (red_product i j k ∙ e),
    λ e. sym (red_product i j k) ∙ (red_zero_iff c.problem.p positive _).1 e,
  )

  low_iff : (i j : ℕ) → (low_fault c.problem c.answer.P i j ≡ true) ↔ LowFault c i j
  low_iff i j = Iff.trans (low_fault_iff c.problem c.answer.P i j) (
    λ (k, h, ne). (k, h, λ e. ne ((product_zero_iff i j k).1 e)),
    λ (k, h, ne). (k, h, λ e. ne ((product_zero_iff i j k).0 e)),
  )

  order_iff : (i j : ℕ) → (order_fault c.problem c.answer.P c.answer.C i j ≡ true) ↔ OrderFault c i j
  order_iff i j = Iff.trans (order_fault_iff c.problem c.answer.P i j c.answer.C) (
    λ ne e. ne (product_value i j (order c.problem j) ∙ e),
    λ ne e. ne (sym (product_value i j (order c.problem j)) ∙ e),
  )

  rank_iff : (rank_below c.problem c.answer.P c.answer.C ≡ true) ↔ LowRank c
  rank_iff = rank_below_iff c.problem c.answer.P c.answer.C positive

  full_rank_iff : (rank_below c.problem c.answer.P c.answer.C ≡ false) ↔ FullRank c
  full_rank_iff = Iff.trans (false_iff _) (Iff.trans (Iff.not rank_iff) (
    not_dependent_independent (field_of c) (K_decides c.problem.p) c.problem.m (c.problem.m + c.problem.n) (rank_of c),
    independent_not_dependent (field_of c) c.problem.m (c.problem.m + c.problem.n) (rank_of c),
  ))

  -- THE VERDICT BY THE TESTS

  -- The verdict that the five tests choose.
  abbrev choose : Bool → Bool → Option (ℕ × ℕ) → Option (ℕ × ℕ) → Bool → Verdict
  choose r d l o k =
      elim r [
        | false ↦ not_reduced
        | true ↦
            elim d [
              | false ↦ not_monomial
              | true ↦
                  elim l [
                    | Some place ↦ below_order place.0 place.1
                    | None ↦
                        elim o [
                          | Some place ↦ at_order place.0 place.1
                          | None ↦ cond k low_rank (pass_with (degree_sum c.problem c.answer.P))
                        ]
                  ]
            ]
      ]

  abbrev first_low : Option (ℕ × ℕ)
  first_low = first_place c.problem.m c.problem.n (low_fault c.problem c.answer.P)

  abbrev first_order : Option (ℕ × ℕ)
  first_order = first_place c.problem.m c.problem.n (order_fault c.problem c.answer.P c.answer.C)

  judge_by_tests : {r d k : Bool} {l o : Option (ℕ × ℕ)}
      → reduced c.problem c.answer.P ≡ r
      → monomial_determinant c.problem c.answer.P ≡ d
      → first_low ≡ l
      → first_order ≡ o
      → rank_below c.problem c.answer.P c.answer.C ≡ k
      → judge_claim c ≡ choose r d l o k
  unfolding judge_claim by_product by_rank
  judge_by_tests er ed el eo ek = λ i. choose (er i) (ed i) (el i) (eo i) (ek i)

  reduced_is : (reduced c.problem c.answer.P ≡ true) ↔ Reduced c
  reduced_is = reduced_iff c.problem c.answer.P

  monomial_is : (monomial_determinant c.problem c.answer.P ≡ true) ↔ SomeMonomial c
  monomial_is = monomial_determinant_iff c.problem c.answer.P

  no_low_is : (first_low ≡ None) ↔ Nowhere c.problem.m c.problem.n (LowFault c)
  no_low_is = nowhere_iff c.problem.m c.problem.n (low_fault c.problem c.answer.P) (LowFault c) low_iff

  no_order_is : (first_order ≡ None) ↔ Nowhere c.problem.m c.problem.n (OrderFault c)
  no_order_is = nowhere_iff c.problem.m c.problem.n (order_fault c.problem c.answer.P c.answer.C) (OrderFault c) order_iff

  low_is : (i j : ℕ) → (first_low ≡ Some (i, j)) ↔ FirstAt c.problem.m c.problem.n (LowFault c) i j
  low_is = first_at_iff c.problem.m c.problem.n (low_fault c.problem c.answer.P) (LowFault c) low_iff

  order_is : (i j : ℕ) → (first_order ≡ Some (i, j)) ↔ FirstAt c.problem.m c.problem.n (OrderFault c) i j
  order_is = first_at_iff c.problem.m c.problem.n (order_fault c.problem c.answer.P c.answer.C) (OrderFault c) order_iff

  -- What the tests choose is said truly …
  says_by_tests : (r d : Bool) (l o : Option (ℕ × ℕ)) (k : Bool)
      → reduced c.problem c.answer.P ≡ r
      → monomial_determinant c.problem c.answer.P ≡ d
      → first_low ≡ l
      → first_order ≡ o
      → rank_below c.problem c.answer.P c.answer.C ≡ k
      → Says c (choose r d l o k)
  says_by_tests false d l o k er ed el eo ek = λ h. (false_iff _).0 er (reduced_is.1 h)
  says_by_tests true false l o k er ed el eo ek = (reduced_is.0 er, λ h. (false_iff _).0 ed (monomial_is.1 h))
  says_by_tests true true (Some place) o k er ed el eo ek = (reduced_is.0 er, monomial_is.0 ed, (low_is place.0 place.1).0 el)
  says_by_tests true true None (Some place) k er ed el eo ek =
      (reduced_is.0 er, monomial_is.0 ed, no_low_is.0 el, (order_is place.0 place.1).0 eo)
  says_by_tests true true None None true er ed el eo ek = (reduced_is.0 er, monomial_is.0 ed, no_low_is.0 el, no_order_is.0 eo, rank_iff.0 ek)
  says_by_tests true true None None false er ed el eo ek =
      let (e, ne, others) = monomial_is.0 ed in
      let exponent : degree_sum c.problem c.answer.P ≡ Some (pos e) = degree_sum_exponent c.problem c.answer.P er (e, ne, others) in
      subst (Says c) (sym (ap pass_with exponent))
      (reduced_is.0 er, (ne, others), no_low_is.0 el, no_order_is.0 eo, full_rank_iff.0 ek, exponent)

  -- One always applies: the verdict that is given says what holds …
  pub one_applies : Says c (judge_claim c)
  one_applies = subst (Says c) (sym (judge_by_tests refl refl refl refl refl)) (says_by_tests _ _ _ _ _ refl refl refl refl refl)

  -- … and what holds is given.
  given : (v : Verdict) → Says c v → judge_claim c ≡ v
  given not_reduced h = judge_by_tests ((false_iff _).1 (λ e. h (reduced_is.0 e))) refl refl refl refl
  given not_monomial (r, h) = judge_by_tests (reduced_is.1 r) ((false_iff _).1 (λ e. h (monomial_is.0 e))) refl refl refl
  given (below_order i j) (r, d, f) = judge_by_tests (reduced_is.1 r) (monomial_is.1 d) ((low_is i j).1 f) refl refl
  given (at_order i j) (r, d, l, f) = judge_by_tests (reduced_is.1 r) (monomial_is.1 d) (no_low_is.1 l) ((order_is i j).1 f) refl
  given low_rank (r, d, l, o, k) = judge_by_tests (reduced_is.1 r) (monomial_is.1 d) (no_low_is.1 l) (no_order_is.1 o) (rank_iff.1 k)
  given (passed e) (r, d, l, o, k, exponent) =
      judge_by_tests (reduced_is.1 r) (monomial_is.1 (e, d.0, d.1)) (no_low_is.1 l) (no_order_is.1 o) (full_rank_iff.1 k)
      ∙ ap pass_with exponent
  given (unread q) h = absurd h

  -- A verdict is given exactly if what it says holds.
  pub judge_claim_meaning : (v : Verdict) → (judge_claim c ≡ v) ↔ Says c v
  judge_claim_meaning v = (λ e. subst (Says c) e one_applies, given v)

  -- No two verdicts say what holds.
  pub verdicts_exclusive : (v w : Verdict) → Says c v → Says c w → v ≡ w
  verdicts_exclusive v w hv hw = sym (given v hv) ∙ given w hw
