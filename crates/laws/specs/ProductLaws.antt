-- What conditions 3 and 4 say: the faults of a product, and the rank of [P(0) C].
--   low_fault_iff, no_low_fault_iff, order_fault_iff, no_order_fault_iff      condition 3 at one place
--   some_constants_iff, combined_to_zero_iff, rank_below_iff                 condition 4
use Rattle.std.specs.Prelude.{◌≡◌, ◌≢◌, ◌↔◌, Bool, true, false, List, [], get_or}
use Rattle.std.proofs.Math.Path.{refl}
use Rattle.std.proofs.Common.{sym, ap, subst, ◌∙◌, le_of_suc-le-suc, not-suc-le-zero, mod-eq_of_lt}
use Rattle.std.proofs.Math.Logic.Iff
use Rattle.std.proofs.Math.Bool.{not}
use Rattle.std.proofs.lemmas.Bool.{false≢true}
use Prim.Native.Nat.{ℕ, zero, suc, ◌+◌, ◌<◌}
use Rattle.algebra.specs.Residue.{K, Residue, red, residue_ext, residue_below, red_onto, red_value}
use Rattle.algebra.specs.Matrix.{Row, Matrix, SameRow, cons, cons_eta, vmul, vmul_cong}
use Rattle.algebra.specs.Dependence.{NotAllZero, Combines, Dependent}
use Rattle.rules.specs.Claim.{Problem}
use Rattle.rules.specs.Matrices.{order, product, matrix_C}
use Rattle.rules.specs.Conditions.{is_zero, some_below, low_fault, order_fault, some_constants, combined_to_zero, rank_matrix, rank_below}
use Rattle.laws.specs.BoolLaws.{false_iff, not_iff, not_false_iff, eqb_iff}
use Rattle.laws.specs.SearchLaws.{is_zero_iff, some_below_iff, some_below_false_iff}

-- CONDITION 3

nonzero_iff : (p : ℕ) (x : Residue p) → (not (is_zero p x) ≡ true) ↔ (x ≢ (K p).𝟘)
nonzero_iff p x = Iff.trans (not_iff (is_zero p x)) (Iff.not (is_zero_iff p x))

zero_iff : (p : ℕ) (x : Residue p) → (not (is_zero p x) ≡ false) ↔ (x ≡ (K p).𝟘)
zero_iff p x = Iff.trans (not_false_iff (is_zero p x)) (is_zero_iff p x)

module _ (b : Problem) (P : List (List (List ℕ))) (i j : ℕ) where
  -- Some coefficient below the order is not 0 …
  pub low_fault_iff : (low_fault b P i j ≡ true) ↔ ((k : ℕ) × (k < order b j) × (product b P i j k ≢ (K b.p).𝟘))
  unfolding low_fault
  low_fault_iff = (
    λ e.
        let (k, h, f) = (some_below_iff (order b j) (λ k. not (is_zero b.p (product b P i j k)))).0 e in
        (k, h, (nonzero_iff b.p (product b P i j k)).0 f),
    λ (k, h, ne). (some_below_iff (order b j) (λ k. not (is_zero b.p (product b P i j k)))).1 (k, h, (nonzero_iff b.p (product b P i j k)).1 ne),
  )

  -- … or all of them are.
  pub no_low_fault_iff : (low_fault b P i j ≡ false) ↔ ((k : ℕ) → k < order b j → product b P i j k ≡ (K b.p).𝟘)
  unfolding low_fault
  no_low_fault_iff = (
    λ e k h. (zero_iff b.p (product b P i j k)).0 ((some_below_false_iff (order b j) (λ k. not (is_zero b.p (product b P i j k)))).0 e k h),
    λ zeros. (some_below_false_iff (order b j) (λ k. not (is_zero b.p (product b P i j k)))).1 (λ k h. (zero_iff b.p (product b P i j k)).1 (zeros k h)),
  )

  -- The coefficient at the order differs from C's number …
  pub order_fault_iff : (C : List (List ℕ)) → (order_fault b P C i j ≡ true) ↔ ((product b P i j (order b j)).0 ≢ get_or (get_or C i []) j 0)
  unfolding order_fault
  order_fault_iff C = Iff.trans (not_iff _) (Iff.not (eqb_iff (product b P i j (order b j)).0 (get_or (get_or C i []) j 0)))

  -- … or is that number.
  pub no_order_fault_iff : (C : List (List ℕ)) → (order_fault b P C i j ≡ false) ↔ ((product b P i j (order b j)).0 ≡ get_or (get_or C i []) j 0)
  unfolding order_fault
  no_order_fault_iff C = Iff.trans (not_false_iff _) (eqb_iff (product b P i j (order b j)).0 (get_or (get_or C i []) j 0))

  -- Where C's number is below p, it is that number of K.
  pub order_value_iff : (C : List (List ℕ)) → 0 < b.p → get_or (get_or C i []) j 0 < b.p
      → ((product b P i j (order b j)).0 ≡ get_or (get_or C i []) j 0) ↔ (product b P i j (order b j) ≡ matrix_C b C i j)
  order_value_iff C h range = (λ e. residue_ext b.p (e ∙ sym own), λ e. ap (λ x. x.0) e ∙ own)
    where
      own : (red b.p (get_or (get_or C i []) j 0)).0 ≡ get_or (get_or C i []) j 0
      own = red_value b.p h (get_or (get_or C i []) j 0) ∙ mod-eq_of_lt range

-- CONDITION 4

module _ (p : ℕ) where
  same_cons : (m : ℕ) (x : Residue p) (v w : Row (K p)) → SameRow (K p) m v w → SameRow (K p) (suc m) (cons x v) (cons x w)
  unfolding cons
  same_cons m x v w same zero h = refl
  same_cons m x v w same (suc j) h = same j (le_of_suc-le-suc h)

  some_constants_found : (m : ℕ) (test : Row (K p) → Bool) → some_constants p m test ≡ true → (u : Row (K p)) × (test u ≡ true)
  unfolding some_constants
  some_constants_found zero test e = ((λ i. red p 0), e)
  some_constants_found (suc m) test e =
      let (x, h, f) = (some_below_iff p (λ x. some_constants p m (λ u. test (cons (red p x) u)))).0 e in
      let (u, t) = some_constants_found m (λ u. test (cons (red p x) u)) f in
      (cons (red p x) u, t)

  some_constants_at : 0 < p → (m : ℕ) (test : Row (K p) → Bool) → ((u v : Row (K p)) → SameRow (K p) m u v → test u ≡ true → test v ≡ true)
      → (u : Row (K p)) → test u ≡ true → some_constants p m test ≡ true
  unfolding some_constants
  some_constants_at pos zero test local u t = local u (λ i. red p 0) (λ j h. absurd (not-suc-le-zero h)) t
  some_constants_at pos (suc m) test local u t =
      (some_below_iff p (λ x. some_constants p m (λ u. test (cons (red p x) u)))).1 (
        (u zero).0,
        residue_below p pos (u zero),
        some_constants_at pos m (λ v. test (cons (red p (u zero).0) v)) (λ v w same. local _ _ (same_cons m (red p (u zero).0) v w same)) (λ i. u (suc i))
            (subst (λ w. test w ≡ true) (sym (ap (λ x. cons x (λ i. u (suc i))) (red_onto p (u zero)) ∙ cons_eta u)) t),
      )

  -- Where a test looks at the first m entries alone, the search through all constants finds some that pass, if there are any.
  pub some_constants_iff : 0 < p → (m : ℕ) (test : Row (K p) → Bool) → ((u v : Row (K p)) → SameRow (K p) m u v → test u ≡ true → test v ≡ true)
      → (some_constants p m test ≡ true) ↔ ((u : Row (K p)) × (test u ≡ true))
  some_constants_iff pos m test local = (some_constants_found m test, λ (u, t). some_constants_at pos m test local u t)

  both_iff : (x y : Bool) → (elim x as (λ z. Bool) [ true ↦ not y | false ↦ false ] ≡ true) ↔ ((x ≡ true) × (y ≡ false))
  both_iff true y = (λ e. (refl, (false_iff y).1 ((not_iff y).0 e)), λ (e, f). (not_iff y).1 ((false_iff y).0 f))
  both_iff false y = (λ e. absurd (false≢true e), λ (e, f). absurd (false≢true e))

  -- The constants u are not all 0 and combine the rows to zero.
  pub combined_to_zero_iff : (m n : ℕ) (A : Matrix (K p)) (u : Row (K p))
      → (combined_to_zero p m n A u ≡ true) ↔ (NotAllZero (K p) m u × Combines (K p) m n A u)
  unfolding combined_to_zero
  combined_to_zero_iff m n A u = (
    λ e.
        let (found, clear) = (both_iff (some_below m (λ i. not (is_zero p (u i)))) (some_below n (λ j. not (is_zero p (vmul (K p) m u A j))))).0 e in
        let (i, h, f) = (some_below_iff m (λ i. not (is_zero p (u i)))).0 found in (
          (i, h, (nonzero_iff p (u i)).0 f),
          λ j h. (zero_iff p (vmul (K p) m u A j)).0 ((some_below_false_iff n (λ j. not (is_zero p (vmul (K p) m u A j)))).0 clear j h),
        ),
    λ ((i, h, ne), zeros).
        (both_iff (some_below m (λ i. not (is_zero p (u i)))) (some_below n (λ j. not (is_zero p (vmul (K p) m u A j))))).1 (
          (some_below_iff m (λ i. not (is_zero p (u i)))).1 (i, h, (nonzero_iff p (u i)).1 ne),
          (some_below_false_iff n (λ j. not (is_zero p (vmul (K p) m u A j)))).1 (λ j h. (zero_iff p (vmul (K p) m u A j)).1 (zeros j h)),
        ),
  )

  combined_local : (m n : ℕ) (A : Matrix (K p)) (u v : Row (K p)) → SameRow (K p) m u v
      → combined_to_zero p m n A u ≡ true → combined_to_zero p m n A v ≡ true
  combined_local m n A u v same e =
      let ((i, h, ne), zeros) = (combined_to_zero_iff m n A u).0 e in
      (combined_to_zero_iff m n A v).1 ((i, h, λ z. ne (same i h ∙ z)), λ j b. sym (vmul_cong (K p) m u v A A j same (λ i c. refl)) ∙ zeros j b)

-- Condition 4: the test passes exactly if "some constants, not all 0, combine the rows of [P(0) C] to zero".
pub rank_below_iff : (b : Problem) (P : List (List (List ℕ))) (C : List (List ℕ)) → 0 < b.p
    → (rank_below b P C ≡ true) ↔ Dependent (K b.p) b.m (b.m + b.n) (rank_matrix b P C)
unfolding rank_below Dependent
rank_below_iff b P C positive = (
  λ e. let (u, t) = search.0 e in let (ne, zeros) = (combined_to_zero_iff b.p b.m (b.m + b.n) (rank_matrix b P C) u).0 t in (u, ne, zeros),
  λ (u, ne, zeros). search.1 (u, (combined_to_zero_iff b.p b.m (b.m + b.n) (rank_matrix b P C) u).1 (ne, zeros)),
)
  where
    search : (some_constants b.p b.m (combined_to_zero b.p b.m (b.m + b.n) (rank_matrix b P C)) ≡ true)
        ↔ ((u : Row (K b.p)) × (combined_to_zero b.p b.m (b.m + b.n) (rank_matrix b P C) u ≡ true))
    search =
        some_constants_iff b.p positive b.m (combined_to_zero b.p b.m (b.m + b.n) (rank_matrix b P C))
        (combined_local b.p b.m (b.m + b.n) (rank_matrix b P C))
