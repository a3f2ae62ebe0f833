-- Elimination on the part of a matrix that is left: the rows from r on, below m, and the columns from c on, below n.
--   corner r c A             the part of A from row r and column c on
--   Rest m n r c A           the rows that are left are dependent, in the columns that are left
--   rest_start, rest_exchange, rest_zero_column, rest_clear    what keeps it, and how the part gets smaller
--   rest_no_rows, rest_no_columns                              how it ends
use Rattle.std.specs.Prelude.{◌≡◌, ◌≢◌, ◌↔◌, [], ◌∷◌}
use Rattle.std.proofs.Math.Path.{refl, ap}
use Rattle.std.proofs.Common.{sym, subst, ◌∙◌, add-zero, zero-add, add-sub_of_le, arith}
use Rattle.std.proofs.Math.Logic.Iff
use Prim.Native.Nat.{ℕ, zero, suc, ◌+◌, ◌-◌, ◌≤◌, ◌<◌}
use Rattle.std.proofs.Math.Nat.{sub-zero}
use Rattle.algebra.specs.Ring.{CommRing, Decides, Cancels, Nontrivial, neg_mul, zero_mul}
use Rattle.algebra.specs.Solver.{v0, v1, v2, ◌⊞◌, ◌⊠◌, ⊟◌, ring}
use Rattle.algebra.specs.Sum.{swap, swap_left, swap_right, swap_other, swap_cases, exchange}
use Rattle.algebra.specs.Matrix.{Row, Matrix, cons}
use Rattle.algebra.specs.Dependence.{Dependent, dependent_local, dependent_exchange, dependent_clear, pivot, zero_column, no_rows, no_columns}

-- Exchanging two numbers goes with adding to all.
swap_shift : (r i k a : ℕ) → r + swap i k a ≡ swap (r + i) (r + k) (r + a)
swap_shift r i k =
    swap_cases i k (λ a b. r + b ≡ swap (r + i) (r + k) (r + a)) (sym (swap_left (r + i) (r + k))) (sym (swap_right (r + i) (r + k)))
    (λ a ni nk. sym (swap_other (r + i) (r + k) (r + a) (λ e. ni (omega arith)) (λ e. nk (omega arith))))

module _ (R : CommRing) where
  open R use {C, 𝟘, 𝟙, ◌⊕◌, ◌⊗◌, ⊖◌, add_neg, mul_one}

  infixl 60 ◌⊕◌
  infixl 70 ◌⊗◌
  infix 80 ⊖◌
  -- The part of a matrix from row r and column c on.
  abbrev pub corner : ℕ → ℕ → Matrix R → Matrix R
  corner r c A i j = A (r + i) (c + j)

  -- The rows from r to m are dependent in the columns from c to n.
  unfoldable pub Rest : ℕ → ℕ → ℕ → ℕ → Matrix R → Type 0
  Rest m n r c A = Dependent R (m - r) (n - c) (corner r c A)

  -- Dependence of equal matrices of equal sizes.
  moved : (m n m' n' : ℕ) (A B : Matrix R) → m ≡ m' → n ≡ n' → ((i j : ℕ) → i < m → j < n → A i j ≡ B i j) → Dependent R m n A → Dependent R m' n' B
  moved m n m' n' A B em en same d = subst (λ x. Dependent R x n' B) em (subst (λ x. Dependent R m x B) en (dependent_local R m n A B same d))

  same_dependent : (m n m' n' : ℕ) (A B : Matrix R) → m ≡ m' → n ≡ n' → ((i j : ℕ) → i < m → j < n → A i j ≡ B i j) → Dependent R m n A ↔ Dependent R m' n' B
  same_dependent m n m' n' A B em en same = (
    moved m n m' n' A B em en same,
    moved m' n' m n B A (sym em) (sym en) (λ i j hi hj. sym (same i j (omega arith) (omega arith))),
  )

  -- At first all is left.
  pub rest_start : (m n : ℕ) (A : Matrix R) → Rest m n 0 0 A ↔ Dependent R m n A
  unfolding Rest
  rest_start m n A = same_dependent (m - 0) (n - 0) m n (corner 0 0 A) A (sub-zero m) (sub-zero n)
      (λ i j hi hj. ap (λ x. A x (0 + j)) (zero-add i) ∙ ap (A i) (zero-add j))

  -- Where no rows are left, they are not dependent …
  pub rest_no_rows : (m n r c : ℕ) (A : Matrix R) → m ≤ r → ¬ Rest m n r c A
  unfolding Rest
  rest_no_rows m n r c A h d = no_rows R (n - c) (corner r c A) (subst (λ x. Dependent R x (n - c) (corner r c A)) (omega arith) d)

  -- … and where rows are left and no columns, they are.
  pub rest_no_columns : Nontrivial R → (m n r c : ℕ) (A : Matrix R) → r < m → n ≤ c → Rest m n r c A
  unfolding Rest
  rest_no_columns nontrivial m n r c A hr hc =
      moved (suc (m - (r + 1))) zero (m - r) (n - c) (corner r c A) (corner r c A) (omega arith) (omega arith) (λ i j hi hj. refl)
      (no_columns R nontrivial (m - (r + 1)) (corner r c A))

  -- A column that is 0 in the rows that are left does not count.
  pub rest_zero_column : (m n r c : ℕ) (A : Matrix R) → c < n → ((i : ℕ) → r ≤ i → i < m → A i c ≡ 𝟘) → Rest m n r c A ↔ Rest m n r (c + 1) A
  unfolding Rest
  rest_zero_column m n r c A h z =
      Iff.trans (same_dependent (m - r) (n - c) (m - r) (suc (n - (c + 1))) (corner r c A) (corner r c A) refl (omega arith) (λ i j hi hj. refl))
      (Iff.trans (zero_column R (m - r) (n - (c + 1)) (corner r c A) (λ i hi. ap (A (r + i)) (add-zero c) ∙ z (r + i) (omega arith) (omega arith)))
      (same_dependent (m - r) (n - (c + 1)) (m - r) (n - (c + 1)) (λ i j. A (r + i) (c + suc j)) (corner r (c + 1) A) refl refl
      (λ i j hi hj. ap (A (r + i)) (omega arith))))

  -- Exchanging the first row that is left with another keeps dependence.
  pub rest_exchange : (m n r c k : ℕ) (A : Matrix R) → r ≤ k → k < m → Rest m n r c A ↔ Rest m n r c (exchange r k A)
  unfolding Rest
  rest_exchange m n r c k A low high =
      Iff.trans (Iff.symm (dependent_exchange R (m - r) (n - c) 0 (k - r) (corner r c A) (omega arith) (omega arith)))
      (same_dependent (m - r) (n - c) (m - r) (n - c) (exchange 0 (k - r) (corner r c A)) (corner r c (exchange r k A)) refl refl
      (λ i j hi hj. ap (λ x. A x (c + j)) (place i)))
    where
      place : (i : ℕ) → r + swap 0 (k - r) i ≡ swap r k (r + i)
      place i = swap_shift r 0 (k - r) i ∙ ap (λ x. swap x (r + (k - r)) (r + i)) (add-zero r) ∙ ap (λ x. swap r x (r + i)) (add-sub_of_le low)

  -- Where row r is taken from each row below it as often as v times the row's entry in column c says, and v inverts the entry of row r
  -- there, column c is 0 below row r, and row r and column c do not count any more.
  pub rest_clear : Decides R → Cancels R → Nontrivial R → (m n r c : ℕ) (A B : Matrix R) (v : C) → r < m → c < n → A r c ⊗ v ≡ 𝟙
      → ((j : ℕ) → B r j ≡ A r j)
      → ((i : ℕ) → i < m → r < i → (j : ℕ) → j < n → c ≤ j → B i j ≡ A i j ⊕ ⊖ (A i c ⊗ v ⊗ A r j))
      → Rest m n r c A ↔ Rest m n (r + 1) (c + 1) B
  unfolding Rest cons
  rest_clear decides cancels nontrivial m n r c A B v hr hc inverse kept rows =
      Iff.trans (same_dependent (m - r) (n - c) (suc m') (suc n') (corner r c A) (cons top below) (omega arith) (omega arith) before)
      (Iff.trans (Iff.symm (dependent_clear R decides m' (suc n') top multiple below))
      (Iff.trans (same_dependent (suc m') (suc n') (suc m') (suc n') (cons top (λ i j. below i j ⊕ multiple i ⊗ top j)) (corner r c B) refl refl after)
      (Iff.trans (pivot R cancels m' n' (corner r c B) first_nonzero below_zero)
      (same_dependent m' n' m' n' (λ i j. B (r + suc i) (c + suc j)) (corner (r + 1) (c + 1) B) refl refl
      (λ i j hi hj. ap (λ x. B x (c + suc j)) (omega arith) ∙ ap (B (r + 1 + i)) (omega arith))))))
    where
      m' : ℕ
      m' = m - (r + 1)

      n' : ℕ
      n' = n - (c + 1)

      top : Row R
      top j = A r (c + j)

      below : Matrix R
      below i j = A (r + suc i) (c + j)

      multiple : Row R
      multiple i = ⊖ (A (r + suc i) c ⊗ v)

      before : (i j : ℕ) → i < m - r → j < n - c → A (r + i) (c + j) ≡ cons top below i j
      before zero j hi hj = ap (λ x. A x (c + j)) (add-zero r)
      before (suc i) j hi hj = refl

      after : (i j : ℕ) → i < suc m' → j < suc n' → cons top (λ i j. below i j ⊕ multiple i ⊗ top j) i j ≡ B (r + i) (c + j)
      after zero j hi hj = sym (ap (λ x. B x (c + j)) (add-zero r) ∙ kept (c + j))
      after (suc i) j hi hj =
          ap (λ x. A (r + suc i) (c + j) ⊕ x) (neg_mul R (A (r + suc i) c ⊗ v) (A r (c + j)))
          ∙ sym (rows (r + suc i) (omega arith) (omega arith) (c + j) (omega arith) (omega arith))

      first_nonzero : B (r + 0) (c + 0) ≢ 𝟘
      first_nonzero e = nontrivial (sym inverse ∙ ap (λ x. x ⊗ v) (sym (kept c) ∙ ap (λ x. B x c) (sym (add-zero r)) ∙ ap (B (r + 0)) (sym (add-zero c)) ∙ e)
          ∙ zero_mul R v)

      below_zero : (i : ℕ) → i < m' → B (r + suc i) (c + 0) ≡ 𝟘
      below_zero i h =
          ap (B (r + suc i)) (add-zero c)
          ∙ rows (r + suc i) (omega arith) (omega arith) c hc (omega arith)
          ∙ ring R (A (r + suc i) c ∷ v ∷ A r c ∷ []) (v0 ⊞ ⊟ (v0 ⊠ v1 ⊠ v2)) (v0 ⊞ ⊟ (v0 ⊠ (v2 ⊠ v1))) refl
          ∙ ap (λ x. A (r + suc i) c ⊕ ⊖ x) (ap (λ x. A (r + suc i) c ⊗ x) inverse ∙ mul_one (A (r + suc i) c))
          ∙ add_neg (A (r + suc i) c)
