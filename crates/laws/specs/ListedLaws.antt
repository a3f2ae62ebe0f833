-- Entries of P listed from polynomials: they stand for the polynomials, are within their sizes, and end in a coefficient other than 0.
--   get_or_trimmed, length_trimmed, trimmed_last           a list without the zeros at its end
--   listed_coefficient, listed_range                     the coefficients of a polynomial as an entry
--   list_matrix_entry_length, list_matrix_valid, list_matrix_entries       a matrix of them
use Rattle.std.specs.Prelude.{◌≡◌, refl, ◌≢◌, Bool, true, false, cond, ℕ, zero, suc, pred, ◌≤◌, ◌<◌, eqb}
use Rattle.std.proofs.Math.Path.{sym, ap, subst}
use Rattle.std.proofs.Common.{◌∙◌, zero-le, suc-le-suc, le_refl, lt_of_not-le, arith}
use mathlib.Core.List.{List, [], ◌∷◌}
use Rattle.std.proofs.Math.Nat.{le_trans}
use Rattle.std.proofs.Math.Decide.{dec_le}
use Rattle.std.proofs.Math.ListN.{length, get_or, get_or-eq_default}
use Rattle.algebra.specs.Residue.{K, Residue, red, red_onto, residue_below}
use Rattle.algebra.specs.Series.{series_ext}
use Rattle.algebra.proofs.Series.{Series}
use Rattle.algebra.specs.Polynomial.{Below}
use Rattle.algebra.specs.Matrix.{Matrix, Same}
use Rattle.algebra.proofs.PolyMatrix.{entries}
use Rattle.rules.specs.Sizes.{most_length}
use Rattle.rules.specs.Claim.{Problem}
use Rattle.rules.specs.Matrices.{at, matrix_P}
use Rattle.laws.specs.Valid.{ValidBasis}
use Rattle.rules.specs.Table.{table}
use Rattle.rules.specs.Maker.{trimmed, listed, list_matrix}
use Rattle.laws.specs.BoolLaws.{eqb_iff, false_iff}
use Rattle.rules.specs.Table.{length_table, get_or_table, table_all}

-- One more member in front of a list without zeros at its end.
abbrev in_front : ℕ → List ℕ → List ℕ
in_front x t = elim t [ [] ↦ cond (eqb x 0) [] (x ∷ []) | y ∷ r ↦ x ∷ y ∷ r ]

in_front_get_or : (x : ℕ) (t : List ℕ) (k : ℕ) → get_or (in_front x t) k 0 ≡ get_or (x ∷ t) k 0
in_front_get_or x (y ∷ r) k = refl
in_front_get_or x [] k = by (eqb x 0) refl k
  where
    by : (b : Bool) → eqb x 0 ≡ b → (k : ℕ) → get_or (cond b [] (x ∷ [])) k 0 ≡ get_or (x ∷ []) k 0
    by true e zero = sym ((eqb_iff x 0).0 e)
    by true e (suc k) = refl
    by false e k = refl

in_front_length : (x : ℕ) (t : List ℕ) → length (in_front x t) ≤ suc (length t)
in_front_length x (y ∷ r) = le_refl _
in_front_length x [] = by (eqb x 0)
  where
    by : (b : Bool) → length (cond b [] (x ∷ [])) ≤ 1
    by true = zero-le
    by false = le_refl 1

-- A list ends in a number other than 0, or is empty.
abbrev LastNonzero : List ℕ → Type 0
LastNonzero l = 0 < length l → get_or l (pred (length l)) 0 ≢ 0

in_front_last : (x : ℕ) (t : List ℕ) → LastNonzero t → LastNonzero (in_front x t)
in_front_last x (y ∷ r) last = λ h. last (suc-le-suc zero-le)
in_front_last x [] last = by (eqb x 0) refl
  where
    by : (b : Bool) → eqb x 0 ≡ b → LastNonzero (cond b [] (x ∷ []))
    by true e h = absurd (omega arith)
    by false e h = λ z. (false_iff (eqb x 0)).0 e ((eqb_iff x 0).1 z)

-- The zeros at the end of a list do not count, …
pub get_or_trimmed : (l : List ℕ) (k : ℕ) → get_or (trimmed l) k 0 ≡ get_or l k 0
unfolding trimmed
get_or_trimmed [] k = refl
get_or_trimmed (x ∷ l) zero = in_front_get_or x (trimmed l) zero
get_or_trimmed (x ∷ l) (suc k) = in_front_get_or x (trimmed l) (suc k) ∙ get_or_trimmed l k

-- … it gets no longer without them, …
pub length_trimmed : (l : List ℕ) → length (trimmed l) ≤ length l
unfolding trimmed
length_trimmed [] = zero-le
length_trimmed (x ∷ l) = le_trans (in_front_length x (trimmed l)) (suc-le-suc (length_trimmed l))

-- … and then ends in a number other than 0.
pub trimmed_last : (l : List ℕ) → 0 < length (trimmed l) → get_or (trimmed l) (pred (length (trimmed l))) 0 ≢ 0
unfolding trimmed
trimmed_last [] h = absurd (omega arith)
trimmed_last (x ∷ l) h = in_front_last x (trimmed l) (trimmed_last l) h

module _ (p : ℕ) (positive : 0 < p) (n : ℕ) (f : ℕ → Residue p) where
  -- An entry stands for the polynomial, …
  pub listed_coefficient : Below (K p) n f → (k : ℕ) → red p (get_or (listed p n f) k 0) ≡ f k
  unfolding listed
  listed_coefficient below k =
      ap (red p) (get_or_trimmed (table n (λ k. (f k).0)) k)
      ∙ elim (dec_le n k) [
        | yes le ↦
            ap (red p) (get_or-eq_default (table n (λ k. (f k).0)) 0 (subst (λ x. x ≤ k) (sym (length_table n (λ k. (f k).0))) le)) ∙ sym (below k le)
        | no gt ↦ ap (red p) (get_or_table n (λ k. (f k).0) 0 k (lt_of_not-le gt)) ∙ red_onto p (f k)
      ]

  -- … has at most n coefficients, …
  listed_length : length (listed p n f) ≤ n
  unfolding listed
  listed_length = subst (λ x. length (listed p n f) ≤ x) (length_table n (λ k. (f k).0)) (length_trimmed (table n (λ k. (f k).0)))

  -- … numbers of K, …
  pub listed_range : (k : ℕ) → get_or (listed p n f) k 0 < p
  unfolding listed
  listed_range k =
      subst (λ x. x < p) (sym (get_or_trimmed (table n (λ k. (f k).0)) k))
      (table_all n (λ k. (f k).0) 0 (λ x. x < p) positive (λ k. residue_below p positive (f k)) k)

  -- … and the last is not 0.
  listed_last : LastNonzero (listed p n f)
  unfolding listed
  listed_last = trimmed_last (table n (λ k. (f k).0))

module _ (b : Problem) (positive : 0 < b.p) (n : ℕ) (M : Matrix (Series (K b.p))) where
  -- What holds of no coefficients and of every entry that is listed holds of every entry that is looked up.
  every_entry : (Q : List ℕ → Type 0) → Q [] → ((i j : ℕ) → Q (listed b.p n (M i j))) → (i j : ℕ) → Q (at (list_matrix b.p b.m n M) i j)
  unfolding list_matrix
  every_entry Q empty each i j =
      table_all b.m (λ i. table b.m (λ j. listed b.p n (M i j))) [] (λ row. Q (get_or row j [])) empty
      (λ i. table_all b.m (λ j. listed b.p n (M i j)) [] Q empty (each i) j) i

  entry_is : (i j : ℕ) → i < b.m → j < b.m → at (list_matrix b.p b.m n M) i j ≡ listed b.p n (M i j)
  unfolding list_matrix
  entry_is i j hi hj =
      ap (λ row. get_or row j []) (get_or_table b.m (λ i. table b.m (λ j. listed b.p n (M i j))) [] i hi)
      ∙ get_or_table b.m (λ j. listed b.p n (M i j)) [] j hj

  -- An entry of the matrix has at most n coefficients, …
  pub list_matrix_entry_length : (i j : ℕ) → length (at (list_matrix b.p b.m n M) i j) ≤ n
  list_matrix_entry_length = every_entry (λ l. length l ≤ n) zero-le (λ i j. listed_length b.p positive n (M i j))

  -- … so that it is within its sizes, …
  pub list_matrix_valid : n ≤ most_length → ValidBasis b (list_matrix b.p b.m n M)
  unfolding list_matrix
  list_matrix_valid small = record {
    P_length = length_table b.m _;
    P_row_length = λ i hi. ap length (get_or_table b.m _ [] i hi) ∙ length_table b.m _;
    P_entry_length = λ i j. le_trans (list_matrix_entry_length i j) small;
    P_range = λ i j k. every_entry (λ l. get_or l k 0 < b.p) positive (λ i j. listed_range b.p positive n (M i j) k) i j;
    P_last = every_entry LastNonzero (λ h. absurd (omega arith)) (λ i j. listed_last b.p positive n (M i j));
  }

  -- … and it stands for M, where M has no more coefficients.
  pub list_matrix_entries : ((i j : ℕ) → i < b.m → j < b.m → Below (K b.p) n (M i j))
      → Same (Series (K b.p)) b.m b.m M (entries (K b.p) (matrix_P b (list_matrix b.p b.m n M)))
  list_matrix_entries below i j hi hj =
      sym (series_ext (K b.p) (λ k. ap (λ l. red b.p (get_or l k 0)) (entry_is i j hi hj) ∙ listed_coefficient b.p positive n (M i j)
      (below i j hi hj) k))
