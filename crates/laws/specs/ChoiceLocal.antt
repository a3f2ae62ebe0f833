-- What a step of the maker chooses depends on the degrees of its rows, and on which combinations of residuals there are, alone. So it is the
-- choice by a matrix that is 0 in every column that is not active.
--   next_row_cong, take_rows_cong      the row taken next, and all rows
--   depends_zeroed           the combinations, where the other columns are 0
use Rattle.std.proofs.Math.Path.{◌≡◌, refl, ap, fun_ext}
use Rattle.std.proofs.Common.{sym, ap₂, ◌∙◌, lt_of_lt_of_le}
use Rattle.std.specs.Prelude.{Bool, false, cond, not, ℤ}
use Rattle.std.proofs.Math.Bool.{true}
use Rattle.std.specs.Prelude.{Option, None, Some}
use Prim.Native.Nat.{ℕ, zero, suc, ◌≤◌, ◌<◌}
use Rattle.std.proofs.Math.Decide.{dec_lt}
use Rattle.std.specs.Int.Signed.{le_z}
use Rattle.algebra.specs.Residue.{K}
use Rattle.algebra.specs.Sum.{replace}
use Rattle.algebra.specs.Matrix.{Row, Matrix, vmul, vmul_cong}
use Rattle.algebra.proofs.StepRank.{vmul_zeros}
use Rattle.rules.specs.Maker.{lower_left, next_row, find_constants, depends, Chosen, take_row, take_rows}
use Rattle.laws.specs.SearchLaws.{some_below_cong, first_below_cong}
use Rattle.laws.specs.FindLaws.{depends_iff}
use Rattle.laws.specs.RowOrder.{next_row_some}

-- The row taken next.
pub next_row_cong : (m : ℕ) (degree degree' : ℕ → ℤ) (taken taken' : ℕ → Bool) → ((i : ℕ) → i < m → degree i ≡ degree' i)
    → ((i : ℕ) → i < m → taken i ≡ taken' i) → next_row m degree taken ≡ next_row m degree' taken'
unfolding next_row lower_left
next_row_cong m degree degree' taken taken' hd ht =
    first_below_cong m _ _ (λ i hi. ap₂ (λ t l. cond t false (not l)) (ht i hi)
    (some_below_cong m (λ k. cond (taken k) false (not (le_z (degree i) (degree k)))) (λ k. cond (taken' k) false (not (le_z (degree' i) (degree' k))))
    (λ k hk. ap₂ (λ t l. cond t false (not l)) (ht k hk) (ap₂ le_z (hd i hi) (hd k hk)))))

module _ (p m n n' : ℕ) (active active' : ℕ → Bool) (A A' : Matrix (K p))
    (same : (pivot : ℕ → Bool) (i : ℕ) → i < m → (u : Row (K p)) → depends p m n active A pivot i u ≡ depends p m n' active' A' pivot i u) where
  take_row_cong : (i : ℕ) → i < m → (c : Chosen p) → take_row p m n active A i c ≡ take_row p m n' active' A' i c
  unfolding take_row
  take_row_cong i hi c =
      ap {B = Chosen p}
      (λ test. elim (find_constants p m test) [
        | Some u ↦ record { taken = replace i true c.taken; pivot = c.pivot; multipliers = replace i u c.multipliers }
        | None ↦ record { taken = replace i true c.taken; pivot = replace i true c.pivot; multipliers = c.multipliers }
      ])
      (fun_ext (same c.pivot i hi))

  -- All rows.
  pub take_rows_cong : (degree degree' : ℕ → ℤ) → ((i : ℕ) → i < m → degree i ≡ degree' i) → (count : ℕ) (c : Chosen p)
      → take_rows p m n active degree A count c ≡ take_rows p m n' active' degree' A' count c
  unfolding take_rows
  take_rows_cong degree degree' hd zero c = refl
  take_rows_cong degree degree' hd (suc count) c =
      by (next_row m degree c.taken) (next_row m degree' c.taken) (next_row_cong m degree degree' c.taken c.taken hd (λ i hi. refl)) refl
      (λ d. take_rows_cong degree degree' hd count d)
    where
      by : (o o' : Option ℕ) → o ≡ o' → next_row m degree c.taken ≡ o
          → ((d : Chosen p) → take_rows p m n active degree A count d ≡ take_rows p m n' active' degree' A' count d)
          → ◌≡◌ {A = Chosen p} (elim o [ None ↦ c | Some i ↦ take_rows p m n active degree A count (take_row p m n active A i c) ])
          (elim o' [ None ↦ c | Some i ↦ take_rows p m n' active' degree' A' count (take_row p m n' active' A' i c) ])
      by None o' e first next =
          ap {B = Chosen p} (λ o. elim o [ None ↦ c | Some i ↦ take_rows p m n' active' degree' A' count (take_row p m n' active' A' i c) ]) e
      by (Some i) o' e first next =
          next (take_row p m n active A i c)
          ∙ ap (take_rows p m n' active' degree' A' count) (take_row_cong i (next_row_some degree c.taken m i first).0 c)
          ∙ ap {B = Chosen p} (λ o. elim o [ None ↦ c | Some i ↦ take_rows p m n' active' degree' A' count (take_row p m n' active' A' i c) ]) e

-- Two tests are the same where each passes if the other does.
same_test : (a b : Bool) → (a ≡ true → b ≡ true) → (b ≡ true → a ≡ true) → a ≡ b
same_test true b f g = sym (f refl)
same_test false true f g = g refl
same_test false false f g = refl

-- Z is A in the active columns, and 0 in the others.
module _ (p m n n' : ℕ) (more : n ≤ n') (active : ℕ → Bool) (A Z : Matrix (K p))
    (kept : (i j : ℕ) → i < m → j < n → active j ≡ true → Z i j ≡ A i j)
    (gone : (i j : ℕ) → i < m → j < n' → (j < n → active j ≡ false) → Z i j ≡ (K p).𝟘) where
  open K p use {𝟘, ◌⊕◌, ⊖◌, add_neg}

  infixl 60 ◌⊕◌
  infix 80 ⊖◌
  pub depends_zeroed : (pivot : ℕ → Bool) (i : ℕ) → i < m → (u : Row (K p)) → depends p m n active A pivot i u ≡ depends p m n' (λ j. true) Z pivot i u
  depends_zeroed pivot i hi u =
      same_test (depends p m n active A pivot i u) (depends p m n' (λ j. true) Z pivot i u)
      (λ e.
      let (others, columns) = (depends_iff p m n active A pivot i u).0 e in
      (depends_iff p m n' (λ j. true) Z pivot i u).1 (others, λ j hj t. in_columns j hj (columns j)))
      (λ e.
      let (others, columns) = (depends_iff p m n' (λ j. true) Z pivot i u).0 e in
      (depends_iff p m n active A pivot i u).1 (others, λ j hj t. sym (agree j hj t) ∙ columns j (lt_of_lt_of_le hj more) refl))
    where
      rest : Matrix (K p) → ℕ → (K p).C
      rest M j = M i j ⊕ ⊖ vmul (K p) m u M j

      agree : (j : ℕ) → j < n → active j ≡ true → rest Z j ≡ rest A j
      agree j hj t = ap₂ (λ x y. x ⊕ ⊖ y) (kept i j hi hj t) (vmul_cong (K p) m u u Z A j (λ q hq. refl) (λ q hq. kept q j hq hj t))

      zeroed : (j : ℕ) → j < n' → (j < n → active j ≡ false) → rest Z j ≡ 𝟘
      zeroed j hj off =
          ap₂ (λ x y. x ⊕ ⊖ y) (gone i j hi hj off) (vmul_zeros (K p) m u Z j (λ q hq. gone q j hq hj off)) ∙ add_neg 𝟘

      in_columns : (j : ℕ) → j < n' → (j < n → active j ≡ true → rest A j ≡ 𝟘) → rest Z j ≡ 𝟘
      in_columns j hj columns = elim (dec_lt j n) [
        | yes h ↦ by (active j) refl h
        | no nh ↦ zeroed j hj (λ h. absurd (nh h))
      ]
        where
          by : (t : Bool) → active j ≡ t → j < n → rest Z j ≡ 𝟘
          by true t h = agree j h t ∙ columns h t
          by false t h = zeroed j hj (λ _. t)
