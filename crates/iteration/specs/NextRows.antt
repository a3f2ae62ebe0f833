-- The coefficients that the code makes of rows are those of the next matrix of the basis iteration.
--   next_coefficient         by what was chosen
use Rattle.std.specs.Prelude.{◌≡◌, Bool, true, cond, List, ℕ, zero, suc, ◌-◌, ◌≤◌, ◌<◌}
use Rattle.std.proofs.Math.Path.{refl, ap, ap₂}
use Rattle.std.proofs.Common.{sym, ◌∙◌, lt_of_lt_of_le, arith, ne_eqb}
use Rattle.std.proofs.Math.Bool.{false}
use Rattle.std.proofs.Math.ListN.{get_or}
use Rattle.algebra.specs.Ring as Ring
use Rattle.algebra.specs.Residue.{K, red, red_zero}
use Rattle.algebra.specs.Series.{shift}
use Rattle.algebra.proofs.Series.{Series}
use Rattle.algebra.specs.Matrix.{Matrix, unit, vmul, vmul_cong, vmul_add, vmul_zero, unit_vmul}
use Rattle.algebra.specs.Clearing.{vmul_neg, Clears, less}
use Rattle.algebra.specs.Step.{once, cleared, next}
use Rattle.rules.specs.Sizes.{most_rows}
use Rattle.rules.specs.Maker.{Chosen}
use Rattle.pivots.specs.Rows.{square_of}
use Rattle.pivots.specs.State.{Chose}
use Rattle.stepping.specs.Next.{coefficient_at, moved, Next}

module _ (p m : ℕ) (rows : m ≤ most_rows) (c : Chosen p) (clears : Clears (K p) m c.pivot c.multipliers) (moves factors : List ℕ)
    (chose : Chose p c moves factors) (old : List ℕ) (M : Matrix (Series (K p))) where
  open K p use {𝟘, ◌⊕◌, ⊖◌, add_zero}

  infixl 60 ◌⊕◌
  infix 80 ⊖◌
  -- A row less the combination, …
  combination_is : (i j t : ℕ) → i < m → ((q : ℕ) → q < m → red p (coefficient_at old q j t) ≡ M q j t)
      → vmul (K p) m (square_of p factors i) (λ q j. red p (coefficient_at old q j t)) j ≡ cleared (K p) m c.multipliers M i j t
  unfolding cleared less
  combination_is i j t hi holds =
      vmul_cong (K p) m (square_of p factors i) (λ q. unit (K p) i q ⊕ ⊖ c.multipliers i q) (λ q j. red p (coefficient_at old q j t)) (λ q j. M q j t) j
      (λ q hq. chose.factors_is i q (lt_of_lt_of_le hi rows) (lt_of_lt_of_le hq rows)) holds
      ∙ vmul_add (K p) m (unit (K p) i) (λ q. ⊖ c.multipliers i q) (λ q j. M q j t) j
      ∙ ap₂ ◌⊕◌ (unit_vmul (K p) m i (λ q j. M q j t) hi j) (vmul_neg (K p) m (c.multipliers i) (λ q j. M q j t) j)

  -- … of a pivot itself.
  pivot_is : (i j t : ℕ) → i < m → c.pivot i ≡ true → cleared (K p) m c.multipliers M i j t ≡ M i j t
  unfolding cleared
  pivot_is i j t hi e =
      ap (λ x. M i j t ⊕ ⊖ x) (vmul_zero (K p) m (c.multipliers i) (λ q j. M q j t) j (λ q hq. clears.pivots_stay i q hi hq e))
      ∙ ap (λ x. M i j t ⊕ x) (Ring.neg_zero (K p))
      ∙ add_zero (M i j t)

  -- The coefficients of the rows before are asked for at the power that counts: t, and for a pivot the one before it.
  pub next_coefficient : (i j t r : ℕ) → i < m
      → (c.pivot i ≡ false → (q : ℕ) → q < m → red p (coefficient_at old q j t) ≡ M q j t)
      → (c.pivot i ≡ true → 0 < t → red p (coefficient_at old i j (t - 1)) ≡ M i j (t - 1))
      → Next p m old moves factors i j t r → red p r ≡ next (K p) m c.pivot c.multipliers M i j t
  unfolding next shift
  next_coefficient i j t r hi here before x = by (c.pivot i) refl
    where
      stays : c.pivot i ≡ false → get_or moves i 0 ≡ 0
      stays e = chose.moves_is i ∙ ap once e

      goes : c.pivot i ≡ true → get_or moves i 0 ≡ 1
      goes e = chose.moves_is i ∙ ap once e

      power : (t : ℕ) → c.pivot i ≡ true → (0 < t → red p (coefficient_at old i j (t - 1)) ≡ M i j (t - 1))
          → red p (moved old i j t) ≡ shift (K p) 1 (cleared (K p) m c.multipliers M i j) t
      power zero e before = red_zero p
      power (suc t) e before =
          ap (λ b. red p (cond b 0 (coefficient_at old i j (suc t - 1)))) (ne_eqb (suc t) 0 (λ z. absurd (omega arith)))
          ∙ before (omega arith)
          ∙ ap (M i j) (omega arith)
          ∙ sym (pivot_is i j t hi e)

      by : (b : Bool) → c.pivot i ≡ b → red p r ≡ shift (K p) (once (c.pivot i)) (cleared (K p) m c.multipliers M i j) t
      by false e =
          x.combined (stays e)
          ∙ combination_is i j t hi (here e)
          ∙ sym (ap (λ b. shift (K p) (once b) (cleared (K p) m c.multipliers M i j) t) e)
      by true e =
          ap (red p) (x.shifted (λ z. absurd (omega (arith, goes e))))
          ∙ power t e (before e)
          ∙ sym (ap (λ b. shift (K p) (once b) (cleared (K p) m c.multipliers M i j) t) e)
