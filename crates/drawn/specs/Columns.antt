-- The value at the point of one column of the combined rows, cut at the order, less C's column there, as the code makes it by Horner's rule.
--   drawn_constant           C's column, its rows combined by u
--   after_steps x            what the rule has after x steps
--   flat_value, column_value what it has at the end
--   steps_none, step_taken   before the first step, and one step more
--   other_than_zero, flat_zero       a column does not give 0; "every column gives 0"
--   one_column, no_column            what settles it
use Rattle.std.specs.Prelude.{◌≡◌, ◌≢◌, Bool, true, false, List, [], get_or}
use Rattle.std.proofs.Math.Path.{sym, ap, ap₂}
use Rattle.std.proofs.Common.{subst, ◌∙◌, le_of_lt, add-one, arith, eq-eqb, ne_eqb}
use Rattle.std.proofs.Math.Bool.{not}
use Prim.Native.Nat.{ℕ, suc, ◌+◌, ◌-◌, ◌*◌, ◌%◌, ◌≤◌, ◌<◌}
use Rattle.algebra.specs.Ring as Ring
use Rattle.algebra.specs.Residue.{K, Residue, red, red_onto, red_mul, residue_below}
use Rattle.algebra.specs.Sum.{sum, sum_cong}
use Rattle.rules.specs.Sizes.{most_rows, most_order}
use Rattle.rules.specs.Conditions.{is_zero, some_below}
use Rattle.laws.specs.SearchLaws.{some_below_iff, some_below_false_iff}
use Rattle.layout.specs.Flat.{square_place, column_place, column_cell, column_cells, column_cell_at}
use Rattle.claim.specs.declared.Head.{Head}
use Rattle.field.specs.Laws.{red_of_neg}
use Rattle.drawn.specs.Horner.{horner, horner_none, horner_more}
use Rattle.drawn.specs.Sums.{plus_row}
use Rattle.drawn.specs.Values.{combined, value_below, Valued, Table}

-- Where the number of row i stands, from that of row 0: in C, and in a column of F.
pub square_rows : (i j : ℕ) → square_place i j ≡ j + i * most_rows
unfolding square_place most_rows
square_rows i j = omega arith

pub column_rows : (i j k : ℕ) → column_place i j k ≡ column_place 0 j k + i * most_order
unfolding column_place most_rows most_order
column_rows i j k = omega arith

module _ (p m : ℕ) (f entries c u : List ℕ) (point : ℕ) where
  open K p use {𝟘, ◌⊕◌, ◌⊗◌, ⊖◌, mul_comm}

  infixl 60 ◌⊕◌
  infixl 70 ◌⊗◌
  infix 80 ⊖◌
  -- C's column, its rows combined by u.
  unfoldable pub drawn_constant : ℕ → Residue p
  drawn_constant j = sum (K p) m (λ i. red p (get_or u i 0) ⊗ red p (get_or c (square_place i j) 0))

  -- What Horner's rule has after x steps, and at the end, of column j with order d.
  abbrev pub after_steps : (d j x : ℕ) → Residue p
  after_steps d j x = horner (K p) m (red p point) d (λ l. column_cells p f l j) (combined p m u entries) (drawn_constant j) x

  unfoldable pub flat_value : (d j : ℕ) → Residue p
  flat_value d j = after_steps d j d

  -- The rule begins with the negative of C's column.
  pub steps_none : (d j : ℕ) {r s : ℕ} → 0 < p → ((l : ℕ) → l < m → column_cell f l j d ≡ 0) → r ≡ (plus_row p m 0 u c j most_rows).0 → s ≡ (p - r) % p
      → red p s ≡ after_steps d j 0
  unfolding plus_row drawn_constant
  steps_none d j {r} {s} positive ends er es =
      red_of_neg p r s (le_of_lt (subst (λ x. x < p) (sym er) (residue_below p positive (plus_row p m 0 u c j most_rows)))) es
      ∙ ap (λ x. ⊖ x)
      (ap (red p) er
      ∙ red_onto p (plus_row p m 0 u c j most_rows)
      ∙ Ring.zero_add (K p) (sum (K p) m there)
      ∙ sum_cong (K p) m there here same)
      ∙ sym
      (horner_none (K p) m (red p point) d (λ l. column_cells p f l j) (combined p m u entries) (drawn_constant j)
      (λ l h. ap (red p) (ends l h)))
    where
      there : ℕ → Residue p
      there i = red p (get_or u i 0) ⊗ red p (get_or c (j + i * most_rows) 0)

      here : ℕ → Residue p
      here i = red p (get_or u i 0) ⊗ red p (get_or c (square_place i j) 0)

      same : (i : ℕ) → i < m → there i ≡ here i
      same i h = ap (λ k. red p (get_or u i 0) ⊗ red p (get_or c k 0)) (sym (square_rows i j))

  -- A step takes the next lower coefficients of F's column, with the values up to one power more.
  steps_more : (d j x value : ℕ) {next : ℕ} {row : List ℕ} → x < d → d ≤ most_order → red p value ≡ after_steps d j x
      → Valued p m u entries point (suc (suc x)) row → next ≡ (plus_row p m (value * point) row f (column_place 0 j (d - suc x)) most_order).0
      → red p next ≡ after_steps d j (suc x)
  unfolding plus_row
  steps_more d j x value {next} {row} hx hd e values en =
      ap (red p) en
      ∙ red_onto p (plus_row p m (value * point) row f (column_place 0 j (d - suc x)) most_order)
      ∙ ap₂ (λ y z. y ⊕ z) (red_mul p value point ∙ ap (λ y. y ⊗ red p point) e ∙ mul_comm (after_steps d j x) (red p point))
      (sum_cong (K p) m there here same)
      ∙ sym (horner_more (K p) m (red p point) d (λ l. column_cells p f l j) (combined p m u entries) (drawn_constant j) x hx)
    where
      there : ℕ → Residue p
      there l = red p (get_or row l 0) ⊗ red p (get_or f (column_place 0 j (d - suc x) + l * most_order) 0)

      here : ℕ → Residue p
      here l = value_below p m u entries point (suc (suc x)) l ⊗ column_cells p f l j (d - suc x)

      same : (l : ℕ) → l < m → there l ≡ here l
      same l h =
          ap₂ (λ y k. y ⊗ red p k) (values.values_are l h)
          (ap (λ k. get_or f k 0) (sym (column_rows l j (d - suc x))) ∙ sym (column_cell_at f l j (d - suc x) (omega arith)))

  -- The same as the code counts, with the table of the values.
  pub step_taken : (d j x value : ℕ) {next : ℕ} (table : List (List ℕ)) → 0 < p → x < d → d ≤ most_order → red p value ≡ after_steps d j x
      → Table p m u entries point (d + 1) table
      → next ≡ (plus_row p m (value * point) (get_or table (x + 1) []) f (column_place 0 j (d - (x + 1))) most_order).0
      → (next < p) × (red p next ≡ after_steps d j (x + 1))
  step_taken d j x value {next} table positive hx hd e values en = (
    subst (λ y. y < p) (sym en) (residue_below p positive (taken (x + 1))),
    subst (λ n. next ≡ (taken n).0 → red p next ≡ after_steps d j n) (sym (add-one x))
        (steps_more d j x value hx hd e (values (suc x) (omega arith))) en,
  )
    where
      taken : ℕ → Residue p
      taken n = plus_row p m (value * point) (get_or table n []) f (column_place 0 j (d - n)) most_order

-- The value of column j, of a claim in arrays.
abbrev pub column_value : (head : Head) → (f entries c u : List ℕ) → ℕ → ℕ → Residue head.p
column_value head f entries c u point j = flat_value head.p head.m f entries c u point (get_or head.orders j 0) j

-- "every column gives 0": column j does not.
abbrev pub other_than_zero : Head → (f entries c u : List ℕ) → ℕ → ℕ → Bool
other_than_zero head f entries c u point j = not (is_zero head.p (column_value head f entries c u point j))

unfoldable pub flat_zero : Head → (f entries c u : List ℕ) → ℕ → Bool
flat_zero head f entries c u point = not (some_below head.n (other_than_zero head f entries c u point))

module _ (head : Head) (f entries c u : List ℕ) (point : ℕ) where
  -- What a column's value tells of the test.
  module _ (j r : ℕ) (e : r ≡ (column_value head f entries c u point j).0) where
    pub column_zero : r ≡ 0 → other_than_zero head f entries c u point j ≡ false
    column_zero z = ap not (eq-eqb (column_value head f entries c u point j).0 0 (sym e ∙ z))

    pub column_other : r ≢ 0 → other_than_zero head f entries c u point j ≡ true
    column_other n = ap not (ne_eqb (column_value head f entries c u point j).0 0 (λ z. n (e ∙ z)))

  -- One column that does not give 0 settles it, …
  pub one_column : (j : ℕ) → j < head.n → other_than_zero head f entries c u point j ≡ true → false ≡ flat_zero head f entries c u point
  unfolding flat_zero
  one_column j h other = sym (ap not ((some_below_iff head.n (other_than_zero head f entries c u point)).1 (j, h, other)))

  -- … or all of them do.
  pub no_column : ((j : ℕ) → j < head.n → other_than_zero head f entries c u point j ≡ false) → true ≡ flat_zero head f entries c u point
  unfolding flat_zero
  no_column zeros = sym (ap not ((some_below_false_iff head.n (other_than_zero head f entries c u point)).1 zeros))
