-- What the iteration starts from.
--   Unit, unit_start, unit_more        the coefficients of the identity
--   start_number, Copied, copying_start, copying_more, copied_all      those of F, laid out as those of P
--   after_start              the arrays before any step
use Rattle.std.specs.Prelude.{◌≡◌, refl, ◌≢◌, Bool, true, false, List, [], ◌∷◌, ltb, eqb, ℤ, nat_abs, length, get_or, set}
use Rattle.std.proofs.Math.Path.{sym, ap, ap₂}
use Rattle.std.proofs.Common.{subst, ◌∙◌, inl, inr, le_of_lt, lt_of_lt_of_le, arith, below_more, lt-ltb, eq-eqb, ne_eqb, length-set, get_or-set_same, get_or-set_other}
use Rattle.std.proofs.Math.Logic.{by_cases}
use Rattle.std.proofs.Math.Bool.{cond}
use Prim.Native.Nat.{ℕ, zero, suc, ◌+◌, ◌/◌, ◌%◌, ◌≤◌, ◌<◌, zero-le}
use Rattle.std.proofs.Math.Decide.{ℕ_discrete, dec_lt}
use Rattle.algebra.specs.Residue.{K, red}
use Rattle.algebra.proofs.Series.{Series}
use Rattle.algebra.specs.Matrix.{unit, mmul, vmul_cong, unit_vmul}
use Rattle.algebra.proofs.PolyMatrix.{entries as series_entries}
use Rattle.rules.specs.Sizes.{most_rows, most_order, most_shift, most_length}
use Rattle.rules.specs.Claim.{Problem}
use Rattle.rules.specs.Matrices.{at, matrix_F, matrix_P, product}
use Rattle.rules.specs.Maker.{basis_after}
use Rattle.rules.specs.Table.{table, get_or_table}
use Rattle.laws.specs.Valid.{ValidProblem}
use Rattle.laws.specs.MakerLaws.{after_none, after_degree_start}
use Rattle.laws.specs.MakerPasses.{identity_made}
use Rattle.layout.specs.Flat.{entry_coefficients, square_place, entry_place, column_place, column_cell, column_cell_at}
use Rattle.layout.specs.Holds.{Each}
use Rattle.claim.specs.declared.Head.{Head}
use Rattle.claim.specs.Claims.{problem_of}
use Rattle.claim.specs.Sound.{SoundHead, SoundColumns}
use Rattle.claim.specs.Holds.{holds_shifts, holds_columns}
use Rattle.pivots.specs.Order.{degree_at}
use Rattle.pivots.specs.Rows.{each_set}
use Rattle.stepping.specs.Next.{coefficient_at}
use Rattle.stepping.specs.Filled.{places_differ, place_inside}
use Rattle.iteration.specs.After.{After, after_outside}

-- The identity with n rows, and zeros.
pub record Unit (n : ℕ) (r : List ℕ) : Type 0 where
  pub full : length r ≡ entry_coefficients
  pub small : Each 2 r
  pub diagonal : (i : ℕ) → i < n → coefficient_at r i i 0 ≡ 1
  pub rest : (i j t : ℕ) → i < most_rows → j < most_rows → t < most_length → (i < n → i ≡ j → t ≢ 0) → coefficient_at r i j t ≡ 0

pub unit_start : (r : List ℕ) → length r ≡ entry_coefficients → ((a : ℕ) → get_or r a 0 ≡ 0) → Unit 0 r
unit_start r full zeros = record {
  full = full;
  small = λ a. omega (arith, zeros a);
  diagonal = λ i h. absurd (omega arith);
  rest = λ i j t hi hj ht h. zeros (entry_place i j t);
}

-- There is room for a constant coefficient.
positive_length : 0 < most_length
unfolding most_length
positive_length = omega arith

pub unit_more : (r : List ℕ) (i : ℕ) → i < most_rows → Unit i r → Unit (i + 1) (set r (entry_place i i 0) 1)
unit_more r i hi so_far = record {
  full = length-set r (entry_place i i 0) 1 ∙ so_far.full;
  small = each_set 2 r (entry_place i i 0) 1 inside so_far.small (omega arith);
  diagonal = below_more (λ a. coefficient_at (set r (entry_place i i 0) 1) a a 0 ≡ 1) i
      (λ a h. stays a a 0 (omega arith) positive_length (λ z w. absurd (omega arith)) ∙ so_far.diagonal a h) (get_or-set_same r (entry_place i i 0) 1 0 inside);
  rest = λ a b t ha hb ht h.
      stays a b t hb ht (λ z w x. h (omega arith) (z ∙ sym w) x) ∙ so_far.rest a b t ha hb ht (λ z. h (omega arith));
}
  where
    inside : entry_place i i 0 < length r
    inside = subst (λ n. entry_place i i 0 < n) (sym so_far.full) (place_inside i i 0 hi hi positive_length)

    stays : (a b t : ℕ) → b < most_rows → t < most_length → (a ≡ i → b ≡ i → t ≢ 0)
        → coefficient_at (set r (entry_place i i 0) 1) a b t ≡ coefficient_at r a b t
    stays a b t hb ht ne = get_or-set_other r (entry_place i i 0) (entry_place a b t) 1 0 (places_differ a b t i i 0 hb hi ht positive_length ne)

-- A coefficient of F, 0 from the largest order on.
unfoldable pub start_number : List ℕ → ℕ → ℕ → ℕ → ℕ
start_number f i j t = cond (ltb t most_order) (get_or f (column_place i j t) 0) 0

-- All of them.
pub record Copying (f : List ℕ) (n : ℕ) (r : List ℕ) : Type 0 where
  pub full : length r ≡ entry_coefficients
  pub below : (p : ℕ) → 0 < p → Each p f → Each p r
  pub looked : (a : ℕ) → a < n → get_or r a 0 ≡ start_number f (a / most_length / most_rows) (a / most_length % most_rows) (a % most_length)

pub record Copied (f r : List ℕ) : Type 0 where
  pub full : length r ≡ entry_coefficients
  pub below : (p : ℕ) → 0 < p → Each p f → Each p r
  pub copied : (i j t : ℕ) → i < most_rows → j < most_rows → t < most_order → coefficient_at r i j t ≡ column_cell f i j t

start_below : (f : List ℕ) (i j t p : ℕ) → 0 < p → Each p f → start_number f i j t < p
unfolding start_number
start_below f i j t p positive each = by (ltb t most_order)
  where
    by : (b : Bool) → cond b (get_or f (column_place i j t) 0) 0 < p
    by true = each (column_place i j t)
    by false = positive

-- Where a coefficient of P stands.
order_within : (t : ℕ) → t < most_order → t < most_length
unfolding most_order most_length
order_within t h = omega arith

row_of_place : (i j t : ℕ) → j < most_rows → t < most_length → entry_place i j t / most_length / most_rows ≡ i
unfolding entry_place square_place most_rows most_length
row_of_place i j t hj ht = omega arith

column_of_place : (i j t : ℕ) → j < most_rows → t < most_length → entry_place i j t / most_length % most_rows ≡ j
unfolding entry_place square_place most_rows most_length
column_of_place i j t hj ht = omega arith

power_of_place : (i j t : ℕ) → t < most_length → entry_place i j t % most_length ≡ t
unfolding entry_place square_place most_rows most_length
power_of_place i j t ht = omega arith

module _ (f : List ℕ) where
  pub copying_start : (r : List ℕ) → length r ≡ entry_coefficients → ((a : ℕ) → get_or r a 0 ≡ 0) → Copying f 0 r
  copying_start r full zeros = record { full = full; below = λ p positive each a. omega (arith, zeros a); looked = λ a h. absurd (omega arith) }

  pub copying_more : (n : ℕ) (r : List ℕ) (x : ℕ) → n < entry_coefficients
      → x ≡ start_number f (n / most_length / most_rows) (n / most_length % most_rows) (n % most_length) → Copying f n r → Copying f (n + 1) (set r n x)
  copying_more n r x hn e so_far = record {
    full = length-set r n x ∙ so_far.full;
    below = λ p positive each. each_set p r n x inside (so_far.below p positive each)
        (subst (λ y. y < p) (sym e) (start_below f (n / most_length / most_rows) (n / most_length % most_rows) (n % most_length) p positive each));
    looked = below_more (λ a. get_or (set r n x) a 0 ≡ start_number f (a / most_length / most_rows) (a / most_length % most_rows) (a % most_length)) n
        (λ a h. get_or-set_other r n a x 0 (λ z. absurd (omega arith)) ∙ so_far.looked a h) (get_or-set_same r n x 0 inside ∙ e);
  }
    where
      inside : n < length r
      inside = subst (λ k. n < k) (sym so_far.full) hn

  pub copied_all : (r : List ℕ) → Copying f entry_coefficients r → Copied f r
  unfolding start_number
  copied_all r h = record {
    full = h.full;
    below = h.below;
    copied = λ i j t hi hj ht.
        h.looked (entry_place i j t) (place_inside i j t hi hj (order_within t ht))
        ∙ ap (λ x. start_number f x (entry_place i j t / most_length % most_rows) (entry_place i j t % most_length)) (row_of_place i j t hj (order_within t ht))
        ∙ ap₂ (start_number f i) (column_of_place i j t hj (order_within t ht)) (power_of_place i j t (order_within t ht))
        ∙ ap (λ b. cond b (get_or f (column_place i j t) 0) 0) (lt-ltb t most_order ht)
        ∙ sym (column_cell_at f i j t ht);
  }

-- THE ARRAYS BEFORE ANY STEP

module _ (head : Head) (f : List ℕ) (valid : ValidProblem (problem_of head f)) (sound_head : SoundHead head) (sound_columns : SoundColumns head f) where
  abbrev b : Problem
  b = problem_of head f

  positive : 0 < b.p
  positive = le_of_lt valid.prime.two_le

  -- An entry of the identity.
  identity_entry : (i j : ℕ) → i < b.m → j < b.m → at (basis_after b 0) i j ≡ cond (eqb i j) (1 ∷ []) []
  identity_entry i j hi hj =
      ap (λ P. at P i j) (identity_made b valid)
      ∙ ap (λ row. get_or row j []) (get_or_table b.m (λ i. table b.m (λ j. cond (eqb i j) (1 ∷ []) [])) [] i hi)
      ∙ get_or_table b.m (λ j. cond (eqb i j) (1 ∷ []) []) [] j hj

  start_entries : (entries : List ℕ) → Unit b.m entries → (i j t : ℕ) → i < most_rows → j < most_rows → t < most_length
      → coefficient_at entries i j t ≡ get_or (at (basis_after b 0) i j) t 0
  start_entries entries h i j t hi hj ht = by_cases (dec_lt i b.m)
      (λ mi. by_cases (dec_lt j b.m) (λ mj. within t ht mi mj)
      (λ nj. h.rest i j t hi hj ht (λ z e x. absurd (omega arith)) ∙ sym (ap (λ l. get_or l t 0) (after_outside b valid 0 zero-le i j (inr (omega arith))))))
      (λ ni. h.rest i j t hi hj ht (λ z e x. absurd (ni z)) ∙ sym (ap (λ l. get_or l t 0) (after_outside b valid 0 zero-le i j (inl (omega arith)))))
    where
      within : (t : ℕ) → t < most_length → i < b.m → j < b.m → coefficient_at entries i j t ≡ get_or (at (basis_after b 0) i j) t 0
      within t ht mi mj = by_cases (ℕ_discrete i j) (λ e. on_diagonal t ht e) (λ ne.
          h.rest i j t hi hj ht (λ z e x. ne e)
          ∙ sym (ap (λ l. get_or l t 0) (identity_entry i j mi mj ∙ ap (λ x. cond x (1 ∷ []) []) (ne_eqb i j ne))))
        where
          entry : i ≡ j → at (basis_after b 0) i j ≡ 1 ∷ []
          entry e = identity_entry i j mi mj ∙ ap (λ x. cond x (1 ∷ []) []) (eq-eqb i j e)

          on_diagonal : (t : ℕ) → t < most_length → i ≡ j → coefficient_at entries i j t ≡ get_or (at (basis_after b 0) i j) t 0
          on_diagonal zero ht e = ap (λ j. coefficient_at entries i j 0) (sym e) ∙ h.diagonal i mi ∙ sym (ap (λ l. get_or l 0 0) (entry e))
          on_diagonal (suc t) ht e = h.rest i j (suc t) hi hj ht (λ z e x. absurd (omega arith)) ∙ sym (ap (λ l. get_or l (suc t) 0) (entry e))

  start_products : (products : List ℕ) → Copied f products → (i j t : ℕ) → i < b.m → j < b.n → t < most_order
      → red b.p (coefficient_at products i j t) ≡ product b (basis_after b 0) i j t
  unfolding product mmul
  start_products products h i j t hi hj ht =
      ap (red b.p) (h.copied i j t (lt_of_lt_of_le hi valid.rows_most) (lt_of_lt_of_le hj valid.columns_most) ht ∙ holds_columns head f sound_columns i j t hi hj)
      ∙ sym (ap (λ (s : ℕ → (K b.p).C). s t)
      (vmul_cong (Series (K b.p)) b.m (series_entries (K b.p) (matrix_P b (basis_after b 0)) i) (unit (Series (K b.p)) i)
      (series_entries (K b.p) (matrix_F b)) (series_entries (K b.p) (matrix_F b)) j (λ q hq. sym (after_none b valid i q hi hq)) (λ q hq. refl)
      ∙ unit_vmul (Series (K b.p)) b.m i (series_entries (K b.p) (matrix_F b)) hi j))

  pub after_start : (entries products : List ℕ) (degrees : List ℤ) → Unit b.m entries → Copied f products → degrees ≡ head.shifts
      → length degrees ≡ most_rows → After b 0 entries products degrees
  after_start entries products degrees x y e full = record {
    entries_kept = record { full = x.full; below = λ a. omega (arith, x.small a, valid.prime.two_le) };
    products_kept = record { full = y.full; below = y.below b.p positive sound_columns.F_below };
    entries_hold = start_entries entries x;
    products_hold = λ i j t hi hj h ht. start_products products y i j t hi hj ht;
    degrees_full = full;
    degrees_hold = λ i hi. ap (λ l. degree_at l i) e ∙ holds_shifts head f i hi ∙ sym (after_degree_start b valid i hi);
    degrees_most = λ i. subst (λ l. nat_abs (degree_at l i) ≤ most_shift + 0) (sym e) (omega (arith, sound_head.shifts_most i));
  }
