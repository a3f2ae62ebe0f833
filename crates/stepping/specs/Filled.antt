-- A box of coefficients that is filled, one after the other: what stands in it, and that the others stay.
--   Box, EntryBox, RowBox, RowsBox        the rows, columns and powers that are filled
--   Kept                     a list with room for all coefficients, of numbers below p
--   entries_ext              a list is settled by the coefficients
--   Filled, filled_none, filled_one, filled_both           the box is filled, with nothing, with one number, with two boxes
--   entry_more, row_more, rows_more          one power, one column, one row more
use Rattle.std.specs.Prelude.{◌≡◌, refl, ◌≢◌, ◌⊎◌, List, ℕ, ◌+◌, ◌/◌, ◌%◌, ◌≤◌, ◌<◌, length, get_or, set}
use Rattle.std.proofs.Common.{sym, subst, ◌∙◌, inl, inr, arith, length-set, get_or-set_same, get_or-set_other, ext_get_or}
use Rattle.std.proofs.Math.Logic.{by_cases}
use Rattle.std.proofs.Math.Decide.{ℕ_discrete, dec_lt}
use Rattle.rules.specs.Sizes.{most_rows, most_length}
use Rattle.layout.specs.Flat.{entry_coefficients, square_place, entry_place}
use Rattle.layout.specs.Holds.{Each}
use Rattle.pivots.specs.Rows.{each_set}

-- The rows from i₀ to i₁, of them the columns from j₀ to j₁, of them the powers from t₀ to t₁.
pub record Box (i₀ i₁ j₀ j₁ t₀ t₁ i j t : ℕ) : Type 0 where
  pub row_from : i₀ ≤ i
  pub row_to : i < i₁
  pub column_from : j₀ ≤ j
  pub column_to : j < j₁
  pub power_from : t₀ ≤ t
  pub power_to : t < t₁

abbrev pub EntryBox : (i j from to : ℕ) → ℕ → ℕ → ℕ → Type 0
EntryBox i j from to = Box i (i + 1) j (j + 1) from to

abbrev pub RowBox : (i columns from to : ℕ) → ℕ → ℕ → ℕ → Type 0
RowBox i columns from to = Box i (i + 1) 0 columns from to

abbrev pub RowsBox : (m columns from to : ℕ) → ℕ → ℕ → ℕ → Type 0
RowsBox m columns from to = Box 0 m 0 columns from to

pub record Kept (p : ℕ) (l : List ℕ) : Type 0 where
  pub full : length l ≡ entry_coefficients
  pub below : Each p l

-- Places of coefficients differ where their rows, columns or powers do, and are within the list.
pub places_differ : (i j t a b s : ℕ) → j < most_rows → b < most_rows → t < most_length → s < most_length
    → (i ≡ a → j ≡ b → t ≢ s) → entry_place i j t ≢ entry_place a b s
unfolding entry_place square_place most_rows most_length
places_differ i j t a b s hj hb ht hs ne e =
    by_cases (ℕ_discrete i a)
    (λ row. by_cases (ℕ_discrete j b) (λ column. ne row column (omega arith)) (λ column. column (omega arith)))
    (λ row. row (omega arith))

pub place_inside : (i j t : ℕ) → i < most_rows → j < most_rows → t < most_length → entry_place i j t < entry_coefficients
unfolding entry_place square_place most_rows most_length
place_inside i j t hi hj ht = omega arith

-- Where a place of the coefficients is, and that a list of the full length is settled by them.
place_of : (k : ℕ) → entry_place (k / most_length / most_rows) (k / most_length % most_rows) (k % most_length) ≡ k
unfolding entry_place square_place most_rows most_length
place_of k = omega arith

row_inside : (k : ℕ) → k < entry_coefficients → k / most_length / most_rows < most_rows
unfolding most_rows most_length
row_inside k h = omega arith

column_inside : (k : ℕ) → k / most_length % most_rows < most_rows
unfolding most_rows
column_inside k = omega arith

power_inside : (k : ℕ) → k % most_length < most_length
unfolding most_length
power_inside k = omega arith

pub entries_ext : (l l' : List ℕ) → length l ≡ entry_coefficients → length l' ≡ entry_coefficients
    → ((i j t : ℕ) → i < most_rows → j < most_rows → t < most_length → get_or l (entry_place i j t) 0 ≡ get_or l' (entry_place i j t) 0) → l ≡ l'
entries_ext l l' full full' same =
    ext_get_or 0 l l' (full ∙ sym full') (λ k hk. subst (λ a. get_or l a 0 ≡ get_or l' a 0) (place_of k)
    (same (k / most_length / most_rows) (k / most_length % most_rows) (k % most_length) (row_inside k (subst (λ n. k < n) full hk)) (column_inside k) (power_inside k)))

module _ (p : ℕ) (value : (i j t r : ℕ) → Type 0) where
  -- In the box R each number has its value, and the numbers outside stay.
  pub record Filled (R : ℕ → ℕ → ℕ → Type 0) (before after : List ℕ) : Type 0 where
    pub kept : Kept p after
    pub filled : (i j t : ℕ) → i < most_rows → j < most_rows → t < most_length → R i j t → value i j t (get_or after (entry_place i j t) 0)
    pub stays : (i j t : ℕ) → i < most_rows → j < most_rows → t < most_length → ¬ R i j t → get_or after (entry_place i j t) 0 ≡ get_or before (entry_place i j t) 0

  -- Nothing is in an empty box.
  pub filled_none : (R : ℕ → ℕ → ℕ → Type 0) (l : List ℕ) → Kept p l → ((i j t : ℕ) → ¬ R i j t) → Filled R l l
  filled_none R l kept empty = record {
    kept = kept;
    filled = λ i j t hi hj ht r. absurd (empty i j t r);
    stays = λ i j t hi hj ht nr. refl;
  }

  -- One number is stored.
  pub filled_one : (l : List ℕ) (i j t x : ℕ) → Kept p l → i < most_rows → j < most_rows → t < most_length → x < p → value i j t x
      → Filled (EntryBox i j t (t + 1)) l (set l (entry_place i j t) x)
  filled_one l i j t x kept hi hj ht small v = record {
    kept = record {
      full = length-set l (entry_place i j t) x ∙ kept.full;
      below = each_set p l (entry_place i j t) x inside kept.below small;
    };
    filled = λ a b s ha hb hs r.
        let same_i : a ≡ i = omega (arith, r.row_from, r.row_to) in
        let same_j : b ≡ j = omega (arith, r.column_from, r.column_to) in
        let same_t : s ≡ t = omega (arith, r.power_from, r.power_to) in
        subst (λ a. value a b s (get_or (set l (entry_place i j t) x) (entry_place a b s) 0)) (sym same_i)
        (subst (λ b. value i b s (get_or (set l (entry_place i j t) x) (entry_place i b s) 0)) (sym same_j)
        (subst (λ s. value i j s (get_or (set l (entry_place i j t) x) (entry_place i j s) 0)) (sym same_t)
        (subst (value i j t) (sym (get_or-set_same l (entry_place i j t) x 0 inside)) v)));
    stays = λ a b s ha hb hs nr.
        get_or-set_other l (entry_place i j t) (entry_place a b s) x 0
        (places_differ a b s i j t hb hj hs ht
        (λ ei ej et. nr (record {
          row_from = omega arith;
          row_to = omega arith;
          column_from = omega arith;
          column_to = omega arith;
          power_from = omega arith;
          power_to = omega arith;
        })));
  }
    where
      inside : entry_place i j t < length l
      inside = subst (λ n. entry_place i j t < n) (sym kept.full) (place_inside i j t hi hj ht)

  -- One box after the other.
  filled_both : (R S T : ℕ → ℕ → ℕ → Type 0) (before mid after : List ℕ) → Filled R before mid → Filled S mid after
      → ((i j t : ℕ) → T i j t → S i j t ⊎ ((¬ S i j t) × R i j t)) → ((i j t : ℕ) → ¬ T i j t → (¬ S i j t) × (¬ R i j t)) → Filled T before after
  filled_both R S T before mid after x y split apart = record {
    kept = y.kept;
    filled = λ i j t hi hj ht r. elim (split i j t r) [
      | inl s ↦ y.filled i j t hi hj ht s
      | inr (ns, r) ↦ subst (value i j t) (sym (y.stays i j t hi hj ht ns)) (x.filled i j t hi hj ht r)
    ];
    stays = λ i j t hi hj ht nr. let (ns, nx) = apart i j t nr in y.stays i j t hi hj ht ns ∙ x.stays i j t hi hj ht nx;
  }

  -- One power, …
  pub entry_more : (i j from t : ℕ) → from ≤ t → (before mid after : List ℕ) → Filled (EntryBox i j from t) before mid
      → Filled (EntryBox i j t (t + 1)) mid after → Filled (EntryBox i j from (t + 1)) before after
  entry_more i j from t low before mid after x y =
      filled_both (EntryBox i j from t) (EntryBox i j t (t + 1)) (EntryBox i j from (t + 1)) before mid after x y
      (λ a b s r. elim (dec_lt s t) [
        | yes h ↦ inr (
          λ z. absurd (omega (arith, z.power_from)),
          record { row_from = r.row_from; row_to = r.row_to; column_from = r.column_from; column_to = r.column_to; power_from = r.power_from; power_to = h },
        )
        | no nh ↦ inl (record {
          row_from = r.row_from;
          row_to = r.row_to;
          column_from = r.column_from;
          column_to = r.column_to;
          power_from = omega arith;
          power_to = r.power_to;
        })
      ])
      (λ a b s nr. (
        λ z. nr (record {
          row_from = z.row_from;
          row_to = z.row_to;
          column_from = z.column_from;
          column_to = z.column_to;
          power_from = omega (arith, z.power_from);
          power_to = z.power_to;
        }),
        λ z. nr (record {
          row_from = z.row_from;
          row_to = z.row_to;
          column_from = z.column_from;
          column_to = z.column_to;
          power_from = z.power_from;
          power_to = omega (arith, z.power_to);
        }),
      ))

  -- … one column, …
  pub row_more : (i j from to : ℕ) (before mid after : List ℕ) → Filled (RowBox i j from to) before mid
      → Filled (EntryBox i j from to) mid after → Filled (RowBox i (j + 1) from to) before after
  row_more i j from to before mid after x y =
      filled_both (RowBox i j from to) (EntryBox i j from to) (RowBox i (j + 1) from to) before mid after x y
      (λ a b s r. elim (dec_lt b j) [
        | yes h ↦ inr (
          λ z. absurd (omega (arith, z.column_from)),
          record { row_from = r.row_from; row_to = r.row_to; column_from = r.column_from; column_to = h; power_from = r.power_from; power_to = r.power_to },
        )
        | no nh ↦ inl (record {
          row_from = r.row_from;
          row_to = r.row_to;
          column_from = omega arith;
          column_to = r.column_to;
          power_from = r.power_from;
          power_to = r.power_to;
        })
      ])
      (λ a b s nr. (
        λ z. nr (record {
          row_from = z.row_from;
          row_to = z.row_to;
          column_from = omega arith;
          column_to = z.column_to;
          power_from = z.power_from;
          power_to = z.power_to;
        }),
        λ z. nr (record {
          row_from = z.row_from;
          row_to = z.row_to;
          column_from = z.column_from;
          column_to = omega (arith, z.column_to);
          power_from = z.power_from;
          power_to = z.power_to;
        }),
      ))

  -- … one row more.
  pub rows_more : (i columns from to : ℕ) (before mid after : List ℕ) → Filled (RowsBox i columns from to) before mid
      → Filled (RowBox i columns from to) mid after → Filled (RowsBox (i + 1) columns from to) before after
  rows_more i columns from to before mid after x y =
      filled_both (RowsBox i columns from to) (RowBox i columns from to) (RowsBox (i + 1) columns from to) before mid after x y
      (λ a b s r. elim (dec_lt a i) [
        | yes h ↦ inr (
          λ z. absurd (omega (arith, z.row_from)),
          record { row_from = r.row_from; row_to = h; column_from = r.column_from; column_to = r.column_to; power_from = r.power_from; power_to = r.power_to },
        )
        | no nh ↦ inl (record {
          row_from = omega arith;
          row_to = r.row_to;
          column_from = r.column_from;
          column_to = r.column_to;
          power_from = r.power_from;
          power_to = r.power_to;
        })
      ])
      (λ a b s nr. (
        λ z. nr (record {
          row_from = omega arith;
          row_to = z.row_to;
          column_from = z.column_from;
          column_to = z.column_to;
          power_from = z.power_from;
          power_to = z.power_to;
        }),
        λ z. nr (record {
          row_from = z.row_from;
          row_to = omega (arith, z.row_to);
          column_from = z.column_from;
          column_to = z.column_to;
          power_from = z.power_from;
          power_to = z.power_to;
        }),
      ))
