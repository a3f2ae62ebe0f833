-- What stands at each place of the flat arrays.
--   filled_length            how long an array of one value is
--   list_at, shifts_at, columns_at, entries_at, lengths_at, evidence_at      each number at its place
--   every_column, every_entry, every_length, every_constant                  what holds at every place
use Rattle.std.specs.Prelude.{◌≡◌, refl, List, [], ◌∷◌, ℕ, ◌+◌, ◌*◌, ◌≤◌, ◌<◌, ℤ, pos, length, get_or, set, replicate}
use Rattle.std.proofs.Common.{sym, ap, subst, ◌∙◌, zero-add, add-mul, mul_assoc, mul-le-mul_right, arith, length-set, get_or-set_same, get_or-set_other}
use Rattle.std.proofs.Math.Decide.{dec_lt}
use Rattle.std.proofs.Math.ListN.{get_or-eq_default}
use Rattle.std.proofs.lemmas.List.{get_or-replicate, length-replicate}
use Rattle.rules.specs.Sizes.{most_rows, most_order, most_length}
use Rattle.rules.specs.Matrices.{at}
use Rattle.layout.specs.Flat.{filled, square, entry_coefficients, column_coefficients, column_place, entry_place, square_place}
use Rattle.storing.specs.Storing.{pour}
use Rattle.storing.specs.Poured.{All, Blocks, poured_length, poured_below, poured_above, poured_at, pour_both, pour_same, Every, every_set, every_pour}
use Rattle.storing.specs.Flat.{put_from, run_into, put_row, block_into, row_fits, list_into, shifts_into, put_column, columns_into, row_into, entries_into, evidence_into}

-- A property that everything has.
abbrev Any : {A : Type 0} → A → Type 0
Any a = Unit {0}

any : {A : Type 0} (l : List A) → All Any l
any [] = tt
any (a ∷ l) = (tt, any l)

-- One value for each thing.
module _ {E A : Type 0} (e : E) (value : A → E) (d : A) (blank : value d ≡ e) (base : ℕ) (put : List E → ℕ → A → List E)
    (puts : (st : List E) (i : ℕ) (a : A) → put st i a ≡ set st (base + i) (value a)) where
  one_blocks : Blocks e put base 1 Any (λ (k : Unit {0}). Unit {0}) (λ k. 0) (λ a k. value a) d
  one_blocks =
      record {
        keeps = λ st i a. ap length (puts st i a) ∙ length-set st (base + i) (value a);
        below = λ st i a x g h. ap (λ l. get_or l x e) (puts st i a) ∙ get_or-set_other st (base + i) x (value a) e (λ q. omega arith);
        above = λ st i a x g h. ap (λ l. get_or l x e) (puts st i a) ∙ get_or-set_other st (base + i) x (value a) e (λ q. omega arith);
        within = λ k v. omega arith;
        fills = λ st i a k g v h z.
            let p : base + i * 1 + 0 ≡ base + i = omega arith in
            ap (λ (x : ℕ). get_or (put st i a) x e) p ∙ ap (λ l. get_or l (base + i) e) (puts st i a) ∙ get_or-set_same st (base + i) (value a) e (omega arith);
        blank = λ k. blank;
      }

  module _ (st : List E) (l : List A) where
    one_length : length (pour put 0 st l) ≡ length st
    one_length = poured_length one_blocks 0 st l

    one_below : (x : ℕ) → x < base → get_or (pour put 0 st l) x e ≡ get_or st x e
    one_below x h = poured_below one_blocks 0 st l x (any l) (omega arith)

    one_above : (x : ℕ) → base + length l ≤ x → get_or (pour put 0 st l) x e ≡ get_or st x e
    one_above x h = poured_above one_blocks 0 st l x (any l) (omega arith)

    one_at : base + length l ≤ length st → ((x : ℕ) → base ≤ x → get_or st x e ≡ e) → (j : ℕ) → get_or (pour put 0 st l) (base + j) e ≡ value (get_or l j d)
    one_at h z j =
        let p : base + j ≡ base + (0 + j) * 1 + 0 = omega arith in
        ap (λ (x : ℕ). get_or (pour put 0 st l) x e) p ∙ poured_at one_blocks 0 st l j tt (any l) tt (omega arith) (λ x hx. z x (omega arith))

-- An array of one value holds it everywhere, also past its end.
filled_at : {E : Type 0} (n : ℕ) (e : E) (x : ℕ) → get_or (filled n e) x e ≡ e
unfolding filled
filled_at n e x = go (dec_lt x n)
  where
    go : Dec (x < n) → get_or (replicate n e) x e ≡ e
    go (yes h) = get_or-replicate n x e e h
    go (no h) = get_or-eq_default (replicate n e) e (omega (arith, length-replicate n e))

pub filled_length : {E : Type 0} (n : ℕ) (e : E) → length (filled n e) ≡ n
unfolding filled
filled_length n e = length-replicate n e

-- A list stored in an array of its default value.
pub list_at : (n : ℕ) (l : List ℕ) → length l ≤ n → (j : ℕ) → get_or (list_into (filled n 0) l) j 0 ≡ get_or l j 0
list_at n l h j =
    ap (λ (x : ℕ). get_or (list_into (filled n 0) l) x 0) (sym (zero-add j))
    ∙ one_at 0 (λ a. a) 0 refl 0 set (λ st i a. ap (λ (x : ℕ). set st x a) (sym (zero-add i))) (filled n 0) l (omega (arith, filled_length {E = ℕ} n 0))
    (λ x hx. filled_at n 0 x) j

pub shifts_at : (n : ℕ) (l : List ℤ) → length l ≤ n → (i : ℕ) → get_or (shifts_into (filled n (pos 0)) l) i (pos 0) ≡ get_or l i (pos 0)
shifts_at n l h i =
    ap (λ (x : ℕ). get_or (shifts_into (filled n (pos 0)) l) x (pos 0)) (sym (zero-add i))
    ∙ one_at (pos 0) (λ a. a) (pos 0) refl 0 set (λ st i a. ap (λ (x : ℕ). set st x a) (sym (zero-add i))) (filled n (pos 0)) l
    (omega (arith, filled_length n (pos 0))) (λ x hx. filled_at n (pos 0) x) i

-- A row of numbers in its block.
module _ (base stride : ℕ) where
  row_blocks : Blocks 0 (put_row base stride) base stride (λ l. length l ≤ stride) (λ k. k < stride) (λ k. k) (λ l k. get_or l k 0) []
  row_blocks =
      record {
        keeps = λ st i l. one_length 0 (λ a. a) 0 refl (base + i * stride) (put_from (base + i * stride)) (λ st i a. refl) st l;
        below = λ st i l x g h. one_below 0 (λ a. a) 0 refl (base + i * stride) (put_from (base + i * stride)) (λ st i a. refl) st l x h;
        above = λ st i l x g h. one_above 0 (λ a. a) 0 refl (base + i * stride) (put_from (base + i * stride)) (λ st i a. refl) st l x (omega arith);
        within = λ k v. v;
        fills = λ st i l k g v h z. one_at 0 (λ a. a) 0 refl (base + i * stride) (put_from (base + i * stride)) (λ st i a. refl) st l (omega arith) z k;
        blank = λ k. refl;
      }

-- Rows of numbers in a block of their own, `rows` of them at most: what the block holds at row i and number k.
module _ (rows stride : ℕ) where
  abbrev Table : List (List ℕ) → Type 0
  Table l = (length l ≤ rows) × All (λ r. length r ≤ stride) l

  abbrev Inside : ℕ × ℕ → Type 0
  Inside e = (e.0 < rows) × (e.1 < stride)

  abbrev put_table : List ℕ → ℕ → List (List ℕ) → List ℕ
  put_table st j l = block_into (j * (rows * stride)) stride st l

  table_blocks : Blocks 0 put_table 0 (rows * stride) Table Inside (λ e. e.0 * stride + e.1) (λ l e. get_or (get_or l e.0 []) e.1 0) []
  table_blocks =
      record {
        keeps = λ st j l. poured_length (row_blocks (j * (rows * stride)) stride) 0 st l;
        below = λ st j l x g h. poured_below (row_blocks (j * (rows * stride)) stride) 0 st l x g.1 (omega arith);
        above = λ st j l x g h. poured_above (row_blocks (j * (rows * stride)) stride) 0 st l x g.1 (omega (arith, all l, mul-le-mul_right stride g.0));
        within = λ e v. omega (arith, row_fits e.0 rows stride v.0);
        fills = λ st j l e g v h z.
            let p : 0 + j * (rows * stride) + (e.0 * stride + e.1) ≡ j * (rows * stride) + (0 + e.0) * stride + e.1 =
            omega (arith, ap (λ (n : ℕ). n * stride) (zero-add e.0)) in
            ap (λ (x : ℕ). get_or (put_table st j l) x 0) p
            ∙ poured_at (row_blocks (j * (rows * stride)) stride) 0 st l e.0 e.1 g.1 v.1 (omega (arith, all l, mul-le-mul_right stride g.0))
            (λ x hx. z x (omega arith));
        blank = λ e. refl;
      }
    where
      all : (l : List (List ℕ)) → (0 + length l) * stride ≡ length l * stride
      all l = ap (λ (n : ℕ). n * stride) (zero-add (length l))

  -- Tables one after the other in an array of 0s that has room for `n` of them.
  tables_at : (n : ℕ) (T : List (List (List ℕ))) → length T ≤ n → All Table T → (j i k : ℕ) → i < rows → k < stride
      → get_or (pour put_table 0 (filled (n * (rows * stride)) 0) T) (j * (rows * stride) + (i * stride + k)) 0 ≡ get_or (get_or (get_or T j []) i []) k 0
  tables_at n T len good j i k hi hk =
      let p : j * (rows * stride) + (i * stride + k) ≡ 0 + (0 + j) * (rows * stride) + (i * stride + k) =
      omega (arith, ap (λ (n : ℕ). n * (rows * stride)) (zero-add j)) in
      ap (λ (x : ℕ). get_or (pour put_table 0 (filled (n * (rows * stride)) 0) T) x 0) p
      ∙ poured_at table_blocks 0 (filled (n * (rows * stride)) 0) T j (i, k) good (hi, hk)
      (omega
      (arith, filled_length {E = ℕ} (n * (rows * stride)) 0, ap (λ (n : ℕ). n * (rows * stride)) (zero-add (length T)), mul-le-mul_right (rows * stride) len))
      (λ x hx. filled_at (n * (rows * stride)) 0 x)

-- The coefficients of F stand in tables one after the other, one for each column; those of P in one for each row.
column_table : (i j k : ℕ) → column_place i j k ≡ j * (most_rows * most_order) + (i * most_order + k)
unfolding column_place
column_table i j k = omega (arith, add-mul (j * most_rows) i most_order, mul_assoc j most_rows most_order)

entry_table : (i j k : ℕ) → entry_place i j k ≡ i * (most_rows * most_length) + (j * most_length + k)
unfolding entry_place
entry_table i j k = omega (arith, add-mul (i * most_rows) j most_length, mul_assoc i most_rows most_length)

columns_tables : (st : List ℕ) (F : List (List (List ℕ))) → columns_into st F ≡ pour (put_table most_rows most_order) 0 st F
columns_tables st F =
    pour_same put_column (put_table most_rows most_order) 0 st F
    (λ st j l. ap (λ (b : ℕ). block_into b most_order st l) (omega (arith, column_table 0 j 0)))

-- The coefficients of F in their array.
pub columns_at : (F : List (List (List ℕ))) → length F ≤ most_rows → All (Table most_rows most_order) F → (i j k : ℕ) → i < most_rows → k < most_order
    → get_or (columns_into (filled column_coefficients 0) F) (column_place i j k) 0 ≡ get_or (at F j i) k 0
columns_at F len good i j k hi hk =
    ap (λ (x : ℕ). get_or (columns_into (filled column_coefficients 0) F) x 0) (column_table i j k)
    ∙ ap (λ (l : List ℕ). get_or l (j * (most_rows * most_order) + (i * most_order + k)) 0) (columns_tables (filled column_coefficients 0) F)
    ∙ ap (λ (n : ℕ). get_or (pour (put_table most_rows most_order) 0 (filled n 0) F) (j * (most_rows * most_order) + (i * most_order + k)) 0)
    (mul_assoc most_rows most_rows most_order)
    ∙ tables_at most_rows most_order most_rows F len good j i k hi hk

-- The entries of P: their lengths and their coefficients apart.
abbrev put_length : ℕ → List ℕ → ℕ → List ℕ → List ℕ
put_length i st j l = set st (square_place i j) (length l)

abbrev put_lengths : List ℕ → ℕ → List (List ℕ) → List ℕ
put_lengths st i row = pour (put_length i) 0 st row

abbrev put_coefficients : ℕ → List ℕ → ℕ → List ℕ → List ℕ
put_coefficients i st j l = run_into (entry_place i j 0) st l

-- What is stored of P: the lengths, and the coefficients as tables.
entries_parts : (st : List ℕ × List ℕ) (P : List (List (List ℕ)))
    → entries_into st P ≡ (pour put_lengths 0 st.0 P, pour (put_table most_rows most_length) 0 st.1 P)
entries_parts st P =
    pour_same row_into (λ st i row. (put_lengths st.0 i row, put_table most_rows most_length st.1 i row)) 0 st P
    (λ st i row.
    pour_both (put_length i) (put_coefficients i) 0 st row
    ∙ ap (λ (l : List ℕ). (put_lengths st.0 i row, l))
    (pour_same (put_coefficients i) (put_row (i * (most_rows * most_length)) most_length) 0 st.1 row
    (λ st j l. ap (λ (b : ℕ). run_into b st l) (omega (arith, entry_table i j 0)))))
    ∙ pour_both put_lengths (put_table most_rows most_length) 0 st P

pub entries_at : (P : List (List (List ℕ))) → length P ≤ most_rows → All (Table most_rows most_length) P → (i j k : ℕ) → j < most_rows → k < most_length
    → get_or (entries_into (filled square 0, filled entry_coefficients 0) P).1 (entry_place i j k) 0 ≡ get_or (at P i j) k 0
entries_at P len good i j k hj hk =
    ap (λ (x : ℕ). get_or (entries_into (filled square 0, filled entry_coefficients 0) P).1 x 0) (entry_table i j k)
    ∙ ap (λ (l : List ℕ × List ℕ). get_or l.1 (i * (most_rows * most_length) + (j * most_length + k)) 0) (entries_parts (filled square 0, filled entry_coefficients 0) P)
    ∙ ap (λ (n : ℕ). get_or (pour (put_table most_rows most_length) 0 (filled n 0) P) (i * (most_rows * most_length) + (j * most_length + k)) 0)
    (mul_assoc most_rows most_rows most_length)
    ∙ tables_at most_rows most_length most_rows P len good i j k hj hk

length_blocks : Blocks 0 put_lengths 0 most_rows (λ row. length row ≤ most_rows) (λ j. j < most_rows) (λ j. j) (λ row j. length (get_or row j [])) []
unfolding square_place
length_blocks =
    record {
      keeps = λ st i row. one_length 0 length [] refl (i * most_rows) (put_length i) (λ st j l. refl) st row;
      below = λ st i row x g h. one_below 0 length [] refl (i * most_rows) (put_length i) (λ st j l. refl) st row x (omega arith);
      above = λ st i row x g h. one_above 0 length [] refl (i * most_rows) (put_length i) (λ st j l. refl) st row x (omega arith);
      within = λ j v. v;
      fills = λ st i row j g v h z.
          ap (λ (x : ℕ). get_or (put_lengths st i row) (x + j) 0) (zero-add (i * most_rows))
          ∙ one_at 0 length [] refl (i * most_rows) (put_length i) (λ st j l. refl) st row (omega arith) (λ x hx. z x (omega arith)) j;
      blank = λ j. refl;
    }

pub lengths_at : (P : List (List (List ℕ))) → length P ≤ most_rows → All (λ row. length row ≤ most_rows) P → (i j : ℕ) → j < most_rows
    → get_or (entries_into (filled square 0, filled entry_coefficients 0) P).0 (square_place i j) 0 ≡ length (at P i j)
unfolding square_place
lengths_at P len good i j hj =
    let p : i * most_rows + j ≡ 0 + (0 + i) * most_rows + j = omega (arith, ap (λ (n : ℕ). n * most_rows) (zero-add i)) in
    ap (λ (x : ℕ). get_or (entries_into (filled square 0, filled entry_coefficients 0) P).0 x 0) p
    ∙ ap (λ (l : List ℕ × List ℕ). get_or l.0 (0 + (0 + i) * most_rows + j) 0) (entries_parts (filled square 0, filled entry_coefficients 0) P)
    ∙ poured_at length_blocks 0 (filled square 0) P i j good hj
    (omega (arith, filled_length {E = ℕ} square 0, ap (λ (n : ℕ). n * most_rows) (zero-add (length P)), mul-le-mul_right most_rows len)) (λ x hx. filled_at square 0 x)

-- The numbers of C in their array.
pub evidence_at : (C : List (List ℕ)) → length C ≤ most_rows → All (λ r. length r ≤ most_rows) C → (i j : ℕ) → j < most_rows
    → get_or (evidence_into (filled square 0) C) (square_place i j) 0 ≡ get_or (get_or C i []) j 0
unfolding square_place
evidence_at C len good i j hj =
    let p : i * most_rows + j ≡ 0 + (0 + i) * most_rows + j = omega (arith, ap (λ (n : ℕ). n * most_rows) (zero-add i)) in
    ap (λ (x : ℕ). get_or (evidence_into (filled square 0) C) x 0) p
    ∙ poured_at (row_blocks 0 most_rows) 0 (filled square 0) C i j good hj
    (omega (arith, filled_length {E = ℕ} square 0, ap (λ (n : ℕ). n * most_rows) (zero-add (length C)), mul-le-mul_right most_rows len)) (λ x hx. filled_at square 0 x)

-- What holds of 0 and of each number stored holds at every place of the arrays.
module _ (Q : ℕ → Type 0) where
  every_run : (base : ℕ) (st l : List ℕ) → Every Q 0 st → All Q l → Every Q 0 (run_into base st l)
  every_run base st l h g = every_pour Q 0 (put_from base) (λ st k v h g. every_set Q 0 st (base + k) v h g) 0 st l h g

  every_block : (base stride : ℕ) (st : List ℕ) (l : List (List ℕ)) → Every Q 0 st → All (All Q) l → Every Q 0 (block_into base stride st l)
  every_block base stride st l h g = every_pour Q 0 (put_row base stride) (λ st i r h g. every_run (base + i * stride) st r h g) 0 st l h g

  module _ (zero_in : Q 0) where
    every_filled : (n : ℕ) → Every Q 0 (filled n 0)
    every_filled n x = subst Q (sym (filled_at n 0 x)) zero_in

    pub every_column : (F : List (List (List ℕ))) → All (All (All Q)) F → Every Q 0 (columns_into (filled column_coefficients 0) F)
    every_column F g =
        every_pour Q 0 put_column (λ st j l h g. every_block (column_place 0 j 0) most_order st l h g) 0 (filled column_coefficients 0) F (every_filled column_coefficients) g

    pub every_entry : (P : List (List (List ℕ))) → All (All (All Q)) P → Every Q 0 (entries_into (filled square 0, filled entry_coefficients 0) P).1
    every_entry P g =
        subst (λ (l : List ℕ × List ℕ). Every Q 0 l.1) (sym (entries_parts (filled square 0, filled entry_coefficients 0) P))
        (every_pour Q 0 (put_table most_rows most_length) (λ st j l h g. every_block (j * (most_rows * most_length)) most_length st l h g) 0 (filled entry_coefficients 0) P
        (every_filled entry_coefficients) g)

    pub every_length : (P : List (List (List ℕ))) → All (All (λ l. Q (length l))) P → Every Q 0 (entries_into (filled square 0, filled entry_coefficients 0) P).0
    every_length P g =
        subst (λ (l : List ℕ × List ℕ). Every Q 0 l.0) (sym (entries_parts (filled square 0, filled entry_coefficients 0) P))
        (every_pour Q 0 put_lengths
        (λ st i row h g. every_pour Q 0 (put_length i) (λ st j l h g. every_set Q 0 st (square_place i j) (length l) h g) 0 st row h g) 0 (filled square 0) P
        (every_filled square) g)

    pub every_constant : (C : List (List ℕ)) → All (All Q) C → Every Q 0 (evidence_into (filled square 0) C)
    every_constant C g = every_block 0 most_rows (filled square 0) C (every_filled square) g
