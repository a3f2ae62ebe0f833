-- The `CE` record of a problem and a basis, and how it grows number by number.
--   number, row_numbers      a number of it, and those of a row
--   write_table              what is written of a table grows by its last member
--   RowPut, row_start, row_more, row_done        the first numbers of a row are put: none, one more, all
--   RowsPut, rows_start, rows_more, record_done        the first rows are put: none, one more, all
use Rattle.std.specs.Prelude.{◌≡◌, refl, List, [], ◌∷◌, ◌++◌, ℕ, zero, suc, ◌+◌, ◌*◌, ◌≤◌, ◌<◌, length}
use Rattle.std.proofs.Common.{sym, ap₂, ◌∙◌, append-nil, append_assoc, zero-le, le_antisymm, arith, length-append}
use Rattle.std.proofs.Math.Path.{ap, subst}
use Rattle.rules.specs.Claim.{Problem}
use Rattle.rules.specs.Files.{CE_mark}
use Rattle.rules.specs.Matrices.{order, product}
use Rattle.rules.specs.Evidence.{evidence_of}
use Rattle.rules.specs.Writer.{bytes, write_each, write_all, write_CE}
use Rattle.rules.specs.Table.{table, table_last}
use Rattle.writer.specs.Appended.{Appended, appended_nothing, appended_both}
use Rattle.laws.specs.ByteNumbers.{length_bytes}

module _ (b : Problem) (P : List (List (List ℕ))) where
  -- The number of row i and column j: the coefficient of P·F at the order.
  abbrev pub number : ℕ → ℕ → ℕ
  number i j = (product b P i j (order b j)).0

  unfoldable pub row_numbers : ℕ → List ℕ
  row_numbers i = table b.n (number i)

write_more : {A : Type 0} (w : A → List ℕ) (i : ℕ) (l : List A) (x : A) → write_each (λ i. w) i (l ++ (x ∷ [])) ≡ write_each (λ i. w) i l ++ w x
unfolding write_each
write_more w i [] x = append-nil (w x)
write_more w i (y ∷ l) x = ap (λ r. w y ++ r) (write_more w (suc i) l x) ∙ sym (append_assoc (w y) (write_each (λ i. w) (suc i) l) (w x))

-- What is written of a table grows by its last member.
pub write_table : {A : Type 0} (w : A → List ℕ) (n : ℕ) (g : ℕ → A) → write_all w (table (n + 1) g) ≡ write_all w (table n g) ++ w (g n)
write_table w n g = ap (write_all w) (table_last n g) ∙ write_more w 0 (table n g) (g n)

-- The first j numbers of row i are put.
pub record RowPut (b : Problem) (P : List (List (List ℕ))) (i at : ℕ) (before after : List ℕ) (end j : ℕ) : Type 0 where
  pub columns : j ≤ b.n
  pub place : end ≡ at + 4 * j
  pub put : Appended before after at end (write_all (bytes 4) (table j (number b P i)))

-- The first i rows are put, from `at` on.
pub record RowsPut (b : Problem) (P : List (List (List ℕ))) (at : ℕ) (before after : List ℕ) (end i : ℕ) : Type 0 where
  pub rows : i ≤ b.m
  pub place : end ≡ at + 4 * i * b.n
  pub put : Appended before after at end (write_all (write_all (bytes 4)) (table i (row_numbers b P)))

length_numbers : (i n : ℕ) (g : ℕ → ℕ) → length (write_each (λ i. bytes 4) i (table n g)) ≡ 4 * n
unfolding write_each table
length_numbers i zero g = refl
length_numbers i (suc n) g = length-append (bytes 4 (g zero)) (write_each (λ i. bytes 4) (suc i) (table n (λ j. g (suc j)))) ∙ ap₂ ◌+◌ (length_bytes 4 (g zero)) (length_numbers (suc i) n (λ j. g (suc j))) ∙ omega arith

module _ (b : Problem) (P : List (List (List ℕ))) (at : ℕ) (before : List ℕ) where
  module _ (i : ℕ) where
    pub row_start : RowPut b P i at before before at 0
    unfolding table write_each
    row_start = record { columns = zero-le; place = omega arith; put = appended_nothing before at }

    pub row_more : (after later : List ℕ) (end next j v : ℕ) → j < b.n → RowPut b P i at before after end j → v ≡ number b P i j
        → Appended after later end next (bytes 4 v) → RowPut b P i at before later next (j + 1)
    row_more after later end next j v h x e y = record {
      columns = omega arith;
      place = y.ends ∙ ap (λ k. end + k) (length_bytes 4 v) ∙ omega (arith, x.place);
      put = subst (Appended before later at next)
          (ap (λ u. write_all (bytes 4) (table j (number b P i)) ++ bytes 4 u) e ∙ sym (write_table (bytes 4) j (number b P i)))
          (appended_both before after later at end next _ (bytes 4 v) x.put y);
    }

    pub row_done : (after : List ℕ) (end j : ℕ) → b.n ≤ j → RowPut b P i at before after end j
        → Appended before after at end (write_all (bytes 4) (row_numbers b P i))
    unfolding row_numbers
    row_done after end j h x = subst (λ k. Appended before after at end (write_all (bytes 4) (table k (number b P i)))) (le_antisymm x.columns h) x.put

  pub rows_start : RowsPut b P at before before at 0
  unfolding table write_each
  rows_start = record { rows = zero-le; place = omega arith; put = appended_nothing before at }

  pub rows_more : (after later : List ℕ) (end next i : ℕ) → i < b.m → RowsPut b P at before after end i
      → Appended after later end next (write_all (bytes 4) (row_numbers b P i)) → RowsPut b P at before later next (i + 1)
  unfolding row_numbers
  rows_more after later end next i h x y = record {
    rows = omega arith;
    place = y.ends ∙ ap (λ k. end + k) (length_numbers 0 b.n (number b P i)) ∙ omega (arith, x.place);
    put = subst (Appended before later at next) (sym (write_table (write_all (bytes 4)) i (row_numbers b P)))
        (appended_both before after later at end next _ _ x.put y);
  }

  -- The whole record is the mark and all rows.
  pub record_done : (first after : List ℕ) (end i : ℕ) → Appended first before 0 at (bytes 2 CE_mark) → b.m ≤ i → RowsPut b P at before after end i
      → Appended first after 0 end (write_CE (evidence_of b P))
  unfolding evidence_of row_numbers write_CE
  record_done first after end i y h x =
      appended_both first before after 0 at end (bytes 2 CE_mark) _ y
      (subst (λ k. Appended before after at end (write_all (write_all (bytes 4)) (table k (row_numbers b P)))) (le_antisymm x.rows h) x.put)
