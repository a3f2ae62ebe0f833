-- How long what is written is, and where it stands.
--   rectangle_most           the bytes of the numbers of a rectangle: a larger one has no fewer
--   length_write_each        what is written of a list's members is as long as they are together …
--   drop_write_each          … and behind those before it stands what is written of a member
--   length_write_PR, length_write_OR, length_write_SH, length_write_FC, length_write_PE, length_write_CE      the records
use Rattle.std.specs.Prelude.{◌≡◌, refl, List, [], ◌∷◌, ◌++◌, ℕ, zero, suc, ◌+◌, ◌*◌, ◌≤◌, ◌<◌, ℤ, pos, length, get_or, drop}
use Rattle.std.proofs.Common.{sym, ap, ap₂, ◌∙◌, add-zero, mul_assoc, mul_comm, mul-le-mul, mul-le-mul_left, not-suc-le-zero, le_of_suc-le-suc, arith, length-append}
use Rattle.std.proofs.Math.Seq.{drop-append-add}
use Rattle.rules.specs.RecordBytes.{column_bytes, entry_bytes, evidence_bytes}
use Rattle.rules.specs.Conditions.{sum_below}
use Rattle.rules.specs.Writer.{bytes, write_each, write_all, unsigned, write_PR, write_OR, write_SH, write_FC, write_PE, write_CE}
use Rattle.laws.specs.ByteNumbers.{length_bytes}
use Rattle.laws.specs.SumLaws.{sum_below_cong, sum_below_constant}

-- Four bytes for each number of a rectangle: a larger one has no fewer.
pub rectangle_most : {m n M N : ℕ} → m ≤ M → n ≤ N → 4 * m * n ≤ 4 * M * N
rectangle_most hm hn = mul-le-mul (mul-le-mul_left 4 hm) hn

-- LISTS

-- What is written of a list's members is as long as they are together.
pub length_write_each : {A : Type 0} (d : A) (w : ℕ → A → List ℕ) (i₀ : ℕ) (l : List A)
    → length (write_each w i₀ l) ≡ sum_below (length l) (λ i. length (w (i₀ + i) (get_or l i d)))
unfolding write_each sum_below
length_write_each d w i₀ [] = refl
length_write_each d w i₀ (a ∷ l) =
    length-append (w i₀ a) (write_each w (suc i₀) l)
    ∙ ap₂ ◌+◌ (ap (λ i. length (w i a)) (sym (add-zero i₀)))
    (length_write_each d w (suc i₀) l ∙ sum_below_cong (length l) _ _ (λ i b. ap (λ n. length (w n (get_or l i d))) (omega arith)))

-- Where each member takes k bytes, they take k times their number.
pub length_write_constant : {A : Type 0} (d : A) (w : ℕ → A → List ℕ) (l : List A) (k : ℕ)
    → ((i : ℕ) → i < length l → length (w i (get_or l i d)) ≡ k) → length (write_each w 0 l) ≡ length l * k
length_write_constant d w l k h =
    length_write_each d w 0 l ∙ sum_below_constant (length l) _ k (λ i b. ap (λ n. length (w n (get_or l i d))) (omega arith) ∙ h i b)

-- Behind the members before it stands what is written of the member j, and behind that the others.
pub drop_write_each : {A : Type 0} (d : A) (w : ℕ → A → List ℕ) (i₀ : ℕ) (l : List A) (j : ℕ) → j < length l
    → drop (sum_below j (λ i. length (w (i₀ + i) (get_or l i d)))) (write_each w i₀ l)
    ≡ w (i₀ + j) (get_or l j d) ++ write_each w (suc (i₀ + j)) (drop (suc j) l)
unfolding write_each sum_below
drop_write_each d w i₀ [] j h = absurd (not-suc-le-zero h)
drop_write_each d w i₀ (a ∷ l) zero h = ap (λ i. w i a ++ write_each w (suc i) l) (sym (add-zero i₀))
drop_write_each d w i₀ (a ∷ l) (suc j) h =
    ap (λ n. drop n (w i₀ a ++ write_each w (suc i₀) l))
    (ap₂ ◌+◌ (ap (λ i. length (w i a)) (add-zero i₀)) (sum_below_cong j _ _ (λ i b. ap (λ n. length (w n (get_or l i d))) (omega arith))))
    ∙ drop-append-add (w i₀ a) (write_each w (suc i₀) l) (sum_below j (λ i. length (w (suc i₀ + i) (get_or l i d))))
    ∙ drop_write_each d w (suc i₀) l j (le_of_suc-le-suc h)
    ∙ ap (λ n. w n (get_or l j d) ++ write_each w (suc n) (drop (suc j) l)) (omega arith)

-- RECORDS

length_write_numbers : (k : ℕ) (l : List ℕ) → length (write_all (bytes k) l) ≡ length l * k
length_write_numbers k l = length_write_constant 0 (λ i. bytes k) l k (λ i b. length_bytes k (get_or l i 0))

-- Of m rows of n numbers, …
length_write_rows : (m n : ℕ) (rows : List (List ℕ)) → length rows ≡ m → ((i : ℕ) → i < m → length (get_or rows i []) ≡ n)
    → length (write_all (write_all (bytes 4)) rows) ≡ 4 * m * n
length_write_rows m n rows size sizes =
    length_write_constant [] (λ i. write_all (bytes 4)) rows (n * 4)
    (λ i b. length_write_numbers 4 (get_or rows i []) ∙ ap (λ x. x * 4) (sizes i (omega (arith, size))))
    ∙ ap (λ x. x * (n * 4)) size
    ∙ sym (mul_assoc m n 4)
    ∙ mul_comm (m * n) 4
    ∙ sym (mul_assoc 4 m n)

-- The record `PR` has 8 bytes, …
pub length_write_PR : (p m n : ℕ) → length (write_PR p m n) ≡ 8
unfolding write_PR bytes
length_write_PR p m n = refl

-- … `OR` 2 and one for each order, …
pub length_write_OR : (orders : List ℕ) → length (write_OR orders) ≡ 2 + length orders
unfolding write_OR bytes
length_write_OR orders = omega (arith, length_write_numbers 1 orders)

-- … `SH` 2 and two for each shift, …
pub length_write_SH : (shifts : List ℤ) → length (write_SH shifts) ≡ 2 + 2 * length shifts
unfolding write_SH bytes
length_write_SH shifts =
    omega (arith, length_write_constant (pos 0) (λ i z. bytes 2 (unsigned z)) shifts 2 (λ i b. length_bytes 2 (unsigned (get_or shifts i (pos 0)))))

-- … `FC` 3 and four for each coefficient, …
pub length_write_FC : (m d j : ℕ) (column : List (List ℕ)) → length column ≡ m → ((i : ℕ) → i < m → length (get_or column i []) ≡ d)
    → length (write_FC j column) ≡ column_bytes m d
unfolding write_FC bytes
length_write_FC m d j column size sizes = omega (arith, length_write_rows m d column size sizes)

-- … `PE` 5 and four for each coefficient, …
pub length_write_PE : (i j : ℕ) (entry : List ℕ) → length (write_PE i j entry) ≡ entry_bytes (length entry)
unfolding write_PE bytes
length_write_PE i j entry = omega (arith, length_write_numbers 4 entry)

-- … and `CE` 2 and four for each number.
pub length_write_CE : (m n : ℕ) (C : List (List ℕ)) → length C ≡ m → ((i : ℕ) → i < m → length (get_or C i []) ≡ n)
    → length (write_CE C) ≡ evidence_bytes m n
unfolding write_CE bytes
length_write_CE m n C size sizes = omega (arith, length_write_rows m n C size sizes)
