-- The row u·P, and the values at the point of its entries up to each power, as the code makes them from flat arrays.
--   combined p m u entries   "combines the rows by u": u·P, which is a row of m polynomials
--   value_below              the value at the point of the coefficients below a power
--   TimesPoint, AddedPower   what one turn makes of the row, and of the values
--   Powered, Valued          the row u with each number times a power of the point, and the values of what stands below that power
--   Table                    the values up to each power
--   filled_more              one place of an array more
use Rattle.std.proofs.Math.Path.{◌≡◌, sym, ap, ap₂, subst}
use Rattle.std.proofs.Common.{◌∙◌, mod-lt, add-one, arith, below_more, get_or-set_same, get_or-set_other}
use Rattle.std.specs.Prelude.{List, [], ℕ, suc, ◌+◌, ◌*◌, ◌%◌, ◌≤◌, ◌<◌, length, set, replicate}
use Rattle.std.proofs.Math.ListN.{get_or, get_or-replicate}
use Rattle.algebra.specs.Ring.{power}
use Rattle.algebra.specs.Residue.{K, Residue, red, red_onto, red_mod, red_mul, residue_below}
use Rattle.algebra.specs.Sum.{sum, sum_cong, sum_mul}
use Rattle.algebra.specs.Evaluation.{ev}
use Rattle.rules.specs.Sizes.{most_rows, most_length}
use Rattle.layout.specs.Flat.{square_place, entry_place, cells, cell_at}
use Rattle.drawn.specs.Horner.{ev_last}
use Rattle.drawn.specs.Sums.{FirstBelow, plus_row}

-- One place of an array more: what holds of those before, and of the one that is stored, holds of those up to it.
pub filled_more : {A : Type 0} (d : A) (P : ℕ → A → Type 0) (l : List A) (i : ℕ) (x : A) → i < length l
    → ((k : ℕ) → k < i → P k (get_or l k d)) → P i x → (k : ℕ) → k < i + 1 → P k (get_or (set l i x) k d)
filled_more d P l i x inside before here =
    below_more (λ k. P k (get_or (set l i x) k d)) i
    (λ k h. subst (P k) (sym (get_or-set_other l i k x d (λ e. omega arith))) (before k h))
    (subst (P i) (sym (get_or-set_same l i x d inside)) here)

-- From row to row of P, the coefficients of one column stand so far apart.
abbrev pub entry_stride : ℕ
entry_stride = most_rows * most_length

-- Where the coefficient of row i stands, from that of row 0.
pub entry_rows : (i l x : ℕ) → entry_place i l x ≡ entry_place 0 l x + i * entry_stride
unfolding entry_place square_place most_rows most_length
entry_rows i l x = omega arith

-- Each of the first m numbers of a row times the point, modulo p.
abbrev pub TimesPoint : (p m : ℕ) → List ℕ → ℕ → List ℕ → Type 0
TimesPoint p m row point next = (i : ℕ) → i < m → get_or next i 0 ≡ get_or row i 0 * point % p

-- To each of the first n values what m numbers of the row make of the coefficients of P at power x is added.
abbrev pub AddedPower : (p m n : ℕ) → (before row entries : List ℕ) → ℕ → List ℕ → Type 0
AddedPower p m n before row entries x next =
    (l : ℕ) → l < n → get_or next l 0 ≡ (plus_row p m (get_or before l 0) row entries (entry_place 0 l x) entry_stride).0

-- The coefficient at power t of entry l of the row u·P.
unfoldable pub combined : (p m : ℕ) → (u entries : List ℕ) → ℕ → ℕ → Residue p
combined p m u entries l t = sum (K p) m (λ i. (K p).◌⊗◌ (red p (get_or u i 0)) (cells p entries i l t))

module _ (p m : ℕ) (u entries : List ℕ) (point : ℕ) where
  open K p use {C, 𝟘, ◌⊕◌, ◌⊗◌, mul_comm, mul_assoc}

  infixl 60 ◌⊕◌
  infixl 70 ◌⊗◌
  -- The value at the point of its coefficients below power x.
  abbrev pub value_below : ℕ → ℕ → Residue p
  value_below x l = ev (K p) x (red p point) (combined p m u entries l)

  -- The row u, each number times the power x of the point.
  pub record Powered (x : ℕ) (row : List ℕ) : Type 0 where
    pub row_below : FirstBelow m p row
    pub row_is : (i : ℕ) → i < m → red p (get_or row i 0) ≡ red p (get_or u i 0) ⊗ power (K p) (red p point) x

  -- The values of what stands below power x.
  pub record Valued (x : ℕ) (values : List ℕ) : Type 0 where
    pub values_below : FirstBelow m p values
    pub values_are : (l : ℕ) → l < m → red p (get_or values l 0) ≡ value_below x l

  -- The values up to each power, to the highest that is asked for.
  abbrev pub Table : ℕ → List (List ℕ) → Type 0
  Table count table = (x : ℕ) → x < count → Valued (suc x) (get_or table x [])

  -- At first there is u itself, and nothing below power 0.
  pub powered_none : FirstBelow m p u → Powered 0 u
  unfolding power
  powered_none below = record { row_below = below; row_is = λ i h. sym ((K p).mul_one (red p (get_or u i 0))) }

  pub valued_none : 0 < p → m ≤ most_rows → Valued 0 (replicate most_rows 0)
  unfolding ev
  valued_none positive most =
      record { values_below = λ l h. subst (λ x. x < p) (sym (zero_at l h)) positive; values_are = λ l h. ap (red p) (zero_at l h) }
    where
      zero_at : (l : ℕ) → l < m → ◌≡◌ {A = ℕ} (get_or (replicate most_rows 0) l 0) 0
      zero_at l h = get_or-replicate most_rows l 0 0 (omega arith)

  -- One power more.
  pub powered_more : (x : ℕ) {row next : List ℕ} → 0 < p → Powered x row → TimesPoint p m row point next → Powered (x + 1) next
  unfolding power
  powered_more x {row} {next} positive so times =
      record {
        row_below = λ i h. subst (λ y. y < p) (sym (times i h)) (mod-lt (get_or row i 0 * point) positive);
        row_is =
            λ i h. ap (red p) (times i h)
            ∙ red_mod p (get_or row i 0 * point)
            ∙ red_mul p (get_or row i 0) point
            ∙ ap (λ y. y ⊗ red p point) (so.row_is i h)
            ∙ mul_assoc (red p (get_or u i 0)) (power (K p) (red p point) x) (red p point)
            ∙ ap (λ y. red p (get_or u i 0) ⊗ y) (mul_comm (power (K p) (red p point) x) (red p point))
            ∙ ap (λ n. red p (get_or u i 0) ⊗ power (K p) (red p point) n) (sym (add-one x));
      }

  -- What the powered row makes of P at power x is the term of u·P at x.
  term_at : (x l : ℕ) {row : List ℕ} → x < most_length → Powered x row
      → sum (K p) m (λ i. red p (get_or row i 0) ⊗ red p (get_or entries (entry_place 0 l x + i * entry_stride) 0))
      ≡ combined p m u entries l x ⊗ power (K p) (red p point) x
  unfolding combined
  term_at x l {row} hx so =
      sum_cong (K p) m (λ i. red p (get_or row i 0) ⊗ red p (get_or entries (entry_place 0 l x + i * entry_stride) 0))
      (λ i. red p (get_or u i 0) ⊗ cells p entries i l x ⊗ power (K p) (red p point) x)
      (λ i h.
      ap₂ (λ y z. y ⊗ red p z) (so.row_is i h)
      (ap (λ k. get_or entries k 0) (sym (entry_rows i l x)) ∙ sym (cell_at entries i l x hx))
      ∙ turn (red p (get_or u i 0)) (power (K p) (red p point) x) (cells p entries i l x))
      ∙ sym (sum_mul (K p) m (λ i. red p (get_or u i 0) ⊗ cells p entries i l x) (power (K p) (red p point) x))
    where
      turn : (y z w : Residue p) → y ⊗ z ⊗ w ≡ y ⊗ w ⊗ z
      turn y z w = mul_assoc y z w ∙ ap (λ v. y ⊗ v) (mul_comm z w) ∙ sym (mul_assoc y w z)

  pub valued_more : (x : ℕ) {before row next : List ℕ} → 0 < p → x < most_length → Valued x before → Powered x row
      → AddedPower p m m before row entries x next → Valued (suc x) next
  unfolding plus_row
  valued_more x {before} {row} {next} positive hx values powers added =
      record {
        values_below =
            λ l h. subst (λ y. y < p) (sym (added l h))
            (residue_below p positive (plus_row p m (get_or before l 0) row entries (entry_place 0 l x) entry_stride));
        values_are =
            λ l h. ap (red p) (added l h)
            ∙ red_onto p (plus_row p m (get_or before l 0) row entries (entry_place 0 l x) entry_stride)
            ∙ ap₂ (λ y z. y ⊕ z) (values.values_are l h) (term_at x l hx powers)
            ∙ sym (ev_last (K p) x (red p point) (combined p m u entries l));
      }
