-- Sums of products modulo p in one word: what is p · 2^32 or more is cut off, which leaves the sum the same modulo p.
--   room p                   p · 2^32: every sum stays below it
--   FirstBelow m p l         the first m numbers of l are below p
--   plus_row p m s row l at stride     the sum s and the products of a row with the numbers at places `stride` apart
--   Added p s x y r          r is the sum s with the product x · y added, modulo p, and below the room
--   number_of                a number below p that stands for a residue
use Rattle.std.specs.Prelude.{◌≡◌, List, get_or}
use Rattle.std.proofs.Math.Path.{sym, ap}
use Rattle.std.proofs.Common.{◌∙◌, mul-le-mul, mul-le-mul_right, le_of_lt, mod-eq_of_lt, add-one, arith}
use Prim.Native.Nat.{ℕ, ◌+◌, ◌-◌, ◌*◌, ◌^◌, ◌≤◌, ◌<◌}
use Rattle.algebra.specs.Ring as Ring
use Rattle.algebra.specs.Residue.{K, Residue, red, red_add, red_mul, red_self, red_value}
use Rattle.algebra.specs.Sum.{sum, sum_last}
use Rattle.rules.specs.Sizes.{largest_prime, most_rows}

-- Every sum stays below it.
abbrev pub room : ℕ → ℕ
room p = p * 2 ^ 32

-- The first m numbers of l are below p.
abbrev pub FirstBelow : (m p : ℕ) → List ℕ → Type 0
FirstBelow m p l = (i : ℕ) → i < m → get_or l i 0 < p

-- A product of two numbers below p is below p · 2^32.
pub product_room : {p x y : ℕ} → p ≤ largest_prime → x < p → y < p → x * y < room p
unfolding largest_prime
product_room {p} {x} {y} most hx hy = omega (arith, mul-le-mul {m₁ = y} {m₂ = 2 ^ 31} (le_of_lt hx) (omega arith))

-- The numbers that go with a row stand inside, if the last one does.
pub place_inside : (i at stride n : ℕ) → i < most_rows → at + most_rows * stride < n + stride → at + i * stride < n
unfolding most_rows
place_inside i at stride n hi h = omega (arith, mul-le-mul_right stride (le_of_lt_suc i hi))
  where
    le_of_lt_suc : (i : ℕ) → i < 4 → i ≤ 3
    le_of_lt_suc i h = omega arith

module _ (p : ℕ) where
  open K p use {𝟘, ◌⊕◌, ◌⊗◌, add_zero}

  infixl 60 ◌⊕◌
  infixl 70 ◌⊗◌
  -- The sum s, and the products of the first m numbers of a row with those of l at the places at, at + stride, at + 2 · stride, ….
  unfoldable pub plus_row : (m s : ℕ) → (row l : List ℕ) → (at stride : ℕ) → Residue p
  plus_row m s row l at stride = red p s ⊕ sum (K p) m (λ i. red p (get_or row i 0) ⊗ red p (get_or l (at + i * stride) 0))

  pub plus_row_none : (s : ℕ) (row l : List ℕ) (at stride : ℕ) → red p s ≡ plus_row 0 s row l at stride
  unfolding plus_row sum
  plus_row_none s row l at stride = sym (add_zero (red p s))

  pub plus_row_more : (m s : ℕ) (row l : List ℕ) (at stride : ℕ)
      → plus_row m s row l at stride ⊕ red p (get_or row m 0) ⊗ red p (get_or l (at + m * stride) 0) ≡ plus_row (m + 1) s row l at stride
  unfolding plus_row
  plus_row_more m s row l at stride =
      (K p).add_assoc (red p s) (sum (K p) m term) (term m)
      ∙ ap (λ x. red p s ⊕ x) (sym (sum_last (K p) m term))
      ∙ ap (λ k. red p s ⊕ sum (K p) k term) (sym (add-one m))
    where
      term : ℕ → Residue p
      term i = red p (get_or row i 0) ⊗ red p (get_or l (at + i * stride) 0)

  -- A number below p that stands for a residue is the residue's own.
  pub number_of : 0 < p → (r : ℕ) {x : Residue p} → r < p → red p r ≡ x → r ≡ x.0
  number_of positive r below e = sym (mod-eq_of_lt below) ∙ sym (red_value p positive r) ∙ ap (λ y. y.0) e

  -- The room counts as nothing modulo p.
  red_room : red p (room p) ≡ 𝟘
  red_room = red_mul p p (2 ^ 32) ∙ ap (λ x. x ⊗ red p (2 ^ 32)) (red_self p) ∙ Ring.zero_mul (K p) (red p (2 ^ 32))

  pub less_room : (s : ℕ) → room p ≤ s → red p (s - room p) ≡ red p s
  less_room s h =
      sym (add_zero (red p (s - room p)))
      ∙ ap (λ x. red p (s - room p) ⊕ x) (sym red_room)
      ∙ sym (red_add p (s - room p) (room p))
      ∙ ap (red p) (omega arith)

  -- A sum with a product added, and what is p · 2^32 or more cut off.
  pub record Added (s x y r : ℕ) : Type 0 where
    pub fits : r < room p
    pub value : red p r ≡ red p s ⊕ red p x ⊗ red p y

  pub added_whole : {s x y : ℕ} → s + x * y < room p → Added s x y (s + x * y)
  added_whole {s} {x} {y} h = record { fits = h; value = red_add p s (x * y) ∙ ap (λ z. red p s ⊕ z) (red_mul p x y) }

  pub added_less : {s x y : ℕ} → p ≤ largest_prime → s < room p → x < p → y < p → room p ≤ s + x * y → Added s x y (s + x * y - room p)
  added_less {s} {x} {y} most hs hx hy h =
      record {
        fits = omega (arith, product_room most hx hy);
        value = less_room (s + x * y) h ∙ red_add p s (x * y) ∙ ap (λ z. red p s ⊕ z) (red_mul p x y);
      }
