-- What the code makes of the arrays of a claim is what the rules say of the claim.
--   EveryColumn              "every column gives 0", of the claim that the arrays stand for
--   EveryColumnIn            the same of the code's structs, whole
--   every_column_one         … leaves one answer
--   value_rules, zero_rules  a column's value, and what the code tries
use Rattle.std.specs.Prelude.{◌≡◌, refl, Bool, true, false, List, ℕ, zero, suc, ◌≤◌, ◌<◌, eqb, pos, get_or, replicate}
use Rattle.std.proofs.Math.Path.{sym, ap, ap₂, fun_ext}
use Rattle.std.proofs.Common.{subst, ◌∙◌, zero-le, le_refl, arith, lt-ltb, le-ltb, eq-eqb}
use Rattle.std.proofs.Math.Bool.{not}
use Rattle.std.proofs.lemmas.List.{get_or-replicate}
use Rattle.algebra.specs.Ring.{power}
use Rattle.algebra.specs.Residue.{K, Residue, red}
use Rattle.algebra.specs.Sum.{sum, sum_cong}
use Rattle.algebra.specs.Series.{convolve}
use Rattle.algebra.specs.Degree.{coefficient}
use Rattle.algebra.proofs.Degree.{coefficient_sum}
use Rattle.algebra.specs.Matrix.{vmul, mmul}
use Rattle.algebra.specs.Evaluation.{ev}
use Rattle.rules.specs.Claim.{Problem}
use Rattle.rules.specs.Matrices.{order, matrix_C, product}
use Rattle.rules.specs.Conditions.{is_zero}
use Rattle.rules.specs.Drawn.{cut, cut_row, drawn_value, every_column_zero}
use Rattle.rules.specs.Sizes.{most_rows, most_length}
use Rattle.layout.specs.Flat.{square, square_place, length_at, cell_past, cells, column_cells}
use Rattle.layout.specs.Holds.{Each}
use Rattle.claim.specs.declared.Head.{Head}
use Rattle.claim.specs.declared.Problem.{Problem as ProblemStruct}
use Rattle.claim.specs.declared.Answer.{Answer as AnswerStruct}
use Rattle.claim.specs.Claims.{problem_of, basis_of, constants_of}
use Rattle.claim.specs.Sound.{SoundHead, SoundColumns, SoundBasis}
use Rattle.claim.specs.Holds.{holds_orders, holds_constants}
use Rattle.product.specs.Product.{flat_product}
use Rattle.product.specs.Claims.{product_rules}
use Rattle.laws.specs.SearchLaws.{some_below_cong}
use Rattle.drawn.specs.Horner.{horner_all}
use Rattle.drawn.specs.Rows.{ev_sum, rows_first, cut_value}
use Rattle.drawn.specs.Values.{combined}
use Rattle.drawn.specs.Columns.{drawn_constant, flat_value, other_than_zero, flat_zero}

-- r is the rules' answer on the claim that the arrays stand for, whatever lengths of P's entries they fit: the code does not read the lengths.
abbrev pub EveryColumn : Head → (f entries c u : List ℕ) → ℕ → Bool → Type 0
EveryColumn head f entries c u point r =
    (lengths : List ℕ) → SoundBasis head lengths entries
    → r ≡ every_column_zero (problem_of head f) (basis_of head.m lengths entries) (constants_of head.m head.n c) u point

-- The same of the code's structs.
abbrev pub EveryColumnIn : ProblemStruct → AnswerStruct → List ℕ → ℕ → Bool → Type 0
EveryColumnIn b a u point r = EveryColumn b.head b.f a.basis.entries a.c u point r

-- There are such lengths: all of them the largest.
full : List ℕ
full = replicate square most_length

full_most : (n k : ℕ) → get_or (replicate n most_length) k 0 ≤ most_length
full_most zero k = zero-le
full_most (suc n) zero = le_refl most_length
full_most (suc n) (suc k) = full_most n k

place_in_square : (i j : ℕ) → i < most_rows → j < most_rows → square_place i j < square
unfolding square_place most_rows
place_in_square i j hi hj = omega arith

full_at : (i j : ℕ) → i < most_rows → j < most_rows → length_at full i j ≡ most_length
unfolding full
full_at i j hi hj = get_or-replicate square (square_place i j) most_length 0 (place_in_square i j hi hj)

full_fits : (head : Head) (entries : List ℕ) → Each head.p entries → SoundBasis head full entries
unfolding full
full_fits head entries below =
    record {
      P_below = below;
      P_padded =
          record {
            length_most = full_most square;
            past_length = λ i j k hi hj h. cell_past entries i j k (subst (λ n. n ≤ k) (full_at i j hi hj) h);
          };
    }

-- So the contract leaves one answer.
pub every_column_one : (head : Head) (f entries c u : List ℕ) (point : ℕ) (r s : Bool) → Each head.p entries
    → EveryColumn head f entries c u point r → EveryColumn head f entries c u point s → r ≡ s
every_column_one head f entries c u point r s below hr hs = hr full (full_fits head entries below) ∙ sym (hs full (full_fits head entries below))

-- The coefficient of the product in row i, as a sum over the products of the entries.
product_terms : (p m : ℕ) (entries f : List ℕ) (i j k : ℕ)
    → flat_product p entries f m i j k ≡ sum (K p) m (λ l. convolve (K p) (cells p entries i l) (column_cells p f l j) k)
unfolding flat_product mmul vmul coefficient
product_terms p m entries f i j k = coefficient_sum (K p) (pos k) m (λ l. convolve (K p) (cells p entries i l) (column_cells p f l j))

-- Combined by u, it is that of the combined row.
combined_terms : (p m : ℕ) (entries f u : List ℕ) (j k : ℕ)
    → sum (K p) m (λ i. (K p).◌⊗◌ (red p (get_or u i 0)) (flat_product p entries f m i j k))
    ≡ sum (K p) m (λ l. convolve (K p) (column_cells p f l j) (combined p m u entries l) k)
unfolding combined
combined_terms p m entries f u j k =
    sum_cong (K p) m (λ i. (K p).◌⊗◌ (red p (get_or u i 0)) (flat_product p entries f m i j k))
    (λ i. (K p).◌⊗◌ (red p (get_or u i 0)) (sum (K p) m (λ l. convolve (K p) (cells p entries i l) (column_cells p f l j) k)))
    (λ i h. ap (λ x. (K p).◌⊗◌ (red p (get_or u i 0)) x) (product_terms p m entries f i j k))
    ∙ rows_first (K p) m m (λ i. red p (get_or u i 0)) (cells p entries) (λ l. column_cells p f l j) k

module _ (head : Head) (f lengths entries c u : List ℕ) (point : ℕ) (sound_head : SoundHead head) (sound_columns : SoundColumns head f)
    (sound_basis : SoundBasis head lengths entries) where
  open K head.p use {𝟘, ◌⊕◌, ◌⊗◌, ⊖◌}

  infixl 60 ◌⊕◌
  infixl 70 ◌⊗◌
  infix 80 ⊖◌
  abbrev b : Problem
  b = problem_of head f

  abbrev P : List (List (List ℕ))
  P = basis_of head.m lengths entries

  abbrev C : List (List ℕ)
  C = constants_of head.m head.n c

  -- The number of C, and the coefficient of the product, that the arrays hold.
  abbrev constant : ℕ → ℕ → Residue head.p
  constant i j = red head.p (get_or c (square_place i j) 0)

  abbrev flat : ℕ → ℕ → ℕ → Residue head.p
  flat i j k = flat_product head.p entries f head.m i j k

  flat_rules : (i j k : ℕ) → i < head.m → j < head.n → product b P i j k ≡ flat i j k
  flat_rules i j k hi hj = sym (product_rules head f lengths entries sound_head sound_columns sound_basis i j hi hj k)

  -- The cut coefficients, below the order and at it.
  abbrev placed : Bool → Bool → ℕ → ℕ → ℕ → Residue head.p
  placed before at i j k = elim before [ true ↦ product b P i j k | false ↦ elim at [ true ↦ product b P i j k ⊕ ⊖ matrix_C b C i j | false ↦ 𝟘 ] ]

  cut_below : (i j k : ℕ) → i < head.m → j < head.n → k < order b j → cut b P C i j k ≡ flat i j k
  unfolding cut
  cut_below i j k hi hj h = ap (λ t. placed t (eqb k (order b j)) i j k) (lt-ltb k (order b j) h) ∙ flat_rules i j k hi hj

  cut_at : (i j : ℕ) → i < head.m → j < head.n → cut b P C i j (order b j) ≡ flat i j (order b j) ⊕ ⊖ constant i j
  unfolding cut
  cut_at i j hi hj =
      ap₂ (λ s t. placed s t i j (order b j)) (le-ltb (order b j) (order b j) (le_refl (order b j))) (eq-eqb (order b j) (order b j) refl)
      ∙ ap₂ (λ x y. x ⊕ ⊖ red head.p y) (flat_rules i j (order b j) hi hj) (sym (holds_constants head f c i j hi hj))

  -- A column's value.
  abbrev product_of : ℕ → ℕ → ℕ → Residue head.p
  product_of j l = convolve (K head.p) (column_cells head.p f l j) (combined head.p head.m u entries l)

  abbrev at_order : ℕ → Residue head.p
  at_order j = power (K head.p) (red head.p point) (order b j) ⊗ drawn_constant head.p head.m f entries c u point j

  pub value_rules : (j : ℕ) → j < head.n
      → flat_value head.p head.m f entries c u point (get_or head.orders j 0) j ≡ drawn_value b P C u point j
  unfolding flat_value drawn_value cut_row drawn_constant
  value_rules j hj =
      ap (λ d. flat_value head.p head.m f entries c u point d j) (holds_orders head f j hj)
      ∙ horner_all (K head.p) head.m (red head.p point) (order b j) (λ l. column_cells head.p f l j)
      (combined head.p head.m u entries) (drawn_constant head.p head.m f entries c u point j)
      ∙ ap (λ x. x ⊕ ⊖ at_order j)
      (sym (ev_sum (K head.p) (suc (order b j)) head.m (red head.p point) (product_of j))
      ∙ ap (ev (K head.p) (suc (order b j)) (red head.p point)) (fun_ext (λ k. sym (combined_terms head.p head.m entries f u j k))))
      ∙ sym
      (cut_value (K head.p) head.m (order b j) (red head.p point) (λ i. red head.p (get_or u i 0)) (λ i. constant i j)
      (λ i. flat i j) (λ i. cut b P C i j) (λ i k hi h. cut_below i j k hi hj h) (λ i hi. cut_at i j hi hj))

  -- "every column gives 0"
  pub zero_rules : flat_zero head f entries c u point ≡ every_column_zero b P C u point
  unfolding flat_zero every_column_zero
  zero_rules =
      ap not
      (some_below_cong head.n (other_than_zero head f entries c u point)
      (λ j. not (is_zero head.p (drawn_value b P C u point j))) (λ j hj. ap (λ x. not (is_zero head.p x)) (value_rules j hj)))
