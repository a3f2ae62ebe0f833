-- What each turn of elimination's loops leaves, from what the turn before left.
--   row_less_start, row_less_more          a column of a row
--   cleared_start, cleared_more            a row of the matrix
--   exchanged_below, stepped, stepped_last a step
--   left_start, left_passed, left_stepped, left_settles      a column of the matrix, and the end
--   settles_det                            from dependence to determinants
use Rattle.std.specs.Prelude.{◌≡◌, refl, ◌≢◌, ◌↔◌, Bool, List, [], ℕ, None, ◌+◌, ◌-◌, ◌*◌, ◌%◌, ◌≤◌, ◌<◌, ltb, length, get_or, set}
use Rattle.std.proofs.Common.{sym, ap, ap₂, subst, ◌∙◌, le_of_lt, mod-eq_of_lt, arith, below_more, ltb-true, ltb-false, get_or-set_same, get_or-set_other}
use Rattle.std.proofs.Math.Path.{fun_ext}
use Rattle.std.proofs.Math.Logic.Iff
use Rattle.algebra.specs.Prime.{Prime}
use Rattle.algebra.specs.Residue.{K, red, K_decides, K_nontrivial, K_inverse, K_inverts}
use Rattle.algebra.proofs.Residue.{K_cancels}
use Rattle.algebra.specs.Sum.{swap, swap_left, swap_cases, exchange}
use Rattle.algebra.specs.Det.{det}
use Rattle.algebra.specs.Dependence.{Dependent}
use Rattle.algebra.proofs.Elimination.{dependent_iff_det_zero}
use Rattle.rules.specs.Inverse.{InverseOf}
use Rattle.laws.specs.InverseLaws.{inverse_exists}
use Rattle.field.specs.Laws.{remainder_below, red_of_sub, red_of_mul, red_of_inverse}
use Rattle.elimination.specs.Steps.{Rest, rest_start, rest_exchange, rest_zero_column, rest_clear, rest_no_rows, rest_no_columns}
use Rattle.elimination.specs.Lists.{kept_set}
use Rattle.layout.specs.Settles.{Settles}
use Rattle.layout.specs.Holds.{Each}
use Rattle.elimination.specs.Grid.{at, grid, Below, Found, Exchanged, RowLess, Cleared, Stepped, Left}

-- Where there are numbers below p, p is above 0.
pub positive_of_row : (p : ℕ) (x : List ℕ) → Each p x → 0 < p
positive_of_row p x below = omega (arith, below 0)

module _ (p : ℕ) where
  open K p use {𝟘, 𝟙, ◌⊕◌, ◌⊗◌, ⊖◌}

  infixl 60 ◌⊕◌
  infixl 70 ◌⊗◌
  infix 80 ⊖◌
  -- At first nothing is taken from the row …
  pub row_less_start : (x : List ℕ) (f : ℕ) (y : List ℕ) (c : ℕ) → Each p x → RowLess p x f y c c x
  row_less_start x f y c below = record { row_below = below; less = λ j hi lo. absurd (omega arith); stay = λ j h. refl }

  -- … and a turn takes f times y's entry from the next one.
  pub row_less_more : (x : List ℕ) (f : ℕ) (y : List ℕ) (c j : ℕ) (z : List ℕ) (product w : ℕ) → RowLess p x f y c j z → j < length z
      → product ≡ f * get_or y j 0 % p → w ≡ (get_or z j 0 + (p - product)) % p → RowLess p x f y c (j + 1) (set z j w)
  row_less_more x f y c j z product w so_far inside ep ew =
      record {
        row_below = kept_set (λ a. a < p) 0 z j w inside so_far.row_below (remainder_below p _ w positive ew);
        less =
            below_more (λ k. c ≤ k → red p (get_or (set z j w) k 0) ≡ red p (get_or x k 0) ⊕ ⊖ (red p f ⊗ red p (get_or y k 0))) j
            (λ k h lo. ap (red p) (get_or-set_other z j k w 0 (λ q. omega arith)) ∙ so_far.less k h lo)
            (λ lo. ap (red p) (get_or-set_same z j w 0 inside) ∙ taken ∙ ap (λ a. red p a ⊕ ⊖ (red p f ⊗ red p (get_or y j 0))) (so_far.stay j (omega arith)));
        stay = λ k h. get_or-set_other z j k w 0 (λ q. omega arith) ∙ so_far.stay k (omega arith);
      }
    where
      positive : 0 < p
      positive = positive_of_row p z so_far.row_below

      taken : red p w ≡ red p (get_or z j 0) ⊕ ⊖ (red p f ⊗ red p (get_or y j 0))
      taken = red_of_sub p (get_or z j 0) product w (le_of_lt (remainder_below p _ product positive ep)) ew ∙ ap (λ a. red p (get_or z j 0) ⊕ ⊖ a)
          (red_of_mul p f (get_or y j 0) product ep)

  -- At first no row is cleared …
  pub cleared_start : (a : List (List ℕ)) (v r c n : ℕ) → Below p a → Cleared p a v r c (r + 1) n a
  cleared_start a v r c n below = record { below = below; kept = refl; rows = λ i hi lo. absurd (omega arith); stay = λ i h. refl }

  -- … and a turn clears the next one.
  pub cleared_more : (a : List (List ℕ)) (v r c n i : ℕ) (b : List (List ℕ)) (f : ℕ) (z : List ℕ) → Cleared p a v r c i n b → r < i → i < length b
      → f ≡ at b i c * v % p → RowLess p (get_or b i []) f (get_or a r []) c n z → Cleared p a v r c (i + 1) n (set b i z)
  cleared_more a v r c n i b f z so_far lower inside ef row =
      record {
        below = kept_set (Each p) [] b i z inside so_far.below row.row_below;
        kept = get_or-set_other b i r z [] (λ q. omega arith) ∙ so_far.kept;
        rows =
            below_more (λ k. r < k → (j : ℕ) → j < n → c ≤ j → grid p (set b i z) k j ≡ grid p a k j ⊕ ⊖ (grid p a k c ⊗ red p v ⊗ grid p a r j)) i
            (λ k h lo j hj cj. ap (λ w. red p (get_or w j 0)) (get_or-set_other b i k z [] (λ q. omega arith)) ∙ so_far.rows k h lo j hj cj)
            (λ lo j hj cj. ap (λ w. red p (get_or w j 0)) (get_or-set_same b i z [] inside) ∙ row.less j hj cj ∙ ap₂ (λ s t. s ⊕ ⊖ (t ⊗ grid p a r j))
            (ap (λ w. red p (get_or w j 0)) same) factor);
        stay = λ k h. get_or-set_other b i k z [] (λ q. omega arith) ∙ so_far.stay k (omega arith);
      }
    where
      same : get_or b i [] ≡ get_or a i []
      same = so_far.stay i (omega arith)

      factor : red p f ≡ grid p a i c ⊗ red p v
      factor = red_of_mul p (at b i c) v f ef ∙ ap (λ w. red p (get_or w c 0) ⊗ red p v) same

  -- Exchanging rows keeps the bound on the entries.
  pub exchanged_below : (a : List (List ℕ)) (i k : ℕ) (b : List (List ℕ)) → Exchanged a i k b → Below p a → Below p b
  exchanged_below a i k b exchanged below j = subst (Each p) (sym (exchanged j)) (below (swap i k j))

  -- An exchange and the clearing of the rows below are a step.
  pub stepped : Prime p → (a : List (List ℕ)) (r c k m n v : ℕ) (s b : List (List ℕ)) → r ≤ k → k < m → c < n → InverseOf p (at a k c) v
      → Exchanged a r k s → Cleared p s v r c m n b → Stepped p a r c m n b
  stepped prime a r c k m n v s b low high hc inverse exchanged cleared =
      record {
        below = cleared.below;
        same =
            Iff.trans (rest_exchange (K p) m n r c k (grid p a) low high)
            (subst (λ M. Rest (K p) m n r c M ↔ Rest (K p) m n (r + 1) (c + 1) (grid p b)) exchanged_grid
            (rest_clear (K p) (K_decides p) (K_cancels p prime) (K_nontrivial p prime.two_le) m n r c (grid p s) (grid p b) (red p v)
            (omega arith) hc inverts
            (λ j. ap (λ w. red p (get_or w j 0)) cleared.kept) cleared.rows));
      }
    where
      exchanged_grid : grid p s ≡ exchange r k (grid p a)
      exchanged_grid = fun_ext (λ i. fun_ext (λ j. ap (λ w. red p (get_or w j 0)) (exchanged i)))

      entry : grid p s r c ≡ red p (at a k c)
      entry = ap (λ w. red p (get_or w c 0)) (exchanged r ∙ ap (λ i. get_or a i []) (swap_left r k))

      inverts : grid p s r c ⊗ red p v ≡ 𝟙
      inverts = ap (λ x. x ⊗ red p v) entry ∙ red_of_inverse p prime (at a k c) v inverse

  -- The last row's step has nothing to exchange and nothing to clear.
  pub stepped_last : Prime p → (a : List (List ℕ)) (r c k m n : ℕ) → r ≤ k → k < m → r + 1 ≡ m → c < n → at a k c ≢ 0 → at a k c < p → Below p a
      → Stepped p a r c m n a
  stepped_last prime a r c k m n low high last hc nonzero small below =
      let (v, inverse) = inverse_exists p prime (at a k c) (λ z. nonzero (sym (mod-eq_of_lt small) ∙ z)) in
      stepped prime a r c k m n v a a low high hc inverse
      (swap_cases r k (λ i j. get_or a i [] ≡ get_or a j []) (ap row (omega arith)) (ap row (omega arith)) (λ i ni nk. refl))
      (record { below = below; kept = refl; rows = λ i hi hr. absurd (omega arith); stay = λ i h. refl })
    where
      row : ℕ → List ℕ
      row i = get_or a i []

  -- At first all of a is left …
  pub left_start : (a : List (List ℕ)) (m n : ℕ) → Below p a → Left p a m n 0 0 a
  left_start a m n below = record { row_in = omega arith; column_in = omega arith; below = below; same = Iff.symm (rest_start (K p) m n (grid p a)) }

  -- … a column with no entry other than 0 is passed …
  pub left_passed : (a : List (List ℕ)) (m n r c : ℕ) (b : List (List ℕ)) → Left p a m n r c b → c < n → Found b c r m None → Left p a m n r
      (c + 1) b
  left_passed a m n r c b left hc none =
      record {
        row_in = left.row_in;
        column_in = omega arith;
        below = left.below;
        same = Iff.trans left.same (rest_zero_column (K p) m n r c (grid p b) hc (λ i lo hi. ap (red p) (none i hi lo)));
      }

  -- … a step goes on by a row and a column …
  pub left_stepped : (a : List (List ℕ)) (m n r c : ℕ) (b d : List (List ℕ)) → Left p a m n r c b → r < m → c < n → Stepped p b r c m n d → Left p a m n (r + 1)
      (c + 1) d
  left_stepped a m n r c b d left hr hc step =
      record { row_in = omega arith; column_in = omega arith; below = step.below; same = Iff.trans left.same step.same }

  -- … and where no columns are left, the rows are dependent exactly if some are left.
  pub left_settles : 2 ≤ p → (a : List (List ℕ)) (m n r c : ℕ) (b : List (List ℕ)) → Left p a m n r c b → n ≤ c → Settles (Dependent (K p) m n (grid p a))
      (ltb r m)
  left_settles two a m n r c b left end =
      record {
        holds = λ e. left.same.1 (rest_no_columns (K p) (K_nontrivial p two) m n r c (grid p b) (ltb-true r m e) end);
        fails = λ e d. rest_no_rows (K p) m n r c (grid p b) (ltb-false r m e) (left.same.0 d);
      }

  -- The rows of a square are dependent exactly if its determinant is 0.
  pub settles_det : Prime p → (m : ℕ) (a : List (List ℕ)) (r : Bool) → Settles (Dependent (K p) m m (grid p a)) r → Settles (det (K p) m (grid p a) ≡ 𝟘) r
  settles_det prime m a r settles = record { holds = λ e. iff.0 (settles.holds e); fails = λ e z. settles.fails e (iff.1 z) }
    where
      iff : Dependent (K p) m m (grid p a) ↔ (det (K p) m (grid p a) ≡ 𝟘)
      iff = dependent_iff_det_zero (K p) (K_decides p) (K_inverse p) (K_inverts p prime) (K_nontrivial p prime.two_le) m (grid p a)
