-- What each turn of the loops over rows leaves, from what the turn before left.
--   identity_start, identity_more            the identity, row by row
--   copied_start, copied_more, less_start, less_more         a row, column by column
--   both_less                one row of both squares
--   cleared_start, cleared_more, cleared_passed              all rows that wait
use Rattle.std.specs.Prelude.{◌≡◌, refl, ◌≢◌, Bool, false, List, ℕ, ◌+◌, ◌-◌, ◌*◌, ◌%◌, ◌<◌, length, get_or, set}
use Rattle.std.proofs.Common.{sym, ap, ap₂, subst, ◌∙◌, le_of_lt, arith, below_more, length-set}
use Rattle.algebra.specs.Residue.{K, red}
use Rattle.rules.specs.Sizes.{most_rows}
use Rattle.layout.specs.Flat.{square_place}
use Rattle.layout.specs.Holds.{Each}
use Rattle.field.specs.Laws.{remainder_below, red_of_sub, red_of_mul}
use Rattle.pivots.specs.Rows.{Full, number_at, square_of, place_inside, number_set, number_stays, each_set, Identity, Copied, RowLess, BothLess, Cleared}

-- A place is within a list of the full length.
inside : (l : List ℕ) (i j : ℕ) → Full l → i < most_rows → j < most_rows → square_place i j < length l
inside l i j e hi hj = subst (λ n. square_place i j < n) (sym e) (place_inside i j hi hj)

pub identity_start : (l : List ℕ) → Full l → ((k : ℕ) → get_or l k 0 ≡ 0) → Identity 0 l
identity_start l full zero = record {
  full = full;
  small = λ k. omega (arith, zero k);
  diagonal = λ i h. absurd (omega arith);
  off = λ i j hi hj ne. zero (square_place i j);
}

pub identity_more : (l : List ℕ) (i : ℕ) → i < most_rows → Identity i l → Identity (i + 1) (set l (square_place i i) 1)
identity_more l i hi so_far = record {
  full = length-set l (square_place i i) 1 ∙ so_far.full;
  small = each_set 2 l (square_place i i) 1 (inside l i i so_far.full hi hi) so_far.small (omega arith);
  diagonal = below_more (λ k. number_at (set l (square_place i i) 1) k k ≡ 1) i
      (λ k h. number_stays l i i 1 k k hi (omega arith) (λ z. absurd (omega arith)) ∙ so_far.diagonal k h) (number_set l i i 1 so_far.full hi hi);
  off = λ a b ha hb ne. number_stays l i i 1 a b hi hb (λ z w. ne (z ∙ sym w)) ∙ so_far.off a b ha hb ne;
}

module _ (before rows : List ℕ) (i : ℕ) where
  pub copied_start : Full before → Copied before rows i 0 before
  copied_start full = record { full = full; below = λ p b r. b; copied = λ j h. absurd (omega arith); stays = λ a b hb h. refl }

  pub copied_more : (after : List ℕ) (j : ℕ) → i < most_rows → j < most_rows → Copied before rows i j after
      → Copied before rows i (j + 1) (set after (square_place i j) (number_at rows i j))
  copied_more after j hi hj so_far = record {
    full = length-set after (square_place i j) (number_at rows i j) ∙ so_far.full;
    below = λ p b r. each_set p after (square_place i j) (number_at rows i j) (inside after i j so_far.full hi hj) (so_far.below p b r) (r (square_place i j));
    copied = below_more (λ k. number_at (set after (square_place i j) (number_at rows i j)) i k ≡ number_at rows i k) j
        (λ k h. number_stays after i j (number_at rows i j) i k hj (omega arith) (λ z w. absurd (omega arith)) ∙ so_far.copied k h)
        (number_set after i j (number_at rows i j) so_far.full hi hj);
    stays = λ a b hb h.
        number_stays after i j (number_at rows i j) a b hj hb (λ z w. absurd (omega (arith, h z)))
        ∙ so_far.stays a b hb (λ z. omega (arith, h z));
  }

module _ (p : ℕ) where
  open K p use {◌⊕◌, ◌⊗◌, ⊖◌}

  infixl 60 ◌⊕◌
  infixl 70 ◌⊗◌
  infix 80 ⊖◌
  module _ (before : List ℕ) (i f r : ℕ) where
    pub less_start : Full before → Each p before → RowLess p before i f r 0 before
    less_start full below = record { full = full; below = below; less = λ j h. absurd (omega arith); stays = λ a b hb h. refl }

    pub less_more : (after : List ℕ) (j product x : ℕ) → i < most_rows → j < most_rows → RowLess p before i f r j after
        → product ≡ f * number_at after r j % p → x ≡ (number_at after i j + (p - product)) % p
        → RowLess p before i f r (j + 1) (set after (square_place i j) x)
    less_more after j product x hi hj so_far ep ex = record {
      full = length-set after (square_place i j) x ∙ so_far.full;
      below = each_set p after (square_place i j) x (inside after i j so_far.full hi hj) so_far.below (remainder_below p _ x positive ex);
      less = below_more (λ k. square_of p (set after (square_place i j) x) i k ≡ square_of p before i k ⊕ ⊖ (red p f ⊗ square_of p before r k)) j
          (λ k h. ap (red p) (number_stays after i j x i k hj (omega arith) (λ z w. absurd (omega arith))) ∙ so_far.less k h)
          (ap (red p) (number_set after i j x so_far.full hi hj)
          ∙ red_of_sub p (number_at after i j) product x (le_of_lt (remainder_below p _ product positive ep)) ex
          ∙ ap (λ y. square_of p after i j ⊕ ⊖ y) (red_of_mul p f (number_at after r j) product ep)
          ∙ ap₂ (λ y z. red p y ⊕ ⊖ (red p f ⊗ red p z)) (so_far.stays i j hj (λ z. omega arith)) (so_far.stays r j hj (λ z. omega arith)));
      stays = λ a b hb h.
          number_stays after i j x a b hj hb (λ z w. absurd (omega (arith, h z))) ∙ so_far.stays a b hb (λ z. omega (arith, h z));
    }
      where
        positive : 0 < p
        positive = omega (arith, so_far.below 0)

  -- The multiple is the same for both squares.
  pub both_less : (residuals work : List ℕ) (k r c v f : ℕ) (residuals' work' : List ℕ) → f ≡ number_at residuals k c * v % p
      → RowLess p residuals k f r most_rows residuals' → RowLess p work k f r most_rows work' → BothLess p residuals work k r c v residuals' work'
  both_less residuals work k r c v f residuals' work' ef x y = record {
    residuals_full = x.full;
    work_full = y.full;
    residuals_below = x.below;
    work_below = y.below;
    residuals_less = λ j hj. x.less j hj ∙ ap (λ z. square_of p residuals k j ⊕ ⊖ (z ⊗ square_of p residuals r j)) multiple;
    work_less = λ j hj. y.less j hj ∙ ap (λ z. square_of p work k j ⊕ ⊖ (z ⊗ square_of p work r j)) multiple;
    residuals_stay = λ a b hb ne. x.stays a b hb (λ z. absurd (ne z));
    work_stay = λ a b hb ne. y.stays a b hb (λ z. absurd (ne z));
  }
    where
      multiple : red p f ≡ square_of p residuals k c ⊗ red p v
      multiple = red_of_mul p (number_at residuals k c) v f ef

  module _ (residuals work : List ℕ) (taken : List Bool) (r c v : ℕ) where
    pub cleared_start : Full residuals → Full work → Each p residuals → Each p work → Cleared p residuals work taken r c v 0 residuals work
    cleared_start full full' x y = record {
      residuals_full = full;
      work_full = full';
      residuals_below = x;
      work_below = y;
      residuals_less = λ k j h. absurd (omega arith);
      work_less = λ k j h. absurd (omega arith);
      residuals_stay = λ a b hb h. refl;
      work_stay = λ a b hb h. refl;
    }

    module _ (k : ℕ) (residuals' work' : List ℕ) (so_far : Cleared p residuals work taken r c v k residuals' work') where
      -- Row k waits, …
      pub cleared_more : (residuals'' work'' : List ℕ) → get_or taken k false ≡ false → get_or taken r false ≢ false → c < most_rows
          → BothLess p residuals' work' k r c v residuals'' work'' → Cleared p residuals work taken r c v (k + 1) residuals'' work''
      cleared_more residuals'' work'' waits rests hc x = record {
        residuals_full = x.residuals_full;
        work_full = x.work_full;
        residuals_below = x.residuals_below;
        work_below = x.work_below;
        residuals_less = λ a j h hj. below_more
            (λ a. get_or taken a false ≡ false → square_of p residuals'' a j ≡ square_of p residuals a j ⊕ ⊖ (square_of p residuals a c ⊗ red p v ⊗ square_of p residuals r j)) k
            (λ a h w. ap (red p) (x.residuals_stay a j hj (λ z. absurd (omega arith))) ∙ so_far.residuals_less a j h hj w)
            (λ w. x.residuals_less j hj
            ∙ ap (λ z. red p z ⊕ ⊖ (square_of p residuals' k c ⊗ red p v ⊗ square_of p residuals' r j)) (here j hj)
            ∙ ap₂ (λ y z. square_of p residuals k j ⊕ ⊖ (red p y ⊗ red p v ⊗ red p z)) (here c hc) (so_far.residuals_stay r j hj (λ z. rests))) a h;
        work_less = λ a j h hj. below_more
            (λ a. get_or taken a false ≡ false → square_of p work'' a j ≡ square_of p work a j ⊕ ⊖ (square_of p residuals a c ⊗ red p v ⊗ square_of p work r j)) k
            (λ a h w. ap (red p) (x.work_stay a j hj (λ z. absurd (omega arith))) ∙ so_far.work_less a j h hj w)
            (λ w. x.work_less j hj
            ∙ ap (λ z. red p z ⊕ ⊖ (square_of p residuals' k c ⊗ red p v ⊗ square_of p work' r j)) (so_far.work_stay k j hj (λ z. absurd (omega arith)))
            ∙ ap₂ (λ y z. square_of p work k j ⊕ ⊖ (red p y ⊗ red p v ⊗ red p z)) (here c hc) (so_far.work_stay r j hj (λ z. rests))) a h;
        residuals_stay = λ a b hb h.
            x.residuals_stay a b hb (λ z. h (omega arith) (ap (λ y. get_or taken y false) z ∙ waits)) ∙ so_far.residuals_stay a b hb (λ z. h (omega arith));
        work_stay = λ a b hb h.
            x.work_stay a b hb (λ z. h (omega arith) (ap (λ y. get_or taken y false) z ∙ waits)) ∙ so_far.work_stay a b hb (λ z. h (omega arith));
      }
        where
          here : (j : ℕ) → j < most_rows → number_at residuals' k j ≡ number_at residuals k j
          here j hj = so_far.residuals_stay k j hj (λ z. absurd (omega arith))

      -- … or it does not.
      pub cleared_passed : get_or taken k false ≢ false → Cleared p residuals work taken r c v (k + 1) residuals' work'
      cleared_passed rests = record {
        residuals_full = so_far.residuals_full;
        work_full = so_far.work_full;
        residuals_below = so_far.residuals_below;
        work_below = so_far.work_below;
        residuals_less = λ a j h hj w. so_far.residuals_less a j (other a h w) hj w;
        work_less = λ a j h hj w. so_far.work_less a j (other a h w) hj w;
        residuals_stay = λ a b hb h. so_far.residuals_stay a b hb (λ z. h (omega arith));
        work_stay = λ a b hb h. so_far.work_stay a b hb (λ z. h (omega arith));
      }
        where
          other : (a : ℕ) → a < k + 1 → get_or taken a false ≡ false → a < k
          other a = below_more (λ a. get_or taken a false ≡ false → a < k) k (λ a h w. h) (λ w. absurd (rests w)) a
