-- The rows are taken one after the other: what is left to take gives the whole choice.
--   Folds                    the arrays reflect a choice, from which the rows left give the whole one
--   folds_start, folds_taken, folds_none, folds_end        before any row, after one was taken, where none waits, after all
use Rattle.std.specs.Prelude.{◌≡◌, Bool, true, List, ℤ, set}
use Rattle.std.proofs.Math.Path.{refl, sym, ap}
use Rattle.std.proofs.Common.{◌∙◌}
use Rattle.std.specs.Prelude.{None, Some}
use Prim.Native.Nat.{ℕ, zero, suc}
use Rattle.algebra.specs.Residue.{K}
use Rattle.algebra.specs.Matrix.{Matrix}
use Rattle.algebra.specs.Clearing.{less}
use Rattle.algebra.specs.Step.{once}
use Rattle.rules.specs.Sizes.{most_rows}
use Rattle.rules.specs.Maker.{Chosen, none_taken, next_row, take_row, take_rows}
use Rattle.laws.specs.RowOrder.{next_row_some}
use Rattle.laws.specs.ChoiceLocal.{next_row_cong}
use Rattle.pivots.specs.Order.{is_taken}
use Rattle.pivots.specs.Reduced.{all}
use Rattle.pivots.specs.State.{Reflects, Takes, Chose}

module _ (p m : ℕ) (degree : ℕ → ℤ) (A : Matrix (K p)) where
  -- The whole choice.
  abbrev pub whole : Chosen p
  whole = take_rows p m most_rows all degree A m (none_taken p)

  pub record Folds (left : ℕ) (taken : List Bool) (moves residuals work factors : List ℕ) : Type 0 where
    pub so_far : Chosen p
    pub rest : take_rows p m most_rows all degree A left so_far ≡ whole
    pub reflects : Reflects p m A so_far taken moves residuals work factors

  pub folds_start : (taken : List Bool) (moves residuals work factors : List ℕ) → Reflects p m A (none_taken p) taken moves residuals work factors
      → Folds m taken moves residuals work factors
  folds_start taken moves residuals work factors h = record { so_far = none_taken p; rest = refl; reflects = h }

  module _ (left : ℕ) (taken : List Bool) (moves residuals work factors : List ℕ) (h : Folds (suc left) taken moves residuals work factors) where
    abbrev c : Chosen p
    c = h.so_far

    next_is : next_row m degree (is_taken taken) ≡ next_row m degree c.taken
    next_is = next_row_cong m degree degree (is_taken taken) c.taken (λ i hi. refl) h.reflects.taken_is

    -- A row is taken …
    pub folds_taken : (moves' residuals' work' factors' : List ℕ) (r : ℕ) → Some r ≡ next_row m degree (is_taken taken)
        → Takes p m r (set taken r true) moves residuals work factors moves' residuals' work' factors'
        → Folds left (set taken r true) moves' residuals' work' factors'
    unfolding take_rows
    folds_taken moves' residuals' work' factors' r found takes = record {
      so_far = take_row p m most_rows all A r c;
      rest =
          sym (ap {B = Chosen p} (λ o. elim o [ None ↦ c | Some i ↦ take_rows p m most_rows all degree A left (take_row p m most_rows all A i c) ]) some_is)
          ∙ h.rest;
      reflects = takes A c taken refl (next_row_some degree c.taken m r some_is).1 h.reflects;
    }
      where
        some_is : next_row m degree c.taken ≡ Some r
        some_is = sym (found ∙ next_is)

    -- … or none waits.
    pub folds_none : None ≡ next_row m degree (is_taken taken) → Folds left taken moves residuals work factors
    unfolding take_rows
    folds_none found = record {
      so_far = c;
      rest =
          none_left left
          ∙ sym (ap {B = Chosen p} (λ o. elim o [ None ↦ c | Some i ↦ take_rows p m most_rows all degree A left (take_row p m most_rows all A i c) ]) none_is)
          ∙ h.rest;
      reflects = h.reflects;
    }
      where
        none_is : next_row m degree c.taken ≡ None
        none_is = sym (found ∙ next_is)

        none_left : (count : ℕ) → take_rows p m most_rows all degree A count c ≡ c
        none_left zero = refl
        none_left (suc count) =
            ap {B = Chosen p} (λ o. elim o [ None ↦ c | Some i ↦ take_rows p m most_rows all degree A count (take_row p m most_rows all A i c) ]) none_is

  -- When no more are to be taken, the arrays say what was chosen.
  pub folds_end : (taken : List Bool) (moves residuals work factors : List ℕ) → Folds zero taken moves residuals work factors → Chose p whole moves factors
  unfolding take_rows
  folds_end taken moves residuals work factors h = record {
    moves_full = h.reflects.room.moves_full;
    factors_full = h.reflects.room.factors_full;
    factors_below = h.reflects.room.factors_below;
    moves_is = λ i. h.reflects.moves_is i ∙ ap (λ (c : Chosen p). once (c.pivot i)) h.rest;
    factors_is = λ i q hi hq. h.reflects.factors_is i q hi hq ∙ ap (λ (c : Chosen p). less (K p) c.multipliers i q) h.rest;
  }
