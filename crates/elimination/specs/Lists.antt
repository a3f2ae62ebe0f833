-- Stores into lists, read back.
--   exchanged                two elements that change places
--   kept_set                 what holds of every element, and of the one that is stored, holds of every element after the store
use Rattle.std.specs.Prelude.{◌≡◌, List, ℕ, ◌<◌, length, get_or, set}
use Rattle.std.proofs.Common.{sym, ap, subst, ◌∙◌, length-set, get_or-set_same, get_or-set_other}
use Rattle.std.proofs.Math.Logic.{by_cases}
use Rattle.std.proofs.Math.Decide.{ℕ_discrete}
use Rattle.algebra.specs.Sum.{swap, swap_cases}

-- Storing the elements at i and at k each in the other's place exchanges them.
pub exchanged : {A : Type 0} (d : A) (a : List A) (i k : ℕ) → i < length a → k < length a → (j : ℕ) → get_or (set (set a i (get_or a k d)) k (get_or a i d)) j d
    ≡ get_or a (swap i k j) d
exchanged {A} d a i k hi hk =
    swap_cases i k (λ j s. get_or (set (set a i (get_or a k d)) k (get_or a i d)) j d ≡ get_or a s d)
    (by_cases (ℕ_discrete i k) (λ e. ap (λ j. get_or (set (set a i (get_or a k d)) k (get_or a i d)) j d) e ∙ there ∙ ap (λ j. get_or a j d) e)
    (λ ne. get_or-set_other (set a i (get_or a k d)) k i (get_or a i d) d ne ∙ get_or-set_same a i (get_or a k d) d hi))
    there
    (λ j ni nk. get_or-set_other (set a i (get_or a k d)) k j (get_or a i d) d nk ∙ get_or-set_other a i j (get_or a k d) d ni)
  where
    there : get_or (set (set a i (get_or a k d)) k (get_or a i d)) k d ≡ get_or a i d
    there = get_or-set_same (set a i (get_or a k d)) k (get_or a i d) d (rw length-set hk)

-- What holds of every element, and of the one that is stored, holds of every element after the store.
pub kept_set : {A : Type 0} (P : A → Type 0) (d : A) (a : List A) (i : ℕ) (x : A) → i < length a → ((j : ℕ) → P (get_or a j d)) → P x → (j : ℕ) → P
    (get_or (set a i x) j d)
kept_set P d a i x h all here j = by_cases (ℕ_discrete j i)
    (λ e. subst P (sym (ap (λ k. get_or (set a i x) k d) e ∙ get_or-set_same a i x d h)) here)
    (λ ne. subst P (sym (get_or-set_other a i j x d ne)) (all j))
