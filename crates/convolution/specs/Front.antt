-- Arrays that are filled from the front.
--   front_more               one more number
use Rattle.std.proofs.Common.{sym, subst, arith, get_or-set_same, get_or-set_other}
use Rattle.std.specs.Prelude.{List, ℕ, ◌+◌, ◌<◌, length, get_or, set}
use Rattle.std.proofs.Math.Decide.{ℕ_discrete}

-- The numbers of l from the front on satisfy P 0, P 1, …, and one more does.
pub front_more : (P : ℕ → ℕ → Type 0) (n : ℕ) (l : List ℕ) (x : ℕ) → n < length l → P n x → ((i : ℕ) → i < n → P i (get_or l i 0))
    → (i : ℕ) → i < n + 1 → P i (get_or (set l n x) i 0)
front_more P n l x fits holds below i h = elim (ℕ_discrete i n) [
  | yes q ↦ subst (λ j. P j (get_or (set l n x) j 0)) (sym q) (subst (P n) (sym (get_or-set_same l n x 0 fits)) holds)
  | no ne ↦ subst (P i) (sym (get_or-set_other l n i x 0 ne)) (below i (omega arith))
]
