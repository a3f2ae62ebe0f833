-- What stands in a list after things have been poured into it one after the other, each into a block of its own.
--   Blocks                   a way to put a thing: it changes its own block alone, and fills one that holds e alone with what the thing's parts say
--   poured_length, poured_below, poured_above, poured_at      after all of them
--   pour_both, pour_same     two rooms, two ways to put
--   Every, every_set, every_pour      what holds at every place
--   All, all_of              what holds of each member
use Rattle.std.specs.Prelude.{◌≡◌, length, set}
use Rattle.std.proofs.Math.Path.{refl, sym, ap}
use Rattle.std.proofs.Common.{◌∙◌, add-zero, add-suc, suc-add, arith}
use mathlib.Core.List.{List, [], ◌∷◌}
use Prim.Native.Nat.{ℕ, zero, suc, ◌+◌, ◌*◌, ◌≤◌, ◌<◌}
use Rattle.std.proofs.Math.Nat.{suc-mul, add-mul}
use Rattle.std.proofs.Math.ListN.{get_or}
use Rattle.storing.specs.Storing.{pour}

-- Q holds of each member of a list.
abbrev pub All : {A : Type 0} → (A → Type 0) → List A → Type 0
All Q [] = Unit {0}
All Q (a ∷ l) = Q a × All Q l

-- The i-th thing goes into the `width` places from `base` + i × `width` on. `Good` are the things that fit, `d` is the empty one. `part` is what a
-- thing has at an index k, which stands `pos` k places into its block.
pub record Blocks {E A K : Type 0} (e : E) (put : List E → ℕ → A → List E) (base width : ℕ) (Good : A → Type 0) (Valid : K → Type 0) (pos : K → ℕ) (part : A → K → E) (d : A)
    : Type 0 where
  pub keeps : (st : List E) (i : ℕ) (a : A) → length (put st i a) ≡ length st
  pub below : (st : List E) (i : ℕ) (a : A) (x : ℕ) → Good a → x < base + i * width → get_or (put st i a) x e ≡ get_or st x e
  pub above : (st : List E) (i : ℕ) (a : A) (x : ℕ) → Good a → base + i * width + width ≤ x → get_or (put st i a) x e ≡ get_or st x e
  pub within : (k : K) → Valid k → pos k < width
  pub fills : (st : List E) (i : ℕ) (a : A) (k : K) → Good a → Valid k → base + i * width + width ≤ length st
      → ((x : ℕ) → base + i * width ≤ x → get_or st x e ≡ e) → get_or (put st i a) (base + i * width + pos k) e ≡ part a k
  pub blank : (k : K) → part d k ≡ e

module _ {E A K : Type 0} {e : E} {put : List E → ℕ → A → List E} {base width : ℕ} {Good : A → Type 0} {Valid : K → Type 0} {pos : K → ℕ} {part : A → K → E} {d : A}
    (B : Blocks e put base width Good Valid pos part d) where
  pub poured_length : (i : ℕ) (st : List E) (l : List A) → length (pour put i st l) ≡ length st
  unfolding pour
  poured_length i st [] = refl
  poured_length i st (a ∷ l) = poured_length (suc i) (put st i a) l ∙ B.keeps st i a

  -- What stands before the first block stays.
  pub poured_below : (i : ℕ) (st : List E) (l : List A) (x : ℕ) → All Good l → x < base + i * width → get_or (pour put i st l) x e ≡ get_or st x e
  unfolding pour
  poured_below i st [] x g h = refl
  poured_below i st (a ∷ l) x g h = poured_below (suc i) (put st i a) l x g.1 (omega (arith, suc-mul i width)) ∙ B.below st i a x g.0 h

  -- What stands behind the last block stays.
  pub poured_above : (i : ℕ) (st : List E) (l : List A) (x : ℕ) → All Good l → base + (i + length l) * width ≤ x → get_or (pour put i st l) x e ≡ get_or st x e
  unfolding pour
  poured_above i st [] x g h = refl
  poured_above i st (a ∷ l) x g h =
      poured_above (suc i) (put st i a) l x g.1 (omega (arith, ap (λ (j : ℕ). j * width) (add-suc i (length l) ∙ sym (suc-add i (length l)))))
      ∙ B.above st i a x g.0 (omega (arith, add-mul i (suc (length l)) width, suc-mul (length l) width))

  -- The blocks hold what the things' parts say, and e where there is no thing.
  pub poured_at : (i : ℕ) (st : List E) (l : List A) (j : ℕ) (k : K) → All Good l → Valid k → base + (i + length l) * width ≤ length st
      → ((x : ℕ) → base + i * width ≤ x → get_or st x e ≡ e) → get_or (pour put i st l) (base + (i + j) * width + pos k) e ≡ part (get_or l j d) k
  unfolding pour
  poured_at i st [] j k g v h z = z _ (omega (arith, add-mul i j width)) ∙ sym (B.blank k)
  poured_at i st (a ∷ l) zero k g v h z =
      ap (λ (n : ℕ). get_or (pour put (suc i) (put st i a) l) (base + n * width + pos k) e) (add-zero i)
      ∙ poured_below (suc i) (put st i a) l (base + i * width + pos k) g.1 (omega (arith, suc-mul i width, B.within k v))
      ∙ B.fills st i a k g.0 v (omega (arith, add-mul i (suc (length l)) width, suc-mul (length l) width)) z
  poured_at i st (a ∷ l) (suc j) k g v h z =
      ap (λ (n : ℕ). get_or (pour put (suc i) (put st i a) l) (base + n * width + pos k) e) (add-suc i j ∙ sym (suc-add i j))
      ∙ poured_at (suc i) (put st i a) l j k g.1 v
      (omega (arith, B.keeps st i a, ap (λ (j : ℕ). j * width) (add-suc i (length l) ∙ sym (suc-add i (length l)))))
      (λ x hx. B.above st i a x g.0 (omega (arith, suc-mul i width)) ∙ z x (omega (arith, suc-mul i width)))

-- Things poured into two rooms at once.
pub pour_both : {A S T : Type 0} (f : S → ℕ → A → S) (g : T → ℕ → A → T) (i : ℕ) (st : S × T) (l : List A)
    → pour {S = S × T} (λ st i a. (f st.0 i a, g st.1 i a)) i st l ≡ (pour f i st.0 l, pour g i st.1 l)
unfolding pour
pour_both f g i st [] = refl
pour_both f g i st (a ∷ l) = pour_both f g (suc i) (f st.0 i a, g st.1 i a) l

-- Two ways to put that agree.
pub pour_same : {A S : Type 0} (f g : S → ℕ → A → S) (i : ℕ) (st : S) (l : List A) → ((st : S) (i : ℕ) (a : A) → f st i a ≡ g st i a) → pour f i st l ≡ pour g i st l
unfolding pour
pour_same f g i st [] h = refl
pour_same f g i st (a ∷ l) h = pour_same f g (suc i) (f st i a) l h ∙ ap (λ st'. pour g (suc i) st' l) (h st i a)

-- What holds at every place of a list and of every thing poured holds at every place afterwards.
module _ {E : Type 0} (P : E → Type 0) (e : E) where
  abbrev pub Every : List E → Type 0
  Every st = (x : ℕ) → P (get_or st x e)

  pub every_set : (st : List E) (i : ℕ) (v : E) → Every st → P v → Every (set st i v)
  every_set [] i v h p x = h x
  every_set (a ∷ st) zero v h p zero = p
  every_set (a ∷ st) zero v h p (suc x) = h (suc x)
  every_set (a ∷ st) (suc i) v h p zero = h zero
  every_set (a ∷ st) (suc i) v h p (suc x) = every_set st i v (λ y. h (suc y)) p x

  pub every_pour : {A : Type 0} {Good : A → Type 0} (put : List E → ℕ → A → List E) → ((st : List E) (i : ℕ) (a : A) → Every st → Good a → Every (put st i a)) → (i : ℕ) (st : List E) (l : List A)
      → Every st → All Good l → Every (pour put i st l)
  unfolding pour
  every_pour put keeps i st [] h g = h
  every_pour put keeps i st (a ∷ l) h g = every_pour put keeps (suc i) (put st i a) l (keeps st i a h g.0) g.1

-- What holds at each index of a list holds of each member.
pub all_of : {A : Type 0} (Q : A → Type 0) (d : A) (l : List A) → ((i : ℕ) → i < length l → Q (get_or l i d)) → All Q l
all_of Q d [] h = tt
all_of Q d (a ∷ l) h = (h zero (omega arith), all_of Q d l (λ i hi. h (suc i) (omega arith)))
