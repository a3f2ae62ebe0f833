-- Products of linear factors X − a.
--   All Q l                  every member of a list is in Q
--   joined n r               the lists r 0, …, r (n − 1) one after the other
use Rattle.std.specs.Prelude.{◌≡◌, length, replicate}
use Rattle.std.proofs.Math.Path.{refl, ap₂}
use mathlib.Core.List.{List, [], ◌∷◌, ◌++◌}
use Prim.Native.Nat.{ℕ, zero, suc, ◌<◌, suc-le-suc}
use Rattle.std.proofs.Math.Nat as Nat
use Rattle.algebra.specs.Ring.{CommRing}

-- Every member of a list is in Q.
pub data All {A : Type 0} (Q : A → Type 0) : List A → Type 0 where
  all_nil : All Q []
  all_cons : {a : A} {l : List A} → Q a → All Q l → All Q (a ∷ l)

-- What holds of everything holds of every member.
pub all_of : {A : Type 0} (Q : A → Type 0) → ((a : A) → Q a) → (l : List A) → All Q l
all_of Q h [] = all_nil
all_of Q h (a ∷ l) = all_cons (h a) (all_of Q h l)

-- What follows from Q holds of every member that is in Q.
pub all_map : {A : Type 0} (Q Q' : A → Type 0) → ((a : A) → Q a → Q' a) → (l : List A) → All Q l → All Q' l
all_map Q Q' h [] all_nil = all_nil
all_map Q Q' h (a ∷ l) (all_cons q rest) = all_cons (h a q) (all_map Q Q' h l rest)

-- A list whose members are all a is a repeated.
pub all_equal : {A : Type 0} (a : A) (l : List A) → All (λ b. b ≡ a) l → l ≡ replicate (length l) a
all_equal a [] all_nil = refl
all_equal a (b ∷ l) (all_cons e rest) = ap₂ ◌∷◌ e (all_equal a l rest)

-- … and the other way round.
pub all_replicate : {A : Type 0} (a : A) (d : ℕ) → All (λ b. b ≡ a) (replicate d a)
all_replicate a zero = all_nil
all_replicate a (suc d) = all_cons refl (all_replicate a d)

module _ (R : CommRing) where
  open R use {C, 𝟘, 𝟙, ◌⊗◌, mul_one}

  infixl 70 ◌⊗◌
  -- The lists r 0, …, r (n − 1) one after the other.
  unfoldable pub joined : ℕ → (ℕ → List C) → List C
  joined zero r = []
  joined (suc n) r = r zero ++ joined n (λ j. r (suc j))

  all_append : (Q : C → Type 0) (l l' : List C) → All Q l → All Q l' → All Q (l ++ l')
  all_append Q [] l' all_nil h = h
  all_append Q (a ∷ l) l' (all_cons q rest) h = all_cons q (all_append Q l l' rest h)

  -- What holds of the members of several lists holds of those of the joined list.
  pub all_joined : (Q : C → Type 0) (n : ℕ) (r : ℕ → List C) → ((j : ℕ) → j < n → All Q (r j)) → All Q (joined n r)
  unfolding joined
  all_joined Q zero r h = all_nil
  all_joined Q (suc n) r h =
      all_append Q (r zero) (joined n (λ j. r (suc j))) (h zero (Nat.zero-lt-suc n)) (all_joined Q n (λ j. r (suc j)) (λ j b. h (suc j) (suc-le-suc b)))
