-- Finite sums in a commutative ring.
--   sum R n f                f 0 + f 1 + … + f (n − 1)
--   skip k                   the numbers other than k, in order: how an index is left out
--   replace k x f            f with its value at k replaced by x
--   exchange i k f           f with its values at i and k exchanged (swap i k exchanges the numbers)
use Rattle.std.specs.Prelude.{◌≡◌, ◌≢◌, ◌⊎◌, [], ◌∷◌}
use Rattle.std.proofs.Math.Path.{refl, sym, ap, ap₂, fun_ext}
use Rattle.std.proofs.Common.{subst, ◌∙◌, inl, inr, le_of_suc-le-suc, not-suc-le-zero, zero-lt-suc, arith}
use Prim.Native.Nat.{ℕ, zero, suc, ◌<◌, suc-le-suc}
use Rattle.std.proofs.Math.Nat.{suc_inj}
use Rattle.std.proofs.Math.Decide.{ℕ_discrete}
use Rattle.algebra.specs.Ring as Ring
use Rattle.algebra.specs.Ring.{CommRing, RingRelation, Decides, Cancels}
use Rattle.algebra.specs.Solver.{v0, v1, v2, ◌⊞◌, ring}

-- The numbers other than k, in order: 0, …, k − 1, k + 1, ….
unfoldable pub skip : ℕ → ℕ → ℕ
skip zero c = suc c
skip (suc k) zero = zero
skip (suc k) (suc c) = suc (skip k c)

-- The number k itself is left out …
pub skip_ne : (k c : ℕ) → skip k c ≢ k
unfolding skip
skip_ne zero c h = omega arith
skip_ne (suc k) zero h = omega arith
skip_ne (suc k) (suc c) h = skip_ne k c (suc_inj h)

-- … and no other is.
pub skip_hits : (n k i : ℕ) → k < suc n → i < suc n → i ≢ k → (c : ℕ) × (c < n) × (skip k c ≡ i)
unfolding skip
skip_hits n zero zero hk h ne = absurd (ne refl)
skip_hits n zero (suc i) hk h ne = (i, le_of_suc-le-suc h, refl)
skip_hits zero (suc k) i hk h ne = absurd (not-suc-le-zero (le_of_suc-le-suc hk))
skip_hits (suc n) (suc k) zero hk h ne = (zero, zero-lt-suc n, refl)
skip_hits (suc n) (suc k) (suc i) hk h ne =
    let (c, b, e) = skip_hits n k i (le_of_suc-le-suc hk) (le_of_suc-le-suc h) (λ p. ne (ap suc p)) in
    (suc c, suc-le-suc b, ap suc e)

-- No number comes twice.
pub skip_injective : (k c d : ℕ) → skip k c ≡ skip k d → c ≡ d
unfolding skip
skip_injective zero c d e = suc_inj e
skip_injective (suc k) zero zero e = refl
skip_injective (suc k) zero (suc d) e = absurd (omega arith)
skip_injective (suc k) (suc c) zero e = absurd (omega arith)
skip_injective (suc k) (suc c) (suc d) e = ap suc (skip_injective k c d (suc_inj e))

-- Leaving out one number below n + 1 leaves numbers below n + 1.
pub skip_below : (n k c : ℕ) → c < n → skip k c < suc n
unfolding skip
skip_below n zero c h = suc-le-suc h
skip_below n (suc k) zero h = zero-lt-suc n
skip_below zero (suc k) (suc c) h = elim h [ ]
skip_below (suc n) (suc k) (suc c) h = suc-le-suc (skip_below n k c (le_of_suc-le-suc h))

-- f with its value at k replaced by x.
unfoldable pub replace : {A : Type 0} → ℕ → A → (ℕ → A) → ℕ → A
replace zero x f zero = x
replace zero x f (suc i) = f (suc i)
replace (suc k) x f zero = f zero
replace (suc k) x f (suc i) = replace k x (λ j. f (suc j)) i

-- The value at k is x …
pub replace_at : {A : Type 0} (k : ℕ) (x : A) (f : ℕ → A) → replace k x f k ≡ x
unfolding replace
replace_at zero x f = refl
replace_at (suc k) x f = replace_at k x (λ j. f (suc j))

-- … and the others stay.
pub replace_other : {A : Type 0} (k : ℕ) (x : A) (f : ℕ → A) (i : ℕ) → i ≢ k → replace k x f i ≡ f i
unfolding replace
replace_other zero x f zero h = absurd (h refl)
replace_other zero x f (suc i) h = refl
replace_other (suc k) x f zero h = refl
replace_other (suc k) x f (suc i) h = replace_other k x (λ j. f (suc j)) i (λ e. h (ap suc e))

-- Replacing a value by itself changes nothing.
pub replace_self : {A : Type 0} (k : ℕ) (f : ℕ → A) → replace k (f k) f ≡ f
unfolding replace
replace_self zero f = fun_ext (λ i. elim i as (λ k. replace 0 (f 0) f k ≡ f k) [ zero ↦ refl | suc j ↦ refl ])
replace_self (suc k) f = fun_ext (λ i. elim i as (λ l. replace (suc k) (f (suc k)) f l ≡ f l) [ zero ↦ refl | suc j ↦ ap (λ g. g j) (replace_self k (λ j. f (suc j))) ])

-- Two replacements at different places may be exchanged.
pub replace_comm : {A : Type 0} (i k : ℕ) (x y : A) (f : ℕ → A) → i ≢ k → replace i x (replace k y f) ≡ replace k y (replace i x f)
unfolding replace
replace_comm zero zero x y f ne = absurd (ne refl)
replace_comm zero (suc k) x y f ne = fun_ext (λ i. elim i as (λ l. replace 0 x (replace (suc k) y f) l ≡ replace (suc k) y (replace 0 x f) l) [ zero ↦ refl | suc j ↦ refl ])
replace_comm (suc i) zero x y f ne = fun_ext (λ a. elim a as (λ l. replace (suc i) x (replace 0 y f) l ≡ replace 0 y (replace (suc i) x f) l) [ zero ↦ refl | suc j ↦ refl ])
replace_comm (suc i) (suc k) x y f ne =
    fun_ext (λ a. elim a as (λ l. replace (suc i) x (replace (suc k) y f) l ≡ replace (suc k) y (replace (suc i) x f) l) [ zero ↦ refl | suc j ↦ ap (λ g. g j) (replace_comm i k x y (λ j. f (suc j)) (λ e. ne (ap suc e))) ])

-- A function applied to every value.
pub replace_map : {A B : Type 0} (F : A → B) (k : ℕ) (x : A) (f : ℕ → A) → ◌≡◌ {A = ℕ → B} (λ a. F (replace k x f a)) (replace k (F x) (λ a. F (f a)))
unfolding replace
replace_map F zero x f = fun_ext (λ i. elim i as (λ l. F (replace 0 x f l) ≡ replace 0 (F x) (λ a. F (f a)) l) [ zero ↦ refl | suc j ↦ refl ])
replace_map F (suc k) x f = fun_ext (λ i. elim i as (λ l. F (replace (suc k) x f l) ≡ replace (suc k) (F x) (λ a. F (f a)) l) [ zero ↦ refl | suc j ↦ ap (λ g. g j) (replace_map F k x (λ j. f (suc j))) ])

-- i and k change places, every other number stays.
unfoldable pub swap : ℕ → ℕ → ℕ → ℕ
swap i k = replace i k (replace k i (λ a. a))

-- i goes to k …
pub swap_left : (i k : ℕ) → swap i k i ≡ k
unfolding swap
swap_left i k = replace_at i k (replace k i (λ a. a))

-- … k to i …
pub swap_right : (i k : ℕ) → swap i k k ≡ i
unfolding swap
swap_right i k = at (ℕ_discrete k i)
  where
    at : Dec (k ≡ i) → swap i k k ≡ i
    at (yes e) = ap (swap i k) e ∙ swap_left i k ∙ e
    at (no ne) = replace_other i k (replace k i (λ a. a)) k ne ∙ replace_at k i (λ a. a)

-- … and every other number stays.
pub swap_other : (i k a : ℕ) → a ≢ i → a ≢ k → swap i k a ≡ a
unfolding swap
swap_other i k a ni nk = replace_other i k (replace k i (λ a. a)) a ni ∙ replace_other k i (λ a. a) a nk

-- What holds at i, at k and of every other number holds of all.
pub swap_cases : (i k : ℕ) (P : ℕ → ℕ → Type 0) → P i k → P k i → ((a : ℕ) → a ≢ i → a ≢ k → P a a) → (a : ℕ) → P a (swap i k a)
swap_cases i k P pi pk po a = at (ℕ_discrete a i) (ℕ_discrete a k)
  where
    at : Dec (a ≡ i) → Dec (a ≡ k) → P a (swap i k a)
    at (yes e) d = subst (λ b. P b (swap i k b)) (sym e) (subst (P i) (sym (swap_left i k)) pi)
    at (no ni) (yes e) = subst (λ b. P b (swap i k b)) (sym e) (subst (P k) (sym (swap_right i k)) pk)
    at (no ni) (no nk) = subst (P a) (sym (swap_other i k a ni nk)) (po a ni nk)

-- Two exchanges undo each other.
pub swap_twice : (i k a : ℕ) → swap i k (swap i k a) ≡ a
swap_twice i k = swap_cases i k (λ a b. swap i k b ≡ a) (swap_right i k) (swap_left i k) (swap_other i k)

-- Numbers below n stay below n.
pub swap_below : (n i k a : ℕ) → i < n → k < n → a < n → swap i k a < n
swap_below n i k a hi hk = swap_cases i k (λ a b. a < n → b < n) (λ h. hk) (λ h. hi) (λ a ni nk h. h) a

-- f with its values at i and k exchanged.
abbrev pub exchange : {A : Type 0} → ℕ → ℕ → (ℕ → A) → ℕ → A
exchange i k f a = f (swap i k a)

-- An exchange is two replacements.
pub exchange_replace : {A : Type 0} (i k : ℕ) (f : ℕ → A) → exchange i k f ≡ replace i (f k) (replace k (f i) f)
unfolding swap
exchange_replace i k f = replace_map f i k (replace k i (λ a. a)) ∙ ap (replace i (f k)) (replace_map f k i (λ a. a))

-- Where P or Q holds of each number, P holds of all numbers below n or Q of one.
pub all_or_one : (P Q : ℕ → Type 0) → ((i : ℕ) → P i ⊎ Q i) → (n : ℕ) → ((i : ℕ) → i < n → P i) ⊎ ((i : ℕ) × (i < n) × Q i)
all_or_one P Q either zero = inl (λ i h. absurd (not-suc-le-zero h))
all_or_one P Q either (suc n) = step (either zero) (all_or_one (λ i. P (suc i)) (λ i. Q (suc i)) (λ i. either (suc i)) n)
  where
    all : P zero → ((i : ℕ) → i < n → P (suc i)) → (i : ℕ) → i < suc n → P i
    all first later zero h = first
    all first later (suc i) h = later i (le_of_suc-le-suc h)

    step : P zero ⊎ Q zero → ((i : ℕ) → i < n → P (suc i)) ⊎ ((i : ℕ) × (i < n) × Q (suc i)) → ((i : ℕ) → i < suc n → P i) ⊎ ((i : ℕ) × (i < suc n) × Q i)
    step (inr first) later = inr (zero, zero-lt-suc n, first)
    step (inl first) (inl later) = inl (all first later)
    step (inl first) (inr (i, h, one)) = inr (suc i, suc-le-suc h, one)

module _ (R : CommRing) where
  open R use {C, 𝟘, ◌⊕◌, ◌⊗◌, ⊖◌, add_assoc, add_comm, add_zero, mul_comm, mul_add}

  infixl 60 ◌⊕◌
  infixl 70 ◌⊗◌
  infix 80 ⊖◌
  -- The sum of the first n values of f.
  unfoldable pub sum : ℕ → (ℕ → C) → C
  sum zero f = 𝟘
  sum (suc n) f = f zero ⊕ sum n (λ i. f (suc i))

  -- A sum depends on its first n terms alone.
  pub sum_cong : (n : ℕ) (f g : ℕ → C) → ((i : ℕ) → i < n → f i ≡ g i) → sum n f ≡ sum n g
  unfolding sum
  sum_cong zero f g h = refl
  sum_cong (suc n) f g h =
      ap₂ (λ x y. x ⊕ y) (h zero (zero-lt-suc n)) (sum_cong n (λ i. f (suc i)) (λ i. g (suc i)) (λ i b. h (suc i) (suc-le-suc b)))

  -- A sum of zeros is 0 …
  pub sum_zeros : (n : ℕ) → sum n (λ i. 𝟘) ≡ 𝟘
  unfolding sum
  sum_zeros zero = refl
  sum_zeros (suc n) = Ring.zero_add R (sum n (λ i. 𝟘)) ∙ sum_zeros n

  -- … and so is one whose terms are 0.
  pub sum_zero : (n : ℕ) (f : ℕ → C) → ((i : ℕ) → i < n → f i ≡ 𝟘) → sum n f ≡ 𝟘
  sum_zero n f h = sum_cong n f (λ i. 𝟘) h ∙ sum_zeros n

  -- A sum of sums is the sum of the two sums.
  pub sum_add : (n : ℕ) (f g : ℕ → C) → sum n (λ i. f i ⊕ g i) ≡ sum n f ⊕ sum n g
  unfolding sum
  sum_add zero f g = sym (add_zero 𝟘)
  sum_add (suc n) f g =
      ap (λ x. (f zero ⊕ g zero) ⊕ x) (sum_add n (λ i. f (suc i)) (λ i. g (suc i)))
      ∙ Ring.add_add_comm R (f zero) (g zero) (sum n (λ i. f (suc i))) (sum n (λ i. g (suc i)))

  -- A factor is multiplied into a sum, from the left …
  pub mul_sum : (n : ℕ) (c : C) (f : ℕ → C) → c ⊗ sum n f ≡ sum n (λ i. c ⊗ f i)
  unfolding sum
  mul_sum zero c f = Ring.mul_zero R c
  mul_sum (suc n) c f = mul_add c (f zero) (sum n (λ i. f (suc i))) ∙ ap (λ x. c ⊗ f zero ⊕ x) (mul_sum n c (λ i. f (suc i)))

  -- … and from the right.
  pub sum_mul : (n : ℕ) (f : ℕ → C) (c : C) → sum n f ⊗ c ≡ sum n (λ i. f i ⊗ c)
  sum_mul n f c = mul_comm (sum n f) c ∙ mul_sum n c f ∙ sum_cong n (λ i. c ⊗ f i) (λ i. f i ⊗ c) (λ i b. mul_comm c (f i))

  -- The negative of a sum is the sum of the negatives.
  pub neg_sum : (n : ℕ) (f : ℕ → C) → ⊖ sum n f ≡ sum n (λ i. ⊖ f i)
  unfolding sum
  neg_sum zero f = Ring.neg_zero R
  neg_sum (suc n) f = Ring.neg_sum R (f zero) (sum n (λ i. f (suc i))) ∙ ap (λ x. ⊖ f zero ⊕ x) (neg_sum n (λ i. f (suc i)))

  -- The order of two sums may be exchanged.
  pub sum_swap : (m n : ℕ) (f : ℕ → ℕ → C) → sum m (λ i. sum n (λ j. f i j)) ≡ sum n (λ j. sum m (λ i. f i j))
  unfolding sum
  sum_swap zero n f = sym (sum_zeros n)
  sum_swap (suc m) n f =
      ap (λ x. sum n (λ j. f zero j) ⊕ x) (sum_swap m n (λ i j. f (suc i) j))
      ∙ sym (sum_add n (λ j. f zero j) (λ j. sum m (λ i. f (suc i) j)))

  -- The term at k stands apart from the others.
  pub sum_apart : (n k : ℕ) (f : ℕ → C) → k < suc n → sum (suc n) f ≡ f k ⊕ sum n (λ i. f (skip k i))
  unfolding sum skip
  sum_apart n zero f h = refl
  sum_apart zero (suc k) f h = absurd (not-suc-le-zero (le_of_suc-le-suc h))
  sum_apart (suc n) (suc k) f h =
      ap (λ x. f zero ⊕ x) (sum_apart n k (λ i. f (suc i)) (le_of_suc-le-suc h))
      ∙ Ring.add_left_comm R (f zero) (f (suc k)) (sum n (λ i. f (suc (skip k i))))

  -- A sum with one term that is not 0 is that term.
  pub sum_one_term : (n k : ℕ) (f : ℕ → C) → k < n → ((i : ℕ) → i < n → i ≢ k → f i ≡ 𝟘) → sum n f ≡ f k
  sum_one_term zero k f h z = absurd (not-suc-le-zero h)
  sum_one_term (suc n) k f h z =
      sum_apart n k f h
      ∙ ap (λ x. f k ⊕ x) (sum_zero n (λ i. f (skip k i)) (λ i b. z (skip k i) (skip_below n k i b) (skip_ne k i)))
      ∙ add_zero (f k)

  -- The last term stands apart.
  pub sum_last : (n : ℕ) (f : ℕ → C) → sum (suc n) f ≡ sum n f ⊕ f n
  unfolding sum
  sum_last zero f = add_comm (f zero) 𝟘
  sum_last (suc n) f =
      ap (λ x. f zero ⊕ x) (sum_last n (λ i. f (suc i)))
      ∙ sym (add_assoc (f zero) (sum n (λ i. f (suc i))) (f (suc n)))

  -- A sum in which the term at k is replaced.
  pub sum_replace : (n k : ℕ) (x : C) (f : ℕ → C) → k < n → sum n (replace k x f) ⊕ f k ≡ sum n f ⊕ x
  unfolding sum replace
  sum_replace zero k x f h = absurd (not-suc-le-zero h)
  sum_replace (suc n) zero x f h =
      ring R (x ∷ f zero ∷ sum n (λ i. f (suc i)) ∷ []) (v0 ⊞ v2 ⊞ v1) (v1 ⊞ v2 ⊞ v0) refl
  sum_replace (suc n) (suc k) x f h =
      add_assoc (f zero) (sum n (replace k x (λ i. f (suc i)))) (f (suc k))
      ∙ ap (λ y. f zero ⊕ y) (sum_replace n k x (λ i. f (suc i)) (le_of_suc-le-suc h))
      ∙ sym (add_assoc (f zero) (sum n (λ i. f (suc i))) x)

  -- The order of the terms does not count: two of them may be exchanged.
  pub sum_exchange : (n i k : ℕ) (f : ℕ → C) → i < n → k < n → sum n (exchange i k f) ≡ sum n f
  sum_exchange n i k f hi hk =
      Ring.add_cancel R (sum n (exchange i k f)) (sum n f) (f i)
      (ap₂ (λ g x. sum n g ⊕ x) (exchange_replace i k f) (sym (undone (ℕ_discrete i k)))
      ∙ sum_replace n i (f k) (replace k (f i) f) hi
      ∙ sum_replace n k (f i) f hk)
    where
      undone : Dec (i ≡ k) → replace k (f i) f i ≡ f i
      undone (yes e) = ap (λ a. replace k (f i) f a) e ∙ replace_at k (f i) f
      undone (no ne) = replace_other k (f i) f i ne

  -- The first n values are all 0, or one is not.
  pub zeros_or_not : Decides R → (n : ℕ) (f : ℕ → C) → ((i : ℕ) → i < n → f i ≡ 𝟘) ⊎ ((i : ℕ) × (i < n) × (f i ≢ 𝟘))
  zeros_or_not decides n f =
      all_or_one (λ i. f i ≡ 𝟘) (λ i. f i ≢ 𝟘) (λ i. elim (decides (f i)) [ yes z ↦ inl z | no ne ↦ inr ne ]) n

  -- A sum of multiples of e 0, …, e (n − 1) determines the multiplier of e i, where e i is not 0 and the other multipliers are known.
  pub sum_determines : Cancels R → (n i : ℕ) (e x y : ℕ → C) → i < n → e i ≢ 𝟘 → ((a : ℕ) → a ≢ i → x a ≡ y a)
      → sum n (λ a. x a ⊗ e a) ≡ sum n (λ a. y a ⊗ e a) → x i ≡ y i
  sum_determines cancels zero i e x y hi ne same h = absurd (not-suc-le-zero hi)
  sum_determines cancels (suc n) i e x y hi ne same h =
      Ring.mul_cancel R cancels (e i) (x i) (y i) ne (mul_comm (e i) (x i) ∙ alone ∙ mul_comm (y i) (e i))
    where
      others : sum n (λ a. y (skip i a) ⊗ e (skip i a)) ≡ sum n (λ a. x (skip i a) ⊗ e (skip i a))
      others =
          sum_cong n (λ a. y (skip i a) ⊗ e (skip i a)) (λ a. x (skip i a) ⊗ e (skip i a))
          (λ a b. ap (λ z. z ⊗ e (skip i a)) (sym (same (skip i a) (skip_ne i a))))

      alone : x i ⊗ e i ≡ y i ⊗ e i
      alone =
          Ring.add_cancel R (x i ⊗ e i) (y i ⊗ e i) (sum n (λ a. x (skip i a) ⊗ e (skip i a)))
          (sym (sum_apart n i (λ a. x a ⊗ e a) hi) ∙ h ∙ sum_apart n i (λ a. y a ⊗ e a) hi ∙ ap (λ z. y i ⊗ e i ⊕ z) others)

module _ (R S : CommRing) (Rel : R.C → S.C → Type 0) (keeps : RingRelation R S Rel) where
  -- Sums of related terms are related.
  pub sum_related : (n : ℕ) (f : ℕ → R.C) (g : ℕ → S.C) → ((i : ℕ) → i < n → Rel (f i) (g i)) → Rel (sum R n f) (sum S n g)
  unfolding sum
  sum_related zero f g h = keeps.rel_zero
  sum_related (suc n) f g h =
      keeps.rel_add (h zero (zero-lt-suc n)) (sum_related n (λ i. f (suc i)) (λ i. g (suc i)) (λ i b. h (suc i) (suc-le-suc b)))
