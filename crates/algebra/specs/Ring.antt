-- Commutative rings: the record that every theorem of the theory takes, the laws that follow from it, and the properties of a ring
-- that some theorems ask for besides (a decidable zero, no zero divisors, inverses).
--   CommRing                 a commutative ring with 1
--   Decides, Cancels, Nontrivial, Inverts    what some theorems ask for besides
--   RingRelation             a relation between two rings that every operation keeps; a homomorphism is one
use Rattle.std.specs.Prelude.{◌≡◌, ◌≢◌, ◌⊎◌}
use Rattle.std.proofs.Math.Path.{sym, ap}
use Rattle.std.proofs.Common.{◌∙◌, inl, inr}
use Prim.Native.Nat.{ℕ, zero, suc, ◌+◌}
use Rattle.std.proofs.Math.Nat.{suc-add, zero-add as nat_zero_add}

-- A commutative ring with 1.
pub record CommRing : Type 1 where
  infixl 60 ◌⊕◌
  infixl 70 ◌⊗◌
  infix 80 ⊖◌
  pub C : Type 0
  pub is_set : IsSet C
  pub 𝟘 : C
  pub 𝟙 : C
  pub ◌⊕◌ : C → C → C
  pub ◌⊗◌ : C → C → C
  pub ⊖◌ : C → C
  pub add_assoc : (a b c : C) → a ⊕ b ⊕ c ≡ a ⊕ (b ⊕ c)
  pub add_comm : (a b : C) → a ⊕ b ≡ b ⊕ a
  pub add_zero : (a : C) → a ⊕ 𝟘 ≡ a
  pub add_neg : (a : C) → a ⊕ ⊖ a ≡ 𝟘
  pub mul_assoc : (a b c : C) → a ⊗ b ⊗ c ≡ a ⊗ (b ⊗ c)
  pub mul_comm : (a b : C) → a ⊗ b ≡ b ⊗ a
  pub mul_one : (a : C) → a ⊗ 𝟙 ≡ a
  pub mul_add : (a b c : C) → a ⊗ (b ⊕ c) ≡ a ⊗ b ⊕ a ⊗ c

module _ (R : CommRing) where
  open R use {C, 𝟘, 𝟙, ◌⊕◌, ◌⊗◌, ⊖◌, add_assoc, add_comm, add_zero, add_neg, mul_assoc, mul_comm, mul_one, mul_add}

  infixl 60 ◌⊕◌
  infixl 70 ◌⊗◌
  infix 80 ⊖◌
  -- It can be told whether an element is 0.
  abbrev pub Decides : Type 0
  Decides = (a : C) → Dec (a ≡ 𝟘)

  -- There are no zero divisors: what is not 0 can be cancelled.
  abbrev pub Cancels : Type 0
  Cancels = (a b : C) → a ≢ 𝟘 → a ⊗ b ≡ 𝟘 → b ≡ 𝟘

  -- 1 is not 0.
  abbrev pub Nontrivial : Type 0
  Nontrivial = 𝟙 ≢ 𝟘

  -- `inv` gives an inverse of every element other than 0.
  abbrev pub Inverts : (C → C) → Type 0
  Inverts inv = (a : C) → a ≢ 𝟘 → a ⊗ inv a ≡ 𝟙

  -- The sign (−1)^j.
  unfoldable pub sign : ℕ → C
  sign zero = 𝟙
  sign (suc j) = ⊖ sign j

  -- The power aⁿ.
  unfoldable pub power : C → ℕ → C
  power a zero = 𝟙
  power a (suc n) = a ⊗ power a n

  -- The laws of 0, 1 and distribution on the other side.
  pub zero_add : (a : C) → 𝟘 ⊕ a ≡ a
  zero_add a = add_comm 𝟘 a ∙ add_zero a

  pub neg_add : (a : C) → ⊖ a ⊕ a ≡ 𝟘
  neg_add a = add_comm (⊖ a) a ∙ add_neg a

  pub one_mul : (a : C) → 𝟙 ⊗ a ≡ a
  one_mul a = mul_comm 𝟙 a ∙ mul_one a

  pub add_mul : (a b c : C) → (a ⊕ b) ⊗ c ≡ a ⊗ c ⊕ b ⊗ c
  add_mul a b c = rw (mul_comm (a ⊕ b) c, mul_comm a c, mul_comm b c) (mul_add c a b)

  -- Terms and factors change places.
  pub add_left_comm : (a b c : C) → a ⊕ (b ⊕ c) ≡ b ⊕ (a ⊕ c)
  add_left_comm a b c = sym (add_assoc a b c) ∙ ap (λ x. x ⊕ c) (add_comm a b) ∙ add_assoc b a c

  pub mul_left_comm : (a b c : C) → a ⊗ (b ⊗ c) ≡ b ⊗ (a ⊗ c)
  mul_left_comm a b c = sym (mul_assoc a b c) ∙ ap (λ x. x ⊗ c) (mul_comm a b) ∙ mul_assoc b a c

  pub add_add_comm : (a b c d : C) → a ⊕ b ⊕ (c ⊕ d) ≡ a ⊕ c ⊕ (b ⊕ d)
  add_add_comm a b c d =
      add_assoc a b (c ⊕ d) ∙ ap (λ x. a ⊕ x) (add_left_comm b c d) ∙ sym (add_assoc a c (b ⊕ d))

  -- What is added to both sides is cancelled.
  pub add_cancel : (a b c : C) → a ⊕ c ≡ b ⊕ c → a ≡ b
  add_cancel a b c h = sym (undo a) ∙ ap (λ x. x ⊕ ⊖ c) h ∙ undo b
    where
      undo : (x : C) → x ⊕ c ⊕ ⊖ c ≡ x
      undo x = add_assoc x c (⊖ c) ∙ ap (λ y. x ⊕ y) (add_neg c) ∙ add_zero x

  -- The element that adds to 0 is the negative.
  pub neg_unique : (a b : C) → a ⊕ b ≡ 𝟘 → a ≡ ⊖ b
  neg_unique a b h = add_cancel a (⊖ b) b (h ∙ sym (neg_add b))

  -- Two elements are equal exactly if their difference is 0.
  pub eq_of_sub : (a b : C) → a ⊕ ⊖ b ≡ 𝟘 → a ≡ b
  eq_of_sub a b h = add_cancel a b (⊖ b) (h ∙ sym (add_neg b))

  pub sub_of_eq : (a b : C) → a ≡ b → a ⊕ ⊖ b ≡ 𝟘
  sub_of_eq a b h = rw h (add_neg b)

  -- A product with 0 is 0.
  pub mul_zero : (a : C) → a ⊗ 𝟘 ≡ 𝟘
  mul_zero a = add_cancel (a ⊗ 𝟘) 𝟘 (a ⊗ 𝟘) (sym (mul_add a 𝟘 𝟘) ∙ ap (λ x. a ⊗ x) (add_zero 𝟘) ∙ sym (zero_add (a ⊗ 𝟘)))

  pub zero_mul : (a : C) → 𝟘 ⊗ a ≡ 𝟘
  zero_mul a = mul_comm 𝟘 a ∙ mul_zero a

  -- Negatives of 0, of negatives, of products and of sums.
  pub neg_zero : ⊖ 𝟘 ≡ 𝟘
  neg_zero = sym (neg_unique 𝟘 𝟘 (add_zero 𝟘))

  pub neg_neg : (a : C) → ⊖ ⊖ a ≡ a
  neg_neg a = sym (neg_unique a (⊖ a) (add_neg a))

  pub neg_mul : (a b : C) → ⊖ a ⊗ b ≡ ⊖ (a ⊗ b)
  neg_mul a b = neg_unique (⊖ a ⊗ b) (a ⊗ b) (sym (add_mul (⊖ a) a b) ∙ ap (λ x. x ⊗ b) (neg_add a) ∙ zero_mul b)

  pub mul_neg : (a b : C) → a ⊗ ⊖ b ≡ ⊖ (a ⊗ b)
  mul_neg a b = mul_comm a (⊖ b) ∙ neg_mul b a ∙ ap (λ x. ⊖ x) (mul_comm b a)

  pub neg_sum : (a b : C) → ⊖ (a ⊕ b) ≡ ⊖ a ⊕ ⊖ b
  neg_sum a b = sym (neg_unique (⊖ a ⊕ ⊖ b) (a ⊕ b) (add_assoc (⊖ a) (⊖ b) (a ⊕ b) ∙ ap (λ x. ⊖ a ⊕ x) (rest) ∙ neg_add a))
    where
      rest : ⊖ b ⊕ (a ⊕ b) ≡ a
      rest = add_left_comm (⊖ b) a b ∙ ap (λ x. a ⊕ x) (neg_add b) ∙ add_zero a

  -- The sign (−1)^(i+j) …
  pub sign_add : (i j : ℕ) → sign (i + j) ≡ sign i ⊗ sign j
  unfolding sign
  sign_add zero j = rw nat_zero_add (sym (one_mul (sign j)))
  sign_add (suc i) j = rw suc-add (ap (λ x. ⊖ x) (sign_add i j) ∙ sym (neg_mul (sign i) (sign j)))

  -- … and its square.
  pub sign_square : (i : ℕ) → sign i ⊗ sign i ≡ 𝟙
  unfolding sign
  sign_square zero = mul_one 𝟙
  sign_square (suc i) =
      neg_mul (sign i) (⊖ sign i) ∙ ap (λ x. ⊖ x) (mul_neg (sign i) (sign i)) ∙ neg_neg (sign i ⊗ sign i) ∙ sign_square i

  -- A factor other than 0 is cancelled from an equation.
  pub mul_cancel : Cancels → (a b c : C) → a ≢ 𝟘 → a ⊗ b ≡ a ⊗ c → b ≡ c
  mul_cancel cancels a b c nz h = eq_of_sub b c (cancels a (b ⊕ ⊖ c) nz (mul_add a b (⊖ c) ∙ ap (λ x. a ⊗ b ⊕ x) (mul_neg a c) ∙ sub_of_eq (a ⊗ b) (a ⊗ c) h))

  -- A product of elements other than 0 is not 0.
  pub mul_ne_zero : Cancels → (a b : C) → a ≢ 𝟘 → b ≢ 𝟘 → a ⊗ b ≢ 𝟘
  mul_ne_zero cancels a b na nb h = nb (cancels a b na h)

  -- Where it can be told what is 0, one factor of a product that is 0 is 0.
  pub zero_factor : Decides → Cancels → (a b : C) → a ⊗ b ≡ 𝟘 → (a ≡ 𝟘) ⊎ (b ≡ 𝟘)
  zero_factor decides cancels a b h = elim (decides a) [ yes p ↦ inl p | no na ↦ inr (cancels a b na h) ]

  -- A ring with inverses has no zero divisors.
  pub cancels_of_inverts : (inv : C → C) → Inverts inv → Cancels
  cancels_of_inverts inv inverts a b na h =
      sym (one_mul b)
      ∙ ap (λ x. x ⊗ b) (sym (inverts a na) ∙ mul_comm a (inv a))
      ∙ mul_assoc (inv a) a b
      ∙ ap (λ x. inv a ⊗ x) h
      ∙ mul_zero (inv a)

-- A relation between the elements of two rings that 0, 1, sums, products and negatives keep. A homomorphism is one (`x` is related to
-- `y` where it is sent to `y`), and so is "evaluates to" between polynomials and numbers. What is built by the operations of a ring,
-- as a sum or a determinant, is related where its parts are.
pub record RingRelation (R S : CommRing) (Rel : R.C → S.C → Type 0) : Type 0 where
  pub rel_zero : Rel R.𝟘 S.𝟘
  pub rel_one : Rel R.𝟙 S.𝟙
  pub rel_add : {a b : R.C} {x y : S.C} → Rel a x → Rel b y → Rel (R.◌⊕◌ a b) (S.◌⊕◌ x y)
  pub rel_mul : {a b : R.C} {x y : S.C} → Rel a x → Rel b y → Rel (R.◌⊗◌ a b) (S.◌⊗◌ x y)
  pub rel_neg : {a : R.C} {x : S.C} → Rel a x → Rel (R.⊖◌ a) (S.⊖◌ x)

module _ (R S : CommRing) (Rel : R.C → S.C → Type 0) (keeps : RingRelation R S Rel) where
  -- The signs are related.
  pub sign_related : (j : ℕ) → Rel (sign R j) (sign S j)
  unfolding sign
  sign_related zero = keeps.rel_one
  sign_related (suc j) = keeps.rel_neg (sign_related j)
