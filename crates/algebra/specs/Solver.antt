-- A solver for the identities of commutative rings. An identity is written as two expressions over numbered variables. Their
-- difference is multiplied out into monomials with signs, equal monomials of opposite signs cancel, and nothing must be left.
--   Expr                     expressions: # k (the variable k), ⓪, ①, _⊞_, _⊠_, ⊟_
--   v0, …, v6                the first seven variables
--   denote R ρ e             the value of e in R, where the variable k stands for the k-th element of the list ρ
--   same l r                 whether l and r are equal by the laws of commutative rings
--   ring R ρ l r refl        l and r have the same value, if the test passes
-- For example, a ⊗ (b ⊕ c) ≡ a ⊗ b ⊕ a ⊗ c is proved, for any terms a, b and c, by
--   ring R (a ∷ b ∷ c ∷ []) (v0 ⊠ (v1 ⊞ v2)) (v0 ⊠ v1 ⊞ v0 ⊠ v2) refl
use Rattle.std.specs.Prelude.{◌≡◌, refl, Bool, true, false, not, cond, List, [], ◌∷◌, T, leb, get_or}
use Rattle.std.proofs.Common.{sym, ap, ap₂, ◌∙◌, eqb→eq}
use Rattle.std.proofs.lemmas.Bool.{false≢true}
use Prim.Native.Nat.{ℕ, compare, Ordering}
use Rattle.std.proofs.Math.Dec.{compare_is_eq}
use Rattle.algebra.specs.Ring as Ring
use Rattle.algebra.specs.Ring.{CommRing}

infix 90 #◌
infix 80 ⊟◌
infixl 70 ◌⊠◌
infixl 60 ◌⊞◌
-- Expressions over numbered variables.
pub data Expr : Type 0 where
  #◌ : ℕ → Expr
  ⓪ ① : Expr
  ◌⊞◌ ◌⊠◌ : Expr → Expr → Expr
  ⊟◌ : Expr → Expr

-- The first eight variables.
abbrev pub v0 : Expr
v0 = # 0

abbrev pub v1 : Expr
v1 = # 1

abbrev pub v2 : Expr
v2 = # 2

abbrev pub v3 : Expr
v3 = # 3

abbrev pub v4 : Expr
v4 = # 4

abbrev pub v5 : Expr
v5 = # 5

abbrev pub v6 : Expr
v6 = # 6

-- A monomial is the sorted list of its variables. A sum is the sorted list of its terms, monomials with a sign (true
-- where the monomial is added, false where it is subtracted).
abbrev Monomial : Type 0
Monomial = List ℕ

abbrev Terms : Type 0
Terms = List (Bool × Monomial)

abbrev lex : Ordering → Ordering → Ordering
lex Ordering.lt o = Ordering.lt
lex Ordering.eq o = o
lex Ordering.gt o = Ordering.gt

abbrev compare_monomials : Monomial → Monomial → Ordering
compare_monomials [] [] = Ordering.eq
compare_monomials [] (j ∷ n) = Ordering.lt
compare_monomials (i ∷ m) [] = Ordering.gt
compare_monomials (i ∷ m) (j ∷ n) = lex (compare i j) (compare_monomials m n)

-- The product of a variable and a monomial.
abbrev times : ℕ → Monomial → Monomial
times i [] = i ∷ []
times i (j ∷ m) =
    let r = times i m in
    cond (leb i j) (i ∷ j ∷ m) (j ∷ r)

-- `place o s m t n p r` adds the monomial m with the sign s to the sum of n, with the sign t, and p: o compares m with n, and r is p
-- with m added.
abbrev place : Ordering → Bool → Monomial → Bool → Monomial → Terms → Terms → Terms
place Ordering.lt s m t n p r = (s, m) ∷ (t, n) ∷ p
place Ordering.eq true m true n p r = (true, m) ∷ (true, n) ∷ p
place Ordering.eq true m false n p r = p
place Ordering.eq false m true n p r = p
place Ordering.eq false m false n p r = (false, m) ∷ (false, n) ∷ p
place Ordering.gt s m t n p r = (t, n) ∷ r

-- A sum with a monomial added.
abbrev insert : Bool → Monomial → Terms → Terms
insert s m [] = (s, m) ∷ []
insert s m (u ∷ p) =
    let r = insert s m p in
    place (compare_monomials m u.1) s m u.0 u.1 p r

-- `expand e k s m p` multiplies e by the monomial m with the sign s, and has k add each monomial of the product to p.
abbrev expand : Expr → (Bool → Monomial → Terms → Terms) → Bool → Monomial → Terms → Terms
expand (# i) k s m p = k s (times i m) p
expand ⓪ k s m p = p
expand ① k s m p = k s m p
expand (a ⊞ b) k s m p = expand a k s m (expand b k s m p)
expand (a ⊠ b) k s m p = expand a (expand b k) s m p
expand (⊟ a) k s m p = expand a k (not s) m p

abbrev difference : Expr → Expr → Terms
difference l r = expand l insert true [] (expand r insert false [] [])

abbrev is_empty : Terms → Bool
is_empty [] = true
is_empty (u ∷ p) = false

-- The test: the difference of the two expressions multiplies out to the empty sum.
abbrev pub same : Expr → Expr → Bool
same l r = is_empty (difference l r)

-- Monomials that compare as equal are equal.
eq_of_compare : (m n : Monomial) → T (compare_is_eq (compare_monomials m n)) → m ≡ n
eq_of_compare [] [] h = refl
eq_of_compare [] (j ∷ n) h = absurd h
eq_of_compare (i ∷ m) [] h = absurd h
eq_of_compare (i ∷ m) (j ∷ n) h =
    let (p, q) = lex_eq (compare i j) (compare_monomials m n) h in
    ap₂ {C = Monomial} ◌∷◌ (eqb→eq i j p) (eq_of_compare m n q)
  where
    lex_eq : (o o' : Ordering) → T (compare_is_eq (lex o o')) → T (compare_is_eq o) × T (compare_is_eq o')
    lex_eq Ordering.lt o' h = absurd h
    lex_eq Ordering.eq o' h = (tt, h)
    lex_eq Ordering.gt o' h = absurd h

module _ (R : CommRing) (ρ : List R.C) where
  open R use {C, 𝟘, 𝟙, ◌⊕◌, ◌⊗◌, ⊖◌, add_assoc, add_zero, add_neg, mul_assoc, mul_comm, mul_one, mul_add}

  infixl 60 ◌⊕◌
  infixl 70 ◌⊗◌
  infix 80 ⊖◌
  -- The value of an expression.
  abbrev pub denote : Expr → C
  denote (# k) = get_or ρ k 𝟘
  denote ⓪ = 𝟘
  denote ① = 𝟙
  denote (a ⊞ b) = denote a ⊕ denote b
  denote (a ⊠ b) = denote a ⊗ denote b
  denote (⊟ a) = ⊖ denote a

  -- The values of a monomial, of what has a sign, and of a sum.
  abbrev monomial : Monomial → C
  monomial [] = 𝟙
  monomial (i ∷ m) = monomial m ⊗ denote (# i)

  abbrev signed : Bool → C → C
  signed true x = x
  signed false x = ⊖ x

  abbrev value : Terms → C
  value [] = 𝟘
  value (u ∷ p) = signed u.0 (monomial u.1) ⊕ value p

  signed_not : (s : Bool) (x : C) → signed (not s) x ≡ ⊖ signed s x
  signed_not true x = refl
  signed_not false x = sym (Ring.neg_neg R x)

  signed_mul : (s : Bool) (x y : C) → signed s (x ⊗ y) ≡ signed s x ⊗ y
  signed_mul true x y = refl
  signed_mul false x y = sym (Ring.neg_mul R x y)

  monomial_times : (i : ℕ) (m : Monomial) → monomial (times i m) ≡ monomial m ⊗ denote (# i)
  monomial_times i [] = refl
  monomial_times i (j ∷ m) = either (leb i j) (ap (λ x. x ⊗ denote (# j)) (monomial_times i m) ∙ swap (monomial m) (denote (# i)) (denote (# j)))
    where
      swap : (x y z : C) → x ⊗ y ⊗ z ≡ x ⊗ z ⊗ y
      swap x y z = mul_assoc x y z ∙ ap (λ w. x ⊗ w) (mul_comm y z) ∙ sym (mul_assoc x z y)

      either : (b : Bool) → monomial (j ∷ times i m) ≡ monomial (i ∷ j ∷ m) → monomial (cond b (i ∷ j ∷ m) (j ∷ times i m)) ≡ monomial (i ∷ j ∷ m)
      either true h = refl
      either false h = h

  cancel : (x y z : C) → x ⊕ y ≡ 𝟘 → z ≡ x ⊕ (y ⊕ z)
  cancel x y z h = rw (← add_assoc, h, Ring.zero_add R)

  value_place :
      (o : Ordering) (s : Bool) (m : Monomial) (t : Bool) (n : Monomial) (p r : Terms)
      → (T (compare_is_eq o) → m ≡ n)
      → value r ≡ signed s (monomial m) ⊕ value p
      → value (place o s m t n p r) ≡ signed s (monomial m) ⊕ (signed t (monomial n) ⊕ value p)
  value_place Ordering.lt s m t n p r e h = refl
  value_place Ordering.eq true m true n p r e h = refl
  value_place Ordering.eq true m false n p r e h = cancel (monomial m) (⊖ monomial n) (value p) (rw (e tt) (add_neg (monomial n)))
  value_place Ordering.eq false m true n p r e h = cancel (⊖ monomial m) (monomial n) (value p) (rw (e tt) (Ring.neg_add R (monomial n)))
  value_place Ordering.eq false m false n p r e h = refl
  value_place Ordering.gt s m t n p r e h =
      ap (λ x. signed t (monomial n) ⊕ x) h
      ∙ Ring.add_left_comm R (signed t (monomial n)) (signed s (monomial m)) (value p)

  value_insert : (s : Bool) (m : Monomial) (p : Terms) → value (insert s m p) ≡ signed s (monomial m) ⊕ value p
  value_insert s m [] = refl
  value_insert s m (u ∷ p) = value_place (compare_monomials m u.1) s m u.0 u.1 p (insert s m p) (eq_of_compare m u.1) (value_insert s m p)

  -- What k adds to a sum is the monomial that it is given, times c.
  abbrev Adds : (Bool → Monomial → Terms → Terms) → C → Type 0
  Adds k c = (s : Bool) (m : Monomial) (p : Terms) → value (k s m p) ≡ signed s (monomial m) ⊗ c ⊕ value p

  value_expand : (e : Expr) (k : Bool → Monomial → Terms → Terms) (c : C) → Adds k c → Adds (expand e k) (denote e ⊗ c)
  value_expand (# i) k c h s m p = h s (times i m) p ∙ rw (monomial_times i m, signed_mul s (monomial m) (denote (# i)), mul_assoc)
  value_expand ⓪ k c h s m p = rw (Ring.zero_mul R c, Ring.mul_zero R (signed s (monomial m)), Ring.zero_add R (value p))
  value_expand ① k c h s m p = h s m p ∙ rw (Ring.one_mul R c)
  value_expand (a ⊞ b) k c h s m p =
      value_expand a k c h s m (expand b k s m p)
      ∙ ap (λ x. signed s (monomial m) ⊗ (denote a ⊗ c) ⊕ x) (value_expand b k c h s m p)
      ∙ rw (Ring.add_mul R (denote a) (denote b) c, mul_add, add_assoc)
  value_expand (a ⊠ b) k c h s m p = value_expand a (expand b k) (denote b ⊗ c) (value_expand b k c h) s m p ∙ rw (mul_assoc (denote a) (denote b) c)
  value_expand (⊟ a) k c h s m p =
      value_expand a k c h (not s) m p
      ∙ rw (signed_not s (monomial m), Ring.neg_mul R (denote a) c, Ring.neg_mul R (signed s (monomial m)), Ring.mul_neg R (signed s (monomial m)))

  value_expand_insert : (e : Expr) (s : Bool) (p : Terms) → value (expand e insert s [] p) ≡ signed s (denote e) ⊕ value p
  value_expand_insert e s p =
      value_expand e insert 𝟙 (λ s m p. value_insert s m p ∙ rw (mul_one (signed s (monomial m)))) s [] p
      ∙ rw (mul_one (denote e), ← signed_mul s 𝟙 (denote e), Ring.one_mul R (denote e))

  value_empty : (p : Terms) → is_empty p ≡ true → value p ≡ 𝟘
  value_empty [] h = refl
  value_empty (u ∷ p) h = absurd (false≢true h)

  -- Expressions that the test finds the same have the same value.
  pub ring : (l r : Expr) → same l r ≡ true → denote l ≡ denote r
  ring l r h = Ring.eq_of_sub R (denote l) (denote r) (sym value_difference ∙ value_empty (difference l r) h)
    where
      value_difference : value (difference l r) ≡ denote l ⊕ ⊖ denote r
      value_difference =
          value_expand_insert l true (expand r insert false [] [])
          ∙ ap (λ x. denote l ⊕ x) (value_expand_insert r false [] ∙ add_zero (⊖ denote r))
