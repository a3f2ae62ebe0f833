-- The laws of integers that may be none: the largest of several, their sum, and an entry's degree plus a shift.
--   largest_is, largest_above, largest_none        the largest is one of them and not below any; it is none where all are
--   total_is, total_none, total_all                the sum, where all are there and where one is none
--   total_less                                     the sum of differences
--   shifted_is, shifted_none                       an entry that has a degree, and one that has none
use Rattle.std.specs.Prelude.{◌≡◌, refl, ◌⊎◌, Bool, true, false, cond, not, [], ◌∷◌, ℕ, zero, suc, ◌+◌, ◌-◌, ◌<◌, T, ℤ, pos, negsuc, neg_ℤ, ◌+ℤ◌, ◌-ℤ◌}
use Rattle.std.proofs.Common.{sym, ap, ap₂, subst, ◌∙◌, inl, inr, true≢false, suc-le-suc, le_of_suc-le-suc, not-suc-le-zero, zero-lt-suc, le_of_lt, arith, leb→le, le→leb}
use Rattle.std.specs.Prelude.{Option, None, Some, unwrap_or}
use Rattle.laws.specs.Options.{some_none}
use Rattle.std.proofs.lemmas.Option.{same_Some, none-some}
use Rattle.std.proofs.Math.Dec.{nleb→lt}
use Rattle.std.proofs.Math.IntN.{+ℤ_idr, +ℤ_idl, +ℤ_invl, +ℤ_assoc, neg_ℤ-+ℤ, -ℤ-+ℤ_cancel}
use Rattle.std.specs.Int.Signed.{le_z}
use Rattle.algebra.specs.Solver.{v0, v1, v2, v3, ◌⊞◌, ⊟◌, ring}
use Rattle.algebra.specs.Integer.{Integers}
use Rattle.algebra.specs.Sum.{sum}
use Rattle.rules.specs.Conditions.{degree_of, shifted_degree_of, max_z, larger, largest, plus, total, less}

-- THE LARGER OF TWO

-- What is not below a is a and a natural number more.
above : (a b : ℤ) → T (le_z a b) → (k : ℕ) × (b ≡ a +ℤ pos k)
above (pos a) (pos b) t = (b - a, ap pos (omega (arith, leb→le a b t)))
above (pos a) (negsuc b) t = absurd t
above (negsuc a) (pos b) t =
    (suc a + b, sym (sym (+ℤ_assoc (negsuc a) (pos (suc a)) (pos b)) ∙ ap (λ x. x +ℤ pos b) (+ℤ_invl (pos (suc a))) ∙ +ℤ_idl (pos b)))
above (negsuc a) (negsuc b) t =
    let k : ℕ = a - b in
    let apart : suc a ≡ suc b + k = omega (arith, leb→le b a t) in
    let lower : negsuc a ≡ negsuc b -ℤ pos k = ap (λ n. neg_ℤ (pos n)) apart ∙ neg_ℤ-+ℤ (pos (suc b)) (pos k) in
    (k, sym (ap (λ x. x +ℤ pos k) lower ∙ -ℤ-+ℤ_cancel (negsuc b) (pos k)))

other_below : (a b : ℤ) → le_z a b ≡ false → T (le_z b a)
other_below (pos a) (pos b) e = le→leb b a (le_of_lt (nleb→lt a b (subst (λ x. T (not x)) (sym e) tt)))
other_below (pos a) (negsuc b) e = tt
other_below (negsuc a) (pos b) e = absurd (true≢false e)
other_below (negsuc a) (negsuc b) e = le→leb a b (le_of_lt (nleb→lt b a (subst (λ x. T (not x)) (sym e) tt)))

-- The larger of two is each of them and a natural number more.
pub max_above_left : (a b : ℤ) → (k : ℕ) × (max_z a b ≡ a +ℤ pos k)
max_above_left a b = go (le_z a b) refl
  where
    go : (t : Bool) → le_z a b ≡ t → (k : ℕ) × (cond t b a ≡ a +ℤ pos k)
    go true e = above a b (subst T (sym e) tt)
    go false e = (zero, sym (+ℤ_idr a))

pub max_above_right : (a b : ℤ) → (k : ℕ) × (max_z a b ≡ b +ℤ pos k)
max_above_right a b = go (le_z a b) refl
  where
    go : (t : Bool) → le_z a b ≡ t → (k : ℕ) × (cond t b a ≡ b +ℤ pos k)
    go true e = (zero, sym (+ℤ_idr b))
    go false e = above b a (other_below a b e)

-- THE LARGEST

-- The larger of two that may be none is one of them, …
larger_is : (x y : Option ℤ) (z : ℤ) → larger x y ≡ Some z → (x ≡ Some z) ⊎ (y ≡ Some z)
larger_is None y z e = inr e
larger_is (Some a) None z e = inl e
larger_is (Some a) (Some b) z e = go (le_z a b) e
  where
    go : (t : Bool) → Some (cond t b a) ≡ Some z → (Some a ≡ Some z) ⊎ (Some b ≡ Some z)
    go true e = inr e
    go false e = inl e

-- … is not below either, …
larger_above_left : (a : ℤ) (y : Option ℤ) (z : ℤ) → larger (Some a) y ≡ Some z → (k : ℕ) × (z ≡ a +ℤ pos k)
larger_above_left a None z e = (zero, sym (same_Some _ _ e) ∙ sym (+ℤ_idr a))
larger_above_left a (Some b) z e = let (k, h) = max_above_left a b in (k, sym (same_Some _ _ e) ∙ h)

larger_above_right : (x : Option ℤ) (b : ℤ) → (z : ℤ) → larger x (Some b) ≡ Some z → (k : ℕ) × (z ≡ b +ℤ pos k)
larger_above_right None b z e = (zero, sym (same_Some _ _ e) ∙ sym (+ℤ_idr b))
larger_above_right (Some a) b z e = let (k, h) = max_above_right a b in (k, sym (same_Some _ _ e) ∙ h)

-- … and is none where both are.
larger_none : (x y : Option ℤ) → larger x y ≡ None → (x ≡ None) × (y ≡ None)
larger_none None y e = (refl, e)
larger_none (Some a) None e = absurd (some_none _ e)
larger_none (Some a) (Some b) e = absurd (some_none _ e)

-- The largest of f 0, …, f (n − 1) is one of them, …
pub largest_is : (n : ℕ) (f : ℕ → Option ℤ) (z : ℤ) → largest n f ≡ Some z → (j : ℕ) × (j < n) × (f j ≡ Some z)
unfolding largest
largest_is zero f z e = absurd (none-some _ e)
largest_is (suc n) f z e = elim (larger_is (f zero) (largest n (λ j. f (suc j))) z e) [
  | inl first ↦ (zero, zero-lt-suc n, first)
  | inr later ↦ let (j, b, h) = largest_is n (λ j. f (suc j)) z later in (suc j, suc-le-suc b, h)
]

-- … none where all are, …
pub largest_none : (n : ℕ) (f : ℕ → Option ℤ) → largest n f ≡ None → (j : ℕ) → j < n → f j ≡ None
unfolding largest
largest_none zero f e j b = absurd (not-suc-le-zero b)
largest_none (suc n) f e zero b = (larger_none (f zero) (largest n (λ j. f (suc j))) e).0
largest_none (suc n) f e (suc j) b = largest_none n (λ j. f (suc j)) (larger_none (f zero) (largest n (λ j. f (suc j))) e).1 j (le_of_suc-le-suc b)

-- … and each of them and a natural number more.
pub largest_above : (n : ℕ) (f : ℕ → Option ℤ) (z : ℤ) → largest n f ≡ Some z → (j : ℕ) (x : ℤ) → j < n → f j ≡ Some x → (k : ℕ) × (z ≡ x +ℤ pos k)
unfolding largest
largest_above zero f z e j x b h = absurd (not-suc-le-zero b)
largest_above (suc n) f z e zero x b h = larger_above_left x (largest n (λ j. f (suc j))) z (ap (λ o. larger o (largest n (λ j. f (suc j)))) (sym h) ∙ e)
largest_above (suc n) f z e (suc j) x b h =
    by (largest n (λ j. f (suc j))) refl (λ y rest. largest_above n (λ j. f (suc j)) y rest j x (le_of_suc-le-suc b) h)
  where
    by : (o : Option ℤ) → largest n (λ j. f (suc j)) ≡ o → ((y : ℤ) → largest n (λ j. f (suc j)) ≡ Some y → (k : ℕ) × (y ≡ x +ℤ pos k))
        → (k : ℕ) × (z ≡ x +ℤ pos k)
    by None none_left later = absurd (none-some _ (sym (largest_none n (λ j. f (suc j)) none_left j (le_of_suc-le-suc b)) ∙ h))
    by (Some y) rest later =
        let (k, over) = later y rest in
        let (l, top) = larger_above_right (f zero) y z (ap (larger (f zero)) (sym rest) ∙ e) in
        (k + l, top ∙ ap (λ w. w +ℤ pos l) over ∙ +ℤ_assoc x (pos k) (pos l))

-- THE SUM

-- Where all are there, the sum is that of the integers …
pub total_is : (n : ℕ) (f : ℕ → Option ℤ) (g : ℕ → ℤ) → ((i : ℕ) → i < n → f i ≡ Some (g i)) → total n f ≡ Some (sum Integers n g)
unfolding total sum
total_is zero f g h = refl
total_is (suc n) f g h =
    ap₂ plus (h zero (zero-lt-suc n)) (total_is n (λ i. f (suc i)) (λ i. g (suc i)) (λ i b. h (suc i) (suc-le-suc b)))

plus_none : (x : Option ℤ) → plus x None ≡ None
plus_none None = refl
plus_none (Some a) = refl

-- … where one is none, so is the sum …
pub total_none : (n : ℕ) (f : ℕ → Option ℤ) (i : ℕ) → i < n → f i ≡ None → total n f ≡ None
unfolding total
total_none zero f i b h = absurd (not-suc-le-zero b)
total_none (suc n) f zero b h = ap (λ o. plus o (total n (λ i. f (suc i)))) h
total_none (suc n) f (suc i) b h = ap (plus (f zero)) (total_none n (λ i. f (suc i)) i (le_of_suc-le-suc b) h) ∙ plus_none (f zero)

-- … and where the sum is there, all are.
pub total_all : (n : ℕ) (f : ℕ → Option ℤ) (z : ℤ) → total n f ≡ Some z → (i : ℕ) → i < n → f i ≡ Some (unwrap_or (f i) (pos 0))
total_all n f z e i b = by (f i) refl
  where
    by : (o : Option ℤ) → f i ≡ o → o ≡ Some (unwrap_or o (pos 0))
    by None h = absurd (none-some _ (sym (total_none n f i b h) ∙ e))
    by (Some x) h = refl

-- The sum of the differences is the difference of the sums.
pub total_less : (n : ℕ) (f : ℕ → Option ℤ) (s : ℕ → ℤ) → total n (λ i. less (f i) (s i)) ≡ less (total n f) (sum Integers n s)
unfolding total sum
total_less zero f s = refl
total_less (suc n) f s =
    ap (plus (less (f zero) (s zero))) (total_less n (λ i. f (suc i)) (λ i. s (suc i))) ∙ both (f zero) (total n (λ i. f (suc i))) (s zero)
    (sum Integers n (λ i. s (suc i)))
  where
    both : (x y : Option ℤ) (s t : ℤ) → plus (less x s) (less y t) ≡ less (plus x y) (s +ℤ t)
    both None y s t = refl
    both (Some a) None s t = refl
    both (Some a) (Some b) s t = ap Some (ring Integers (a ∷ s ∷ b ∷ t ∷ []) (v0 ⊞ ⊟ v1 ⊞ (v2 ⊞ ⊟ v3)) (v0 ⊞ v2 ⊞ ⊟ (v1 ⊞ v3)) refl)

-- AN ENTRY

-- "A zero entry has no degree", …
pub shifted_zero : (s : ℤ) → shifted_degree_of 0 s ≡ None
unfolding shifted_degree_of degree_of
shifted_zero s = refl

-- … and any other has one less than it has coefficients.
pub shifted_some : (d : ℕ) (s : ℤ) → shifted_degree_of (suc d) s ≡ Some (pos d +ℤ s)
unfolding shifted_degree_of degree_of
shifted_some d s = refl

-- An entry that has a degree is not zero.
pub shifted_is : (n : ℕ) (s z : ℤ) → shifted_degree_of n s ≡ Some z → (d : ℕ) × (n ≡ suc d) × (z ≡ pos d +ℤ s)
shifted_is zero s z e = absurd (none-some _ (sym (shifted_zero s) ∙ e))
shifted_is (suc d) s z e = (d, refl, same_Some _ _ (sym e ∙ shifted_some d s))

-- An entry that has none is zero.
pub shifted_none : (n : ℕ) (s : ℤ) → shifted_degree_of n s ≡ None → n ≡ 0
shifted_none zero s e = refl
shifted_none (suc d) s e = absurd (some_none _ (sym (shifted_some d s) ∙ e))
