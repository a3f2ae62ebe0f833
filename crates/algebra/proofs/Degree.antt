-- Degrees of polynomials and of determinants of polynomial matrices. The rows have degrees r and the columns have shifts s, integers
-- that may be negative: the entry at (i, j) has degree at most r i − s j, and is 0 where that is negative. The leading matrix has the
-- coefficients at those places.
--   leading r s P            the leading matrix of P
--   EntriesAtMost m n r s P  the entries of P have degrees at most r i − s j
--   det_degree, degree_of_det            the degree and the leading coefficient of a determinant
use Rattle.std.specs.Prelude.{◌≡◌, ◌≢◌, [], ◌∷◌, ℤ, ◌+ℤ◌, ◌-ℤ◌}
use Rattle.std.proofs.Math.Path.{refl, sym, ap, ap₂, subst}
use Rattle.std.proofs.Common.{◌∙◌}
use Prim.Native.Nat.{ℕ, zero, suc, ◌<◌, suc-le-suc}
use Rattle.std.proofs.Math.Nat as Nat
use Rattle.std.proofs.Math.IntN.{pos, negsuc, +ℤ_idr, +ℤ-suc_ℤ}
use Rattle.algebra.specs.Ring as Ring
use Rattle.algebra.specs.Ring.{CommRing, Decides, sign}
use Rattle.algebra.specs.Solver.{v0, v1, v2, v3, ⓪, ◌⊞◌, ⊟◌, ring}
use Rattle.algebra.specs.Integer.{Integers}
use Rattle.algebra.specs.Sum.{sum, sum_apart, sum_cong, skip, skip_below}
use Rattle.algebra.specs.Series.{series_ext}
use Rattle.algebra.proofs.Series.{Series}
use Rattle.algebra.specs.Polynomial.{Below}
use Rattle.algebra.proofs.Polynomial.{below_mul_suc, below_add, below_neg, mul_leading}
use Rattle.algebra.specs.Matrix.{Matrix}
use Rattle.algebra.specs.Det.{minor, det}
use Rattle.algebra.specs.Degree.{AtMost, coefficient, at_most_zeros, coefficient_zeros, at_most_constant, coefficient_constant, at_most_suc_iff, Lead, lead_at, coefficient_ne_zero}

-- In the expansion along the first row, the degrees of the factors of each term add up to Σr − Σs.
expansion_degree : (n j : ℕ) (r s : ℕ → ℤ) → j < suc n
    → pos zero +ℤ (r zero -ℤ s j) +ℤ (sum Integers n (λ i. r (suc i)) -ℤ sum Integers n (λ c. s (skip j c))) ≡ sum Integers (suc n) r -ℤ sum Integers (suc n) s
unfolding sum
expansion_degree n j r s b =
    ring Integers (r zero ∷ s j ∷ sum Integers n (λ i. r (suc i)) ∷ sum Integers n (λ c. s (skip j c)) ∷ [])
    (⓪ ⊞ (v0 ⊞ ⊟ v1) ⊞ (v2 ⊞ ⊟ v3)) (v0 ⊞ v2 ⊞ ⊟ (v1 ⊞ v3)) refl
    ∙ ap (λ x. sum Integers (suc n) r -ℤ x) (sym (sum_apart Integers n j s b))

module _ (R : CommRing) where
  open R use {C, 𝟘, 𝟙, ◌⊕◌, ◌⊗◌, ⊖◌, add_zero}
  open Series R use {◌⊕◌ as ◌⊞ₛ◌, ◌⊗◌ as ◌⊠ₛ◌, ⊖◌ as ⊟ₛ◌, 𝟘 as 𝟘ₛ}

  infixl 60 ◌⊕◌
  infixl 70 ◌⊗◌
  infix 80 ⊖◌
  infixl 60 ◌⊞ₛ◌
  infixl 70 ◌⊠ₛ◌
  infix 80 ⊟ₛ◌
  -- A sum has degree at most e where the terms have …
  pub at_most_add : (e : ℤ) (f g : ℕ → C) → AtMost R e f → AtMost R e g → AtMost R e (f ⊞ₛ g)
  unfolding AtMost
  at_most_add (pos d) f g hf hg = below_add R f g hf hg
  at_most_add (negsuc d) f g hf hg = λ k. ap₂ (λ x y. x ⊕ y) (hf k) (hg k) ∙ add_zero 𝟘

  -- … and its coefficient is the sum of theirs.
  pub coefficient_add : (e : ℤ) (f g : ℕ → C) → coefficient R e (f ⊞ₛ g) ≡ coefficient R e f ⊕ coefficient R e g
  unfolding coefficient
  coefficient_add (pos d) f g = refl
  coefficient_add (negsuc d) f g = sym (add_zero 𝟘)

  -- A negative has degree at most e where the series has …
  pub at_most_neg : (e : ℤ) (f : ℕ → C) → AtMost R e f → AtMost R e (⊟ₛ f)
  unfolding AtMost
  at_most_neg (pos d) f h = below_neg R f h
  at_most_neg (negsuc d) f h = λ k. ap (λ x. ⊖ x) (h k) ∙ Ring.neg_zero R

  -- … and its coefficient is the negative.
  pub coefficient_neg : (e : ℤ) (f : ℕ → C) → coefficient R e (⊟ₛ f) ≡ ⊖ coefficient R e f
  unfolding coefficient
  coefficient_neg (pos d) f = refl
  coefficient_neg (negsuc d) f = sym (Ring.neg_zero R)

  -- A finite sum has degree at most e where the terms have …
  pub at_most_sum : (e : ℤ) (n : ℕ) (f : ℕ → ℕ → C) → ((i : ℕ) → i < n → AtMost R e (f i)) → AtMost R e (sum (Series R) n f)
  unfolding sum
  at_most_sum e zero f h = at_most_zeros R e 𝟘ₛ (λ k. refl)
  at_most_sum e (suc n) f h =
      at_most_add e (f zero) (sum (Series R) n (λ i. f (suc i))) (h zero (Nat.zero-lt-suc n))
      (at_most_sum e n (λ i. f (suc i)) (λ i b. h (suc i) (suc-le-suc b)))

  -- … and its coefficient is the sum of theirs.
  pub coefficient_sum : (e : ℤ) (n : ℕ) (f : ℕ → ℕ → C) → coefficient R e (sum (Series R) n f) ≡ sum R n (λ i. coefficient R e (f i))
  unfolding sum
  coefficient_sum e zero f = coefficient_zeros R e 𝟘ₛ (λ k. refl)
  coefficient_sum e (suc n) f =
      coefficient_add e (f zero) (sum (Series R) n (λ i. f (suc i))) ∙ ap (λ x. coefficient R e (f zero) ⊕ x) (coefficient_sum e n (λ i. f (suc i)))

  zeros_mul : (f g : ℕ → C) → ((k : ℕ) → f k ≡ 𝟘) → (k : ℕ) → (f ⊠ₛ g) k ≡ 𝟘
  zeros_mul f g h k = ap (λ x. (x ⊠ₛ g) k) (series_ext R h) ∙ ap (λ s. s k) (Ring.zero_mul (Series R) g)

  mul_zeros : (f g : ℕ → C) → ((k : ℕ) → g k ≡ 𝟘) → (k : ℕ) → (f ⊠ₛ g) k ≡ 𝟘
  mul_zeros f g h k = ap (λ x. (f ⊠ₛ x) k) (series_ext R h) ∙ ap (λ s. s k) (Ring.mul_zero (Series R) f)

  -- The degrees of factors add up …
  pub at_most_mul : (e e' : ℤ) (f g : ℕ → C) → AtMost R e f → AtMost R e' g → AtMost R (e +ℤ e') (f ⊠ₛ g)
  unfolding AtMost
  at_most_mul (pos d) (pos d') f g hf hg = below_mul_suc R f g hf hg
  at_most_mul (pos d) (negsuc d') f g hf hg = at_most_zeros R (pos d +ℤ negsuc d') (f ⊠ₛ g) (mul_zeros f g hg)
  at_most_mul (negsuc d) (pos d') f g hf hg = at_most_zeros R (negsuc d +ℤ pos d') (f ⊠ₛ g) (zeros_mul f g hf)
  at_most_mul (negsuc d) (negsuc d') f g hf hg = zeros_mul f g hf

  -- … and the coefficients there are multiplied.
  pub coefficient_mul : (e e' : ℤ) (f g : ℕ → C) → AtMost R e f → AtMost R e' g → coefficient R (e +ℤ e') (f ⊠ₛ g) ≡ coefficient R e f ⊗ coefficient R e' g
  unfolding AtMost coefficient
  coefficient_mul (pos d) (pos d') f g hf hg = mul_leading R f g hf hg
  coefficient_mul (pos d) (negsuc d') f g hf hg =
      (coefficient_zeros R) (pos d +ℤ negsuc d') (f ⊠ₛ g) (mul_zeros f g hg) ∙ sym (Ring.mul_zero R (f d))
  coefficient_mul (negsuc d) (pos d') f g hf hg =
      (coefficient_zeros R) (negsuc d +ℤ pos d') (f ⊠ₛ g) (zeros_mul f g hf) ∙ sym (Ring.zero_mul R (g d'))
  coefficient_mul (negsuc d) (negsuc d') f g hf hg = sym (Ring.zero_mul R 𝟘)

  -- A bound can be enlarged.
  pub at_most_mono : (e : ℤ) (k : ℕ) (f : ℕ → C) → AtMost R e f → AtMost R (e +ℤ pos k) f
  at_most_mono e zero f h = subst (λ x. AtMost R x f) (sym (+ℤ_idr e)) h
  at_most_mono e (suc k) f h = subst (λ x. AtMost R x f) (sym (+ℤ-suc_ℤ e (pos k))) ((at_most_suc_iff R (e +ℤ pos k) f).0 (at_most_mono e k f h)).0

  -- The degrees of factors add up, and the coefficients there are multiplied.
  pub lead_mul : (e e' : ℤ) (f g : ℕ → C) (c c' : C) → Lead R e f c → Lead R e' g c' → Lead R (e +ℤ e') (f ⊠ₛ g) (c ⊗ c')
  lead_mul e e' f g c c' h h' = (at_most_mul e e' f g h.0 h'.0, coefficient_mul e e' f g h.0 h'.0 ∙ ap₂ (λ x y. x ⊗ y) h.1 h'.1)

  -- Sums of one degree: the coefficients there are added.
  pub lead_sum : (e : ℤ) (n : ℕ) (f : ℕ → ℕ → C) (c : ℕ → C) → ((i : ℕ) → i < n → Lead R e (f i) (c i)) → Lead R e (sum (Series R) n f) (sum R n c)
  lead_sum e n f c h = (at_most_sum e n f (λ i b. (h i b).0), coefficient_sum e n f ∙ sum_cong R n (λ i. coefficient R e (f i)) c (λ i b. (h i b).1))

  lead_sign : (j : ℕ) → Lead R (pos zero) (sign (Series R) j) (sign R j)
  unfolding sign
  lead_sign zero = (at_most_constant R 𝟙, coefficient_constant R 𝟙)
  lead_sign (suc j) =
      let (h, e) = lead_sign j in
      (at_most_neg (pos zero) (sign (Series R) j) h, coefficient_neg (pos zero) (sign (Series R) j) ∙ ap (λ x. ⊖ x) e)

  -- The coefficients at r i − s j: the leading matrix for the row degrees r and the shifts s.
  abbrev pub leading : (r s : ℕ → ℤ) → Matrix (Series R) → Matrix R
  leading r s P i j = coefficient R (r i -ℤ s j) (P i j)

  -- The entries of the first m rows and n columns have degrees at most r i − s j.
  abbrev pub EntriesAtMost : (m n : ℕ) (r s : ℕ → ℤ) → Matrix (Series R) → Type 0
  EntriesAtMost m n r s P = (i j : ℕ) → i < m → j < n → AtMost R (r i -ℤ s j) (P i j)

  -- The determinant has degree at most Σr − Σs, and its coefficient there is the determinant of the leading matrix.
  pub det_degree : (n : ℕ) (r s : ℕ → ℤ) (P : Matrix (Series R)) → EntriesAtMost n n r s P
      → Lead R (sum Integers n r -ℤ sum Integers n s) (det (Series R) n P) (det R n (leading r s P))
  unfolding det skip sum
  det_degree zero r s P h = (at_most_constant R 𝟙, coefficient_constant R 𝟙)
  det_degree (suc n) r s P h =
      lead_sum (sum Integers (suc n) r -ℤ sum Integers (suc n) s) (suc n)
      (λ j. sign (Series R) j ⊠ₛ P zero j ⊠ₛ det (Series R) n (minor zero j P))
      (λ j. sign R j ⊗ leading r s P zero j ⊗ det R n (minor zero j (leading r s P)))
      (λ j b. lead_at R _ _ (expansion_degree n j r s b)
      (lead_mul _ _ _ _ _ _ (lead_mul _ _ _ _ _ _ (lead_sign j) (h zero j (Nat.zero-lt-suc n) b, refl))
      (det_degree n (λ i. r (suc i)) (λ c. s (skip j c)) (minor zero j P) (λ i c hi hc. h (suc i) (skip j c) (suc-le-suc hi) (skip_below n j c hc)))))

  -- Where the leading matrix is nonsingular, Σr − Σs is a natural number and the degree of the determinant.
  pub degree_of_det : (n : ℕ) (r s : ℕ → ℤ) (P : Matrix (Series R)) → EntriesAtMost n n r s P → det R n (leading r s P) ≢ 𝟘
      → (d : ℕ) × (sum Integers n r -ℤ sum Integers n s ≡ pos d) × Below R (suc d) (det (Series R) n P) × (det (Series R) n P d ≢ 𝟘)
  unfolding AtMost
  degree_of_det n r s P h nz =
      let (bound, lead) = det_degree n r s P h in
      let (d, e, ne) = coefficient_ne_zero R (sum Integers n r -ℤ sum Integers n s) (det (Series R) n P) (λ z. nz (sym lead ∙ z)) in
      (d, e, subst (λ x. AtMost R x (det (Series R) n P)) e bound, ne)
