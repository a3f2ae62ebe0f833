-- What happens to a determinant when a row is expanded, replaced, scaled, added to another or swapped with another.
--   replace i r A            A with the row r in place of row i (`Sum`)
--   exchange i k A           A with the rows i and k swapped (`Sum`)
use Rattle.std.specs.Prelude.{◌≡◌, ◌≢◌, ℕ, zero, suc, ◌+◌, ◌<◌}
use Rattle.std.proofs.Math.Path.{sym, ap, fun_ext}
use Rattle.std.proofs.Common.{ap₂, ◌∙◌, not-suc-le-zero}
use Rattle.algebra.specs.Ring as Ring
use Rattle.algebra.specs.Ring.{CommRing, sign, sign_add, sign_square}
use Rattle.algebra.specs.Sum.{skip, skip_ne, skip_hits, sum, sum_cong, mul_sum, replace, replace_at, replace_other, replace_self, replace_comm}
use Rattle.algebra.specs.Sum.{exchange, exchange_replace}
use Rattle.algebra.specs.Matrix.{Row, Matrix, SameRow, cons}
use Rattle.algebra.specs.Det.{minor, det}
use Rattle.algebra.specs.Alternating.{alternating_front, alternating_twice}
use Rattle.algebra.proofs.ProductRule.{det_alternating}

module _ (R : CommRing) where
  open R use {C, 𝟘, ◌⊕◌, ◌⊗◌, ⊖◌, add_comm, add_zero, mul_assoc, mul_add}

  infixl 60 ◌⊕◌
  infixl 70 ◌⊗◌
  infix 80 ⊖◌
  -- A row moved to the front, the others in their order.
  pub det_front : (n i : ℕ) (A : Matrix R) → i < suc n → det R (suc n) A ≡ sign R i ⊗ det R (suc n) (cons (A i) (λ k. A (skip i k)))
  det_front n i A h =
      sym (ap (λ x. sign R i ⊗ x) (alternating_front R (suc n) n (det R (suc n)) (det_alternating R (suc n)) A i h)
      ∙ sym (mul_assoc (sign R i) (sign R i) (det R (suc n) A))
      ∙ ap (λ x. x ⊗ det R (suc n) A) (sign_square R i)
      ∙ Ring.one_mul R (det R (suc n) A))

  -- Expansion along any row i, of any row r in its place: the signs are (−1)^(i+j).
  pub expand_row : (n i : ℕ) (r : Row R) (A : Matrix R)
      → sum R (suc n) (λ j. r j ⊗ (sign R (i + j) ⊗ det R n (minor i j A))) ≡ sign R i ⊗ det R (suc n) (cons r (λ k. A (skip i k)))
  unfolding det cons skip
  expand_row n i r A =
      sum_cong R (suc n) (λ j. r j ⊗ (sign R (i + j) ⊗ det R n (minor i j A))) (λ j. sign R i ⊗ (sign R j ⊗ r j ⊗ det R n (minor i j A)))
      (λ j b. ap (λ x. r j ⊗ (x ⊗ det R n (minor i j A))) (sign_add R i j) ∙ regroup (r j) (sign R i) (sign R j) (det R n (minor i j A)))
      ∙ sym (mul_sum R (suc n) (sign R i) (λ j. sign R j ⊗ r j ⊗ det R n (minor i j A)))
    where
      regroup : (a s t d : C) → a ⊗ (s ⊗ t ⊗ d) ≡ s ⊗ (t ⊗ a ⊗ d)
      regroup a s t d = simp (mul_assoc, Ring.mul_left_comm R)

  -- Expansion along row i.
  pub det_row : (n i : ℕ) (A : Matrix R) → i < suc n
      → det R (suc n) A ≡ sum R (suc n) (λ j. A i j ⊗ (sign R (i + j) ⊗ det R n (minor i j A)))
  det_row n i A h = det_front n i A h ∙ sym (expand_row n i (A i) A)

  -- A matrix with two equal rows has the determinant 0; the row above the others without row i …
  pub det_twice : (n i k : ℕ) (A : Matrix R) → i < suc n → k < suc n → k ≢ i → det R (suc n) (cons (A k) (λ j. A (skip i j))) ≡ 𝟘
  det_twice n i k A hi hk ne =
      let (c, b, e) = skip_hits n i k hi hk ne in
      ap (λ x. det R (suc n) (cons (A x) (λ j. A (skip i j)))) (sym e)
      ∙ alternating_twice R (suc n) n (det R (suc n)) (det_alternating R (suc n)) (λ j. A (skip i j)) c b

  -- … and any two rows.
  pub det_equal_rows : (n i k : ℕ) (A : Matrix R) → i < n → k < n → i ≢ k → SameRow R n (A i) (A k) → det R n A ≡ 𝟘
  det_equal_rows zero i k A hi hk ne e = absurd (not-suc-le-zero hi)
  det_equal_rows (suc n) i k A hi hk ne e =
      det_front n i A hi
      ∙ ap (λ x. sign R i ⊗ x)
      (((det_alternating R (suc n)).0 (λ j. A (skip i j))).local (A i) (A k) e ∙ det_twice n i k A hi hk (λ p. ne (sym p)))
      ∙ Ring.mul_zero R (sign R i)

  -- The row r in place of row i.
  pub det_replace : (n i : ℕ) (r : Row R) (A : Matrix R) → i < suc n
      → det R (suc n) (replace i r A) ≡ sign R i ⊗ det R (suc n) (cons r (λ k. A (skip i k)))
  det_replace n i r A h =
      det_front n i (replace i r A) h
      ∙ ap₂ (λ x y. sign R i ⊗ det R (suc n) (cons x y)) (replace_at i r A) (fun_ext (λ k. replace_other i r A (skip i k) (skip_ne i k)))

  -- A matrix with a copy of row k in place of row i has two equal rows.
  det_copied_row : (n i k : ℕ) (A : Matrix R) → i < n → k < n → i ≢ k → det R n (replace i (A k) A) ≡ 𝟘
  det_copied_row n i k A hi hk ne =
      det_equal_rows n i k (replace i (A k) A) hi hk ne
      (λ j b. ap (λ r. r j) (replace_at i (A k) A ∙ sym (replace_other i (A k) A k (λ p. ne (sym p)))))

  -- The determinant is linear in each row: sums …
  pub det_add : (n i : ℕ) (r s : Row R) (A : Matrix R) → i < n
      → det R n (replace i (λ j. r j ⊕ s j) A) ≡ det R n (replace i r A) ⊕ det R n (replace i s A)
  det_add zero i r s A h = absurd (not-suc-le-zero h)
  det_add (suc n) i r s A h =
      det_replace n i (λ j. r j ⊕ s j) A h
      ∙ ap (λ x. sign R i ⊗ x) (((det_alternating R (suc n)).0 (λ k. A (skip i k))).additive r s)
      ∙ mul_add (sign R i) (det R (suc n) (cons r (λ k. A (skip i k)))) (det R (suc n) (cons s (λ k. A (skip i k))))
      ∙ sym (ap₂ (λ x y. x ⊕ y) (det_replace n i r A h) (det_replace n i s A h))

  -- … and multiples.
  pub det_scale : (n i : ℕ) (c : C) (r : Row R) (A : Matrix R) → i < n → det R n (replace i (λ j. c ⊗ r j) A) ≡ c ⊗ det R n (replace i r A)
  det_scale zero i c r A h = absurd (not-suc-le-zero h)
  det_scale (suc n) i c r A h =
      det_replace n i (λ j. c ⊗ r j) A h
      ∙ ap (λ x. sign R i ⊗ x) (((det_alternating R (suc n)).0 (λ k. A (skip i k))).homogeneous c r)
      ∙ Ring.mul_left_comm R (sign R i) c (det R (suc n) (cons r (λ k. A (skip i k))))
      ∙ ap (λ x. c ⊗ x) (sym (det_replace n i r A h))

  -- A multiple of another row may be added to a row.
  pub det_add_row : (n i k : ℕ) (c : C) (A : Matrix R) → i < n → k < n → i ≢ k
      → det R n (replace i (λ j. A i j ⊕ c ⊗ A k j) A) ≡ det R n A
  det_add_row n i k c A hi hk ne =
      det_add n i (A i) (λ j. c ⊗ A k j) A hi
      ∙ ap₂ (λ x y. x ⊕ y) (ap (λ M. det R n M) (replace_self i A))
      (det_scale n i c (A k) A hi ∙ ap (λ x. c ⊗ x) (det_copied_row n i k A hi hk ne) ∙ Ring.mul_zero R c)
      ∙ add_zero (det R n A)

  -- The same row in two places.
  det_same_row : (n i k : ℕ) (r : Row R) (A : Matrix R) → i < n → k < n → i ≢ k → det R n (replace i r (replace k r A)) ≡ 𝟘
  det_same_row n i k r A hi hk ne =
      ap (λ x. det R n (replace i x (replace k r A))) (sym (replace_at k r A)) ∙ det_copied_row n i k (replace k r A) hi hk ne

  -- A sum in the second of two replaced rows.
  det_add_second : (n i k : ℕ) (r s t : Row R) (A : Matrix R) → k < n → i ≢ k
      → det R n (replace i r (replace k (λ j. s j ⊕ t j) A)) ≡ det R n (replace i r (replace k s A)) ⊕ det R n (replace i r (replace k t A))
  det_add_second n i k r s t A hk ne =
      ap (λ M. det R n M) (replace_comm i k r (λ j. s j ⊕ t j) A ne)
      ∙ det_add n k s t (replace i r A) hk
      ∙ sym (ap₂ (λ M N. det R n M ⊕ det R n N) (replace_comm i k r s A ne) (replace_comm i k r t A ne))

  -- Two rows that change places change the sign.
  pub det_exchange : (n i k : ℕ) (A : Matrix R) → i < n → k < n → i ≢ k → det R n (exchange i k A) ≡ ⊖ det R n A
  det_exchange n i k A hi hk ne =
      ap (λ M. det R n M) (exchange_replace i k A)
      ∙ Ring.neg_unique R (det R n (replace i (A k) (replace k (A i) A))) (det R n A)
      (add_comm (det R n (replace i (A k) (replace k (A i) A))) (det R n A)
      ∙ sym (det_add n i (A i) (A k) (replace k both A) hi
      ∙ ap₂ (λ x y. x ⊕ y)
      (det_add_second n i k (A i) (A i) (A k) A hk ne
      ∙ ap₂ (λ x M. x ⊕ det R n M) (det_same_row n i k (A i) A hi hk ne) (ap (λ M. replace i (A i) M) (replace_self k A) ∙ replace_self i A)
      ∙ Ring.zero_add R (det R n A))
      (det_add_second n i k (A k) (A i) (A k) A hk ne
      ∙ ap (λ x. det R n (replace i (A k) (replace k (A i) A)) ⊕ x) (det_same_row n i k (A k) A hi hk ne)
      ∙ add_zero (det R n (replace i (A k) (replace k (A i) A)))))
      ∙ det_same_row n i k both A hi hk ne)
    where
      both : Row R
      both j = A i j ⊕ A k j
