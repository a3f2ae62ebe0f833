-- Degrees of rows of polynomials, and the predictable degree of a combination of rows: where the leading matrix of P is nonsingular,
-- w·P for the shifts s has the degree of w for the row degrees r. Degrees and shifts are integers.
--   RowAtMost m s D v        the row v has degree at most D for the shifts s: v j has degree at most D − s j
--   row_coefficient s D v    the row of the coefficients at D − s j
--   RowDegree m s D v        the row v has degree D for the shifts s
--   row_degree_coefficients  the same by the powers of its coefficients
--   row_degree, row_zero_or_degree, row_degree_unique  a row has a degree where it has a coefficient other than 0, and one at most
--   vmul_degree              the degree of a row times a matrix, and the coefficients there
--   row_at_most_iff, predictable_degree  w·P has degree at most D, or degree D, for s exactly if w has it for r
use Rattle.std.specs.Prelude.{◌≡◌, refl, ◌≢◌, ◌⊎◌, ◌↔◌, [], ◌∷◌, ℕ, zero, suc, ◌+◌, ◌-◌, ◌≤◌, ◌<◌, ℤ, negsuc, neg_ℤ, nat_abs, ◌+ℤ◌, ◌-ℤ◌}
use Rattle.std.proofs.Math.Path.{sym, ap, subst}
use Rattle.std.proofs.Common.{◌∙◌, inl, inr, arith}
use Rattle.std.proofs.Math.IntN.{pos, suc_ℤ, +ℤ_idr, +ℤ_idl, +ℤ_invl, +ℤ_assoc, +ℤ-neg_ℤ_cancel, -ℤ-+ℤ_cancel, +ℤ-suc_ℤ, suc_ℤ-+ℤ}
use Rattle.algebra.specs.Ring.{CommRing, Cancels, Decides}
use Rattle.algebra.specs.Solver.{v0, v1, v2, ◌⊞◌, ⊟◌, ring}
use Rattle.algebra.specs.Integer.{Integers, More}
use Rattle.algebra.specs.Sum.{all_or_one, zeros_or_not}
use Rattle.algebra.proofs.Series.{Series}
use Rattle.algebra.specs.Polynomial.{Below, Poly, below_mono}
use Rattle.algebra.proofs.Polynomial.{degree}
use Rattle.algebra.specs.Polynomial.{maximum, le_maximum}
use Rattle.algebra.specs.Matrix.{Row, Matrix, vmul, vmul_zero}
use Rattle.algebra.specs.Det.{det}
use Rattle.algebra.proofs.Adjugate.{kernel_zero}
use Rattle.algebra.specs.Degree.{AtMost, coefficient, Lead, at_most_suc_iff, at_most_iff, lead_at}
use Rattle.algebra.proofs.Degree.{leading, EntriesAtMost, at_most_mono, lead_mul, lead_sum}
use Rattle.algebra.specs.Degree.{coefficient_ne_zero}

sub_add : (a b c : ℤ) → a -ℤ b +ℤ c ≡ a +ℤ c -ℤ b
sub_add a b c = ring Integers (a ∷ b ∷ c ∷ []) (v0 ⊞ ⊟ v1 ⊞ v2) (v0 ⊞ v2 ⊞ ⊟ v1) refl

sub_add_sub : (a b c : ℤ) → a -ℤ b +ℤ (b -ℤ c) ≡ a -ℤ c
sub_add_sub a b c = ring Integers (a ∷ b ∷ c ∷ []) (v0 ⊞ ⊟ v1 ⊞ (v1 ⊞ ⊟ v2)) (v0 ⊞ ⊟ v2) refl

exchange_last : (a b c : ℤ) → a +ℤ b +ℤ c ≡ a +ℤ c +ℤ b
exchange_last a b c = ring Integers (a ∷ b ∷ c ∷ []) (v0 ⊞ v1 ⊞ v2) (v0 ⊞ v2 ⊞ v1) refl

module _ (R : CommRing) where
  open R use {C, 𝟘, ◌⊗◌}
  open Series R use {◌⊗◌ as ◌⊠ₛ◌}

  infixl 70 ◌⊗◌
  infixl 70 ◌⊠ₛ◌
  -- The row v has degree at most D for the shifts s: its entries v j, j < m, have degrees at most D − s j.
  abbrev pub RowAtMost : ℕ → (ℕ → ℤ) → ℤ → Row (Series R) → Type 0
  RowAtMost m s D v = (j : ℕ) → j < m → AtMost R (D -ℤ s j) (v j)

  -- The row of the coefficients at D − s j.
  abbrev pub row_coefficient : (ℕ → ℤ) → ℤ → Row (Series R) → Row R
  row_coefficient s D v j = coefficient R (D -ℤ s j) (v j)

  -- The row v has degree D for the shifts s: it is at most D, and one of the coefficients there is not 0.
  abbrev pub RowDegree : ℕ → (ℕ → ℤ) → ℤ → Row (Series R) → Type 0
  RowDegree m s D v = RowAtMost m s D v × ((j : ℕ) × (j < m) × (row_coefficient s D v j ≢ 𝟘))

  -- A row has degree at most D exactly if it has degree at most D + 1 and the coefficients there are 0.
  pub row_at_most_suc_iff : (m : ℕ) (s : ℕ → ℤ) (D : ℤ) (v : Row (Series R))
      → RowAtMost m s D v ↔ (RowAtMost m s (suc_ℤ D) v × ((j : ℕ) → j < m → row_coefficient s (suc_ℤ D) v j ≡ 𝟘))
  row_at_most_suc_iff m s D v = (λ h. (λ j b. ((at j).0 (h j b)).0, λ j b. ((at j).0 (h j b)).1), λ t j b. (at j).1 (t.0 j b, t.1 j b))
    where
      at : (j : ℕ) → AtMost R (D -ℤ s j) (v j) ↔ Lead R (suc_ℤ D -ℤ s j) (v j) 𝟘
      at j = subst (λ e. AtMost R (D -ℤ s j) (v j) ↔ Lead R e (v j) 𝟘) (sym (suc_ℤ-+ℤ D (neg_ℤ (s j)))) (at_most_suc_iff R (D -ℤ s j) (v j))

  at_most_more : (e : ℤ) (k l : ℕ) (f : ℕ → C) → k ≤ l → AtMost R (e +ℤ pos k) f → AtMost R (e +ℤ pos l) f
  at_most_more e k l f le h =
      subst (λ x. AtMost R x f) (+ℤ_assoc e (pos k) (pos (l - k)) ∙ ap (λ n. e +ℤ pos n) (omega arith)) (at_most_mono R (e +ℤ pos k) (l - k) f h)

  at_most_below : (b : ℕ) (f : ℕ → C) → Below R b f → AtMost R (pos b) f
  unfolding AtMost
  at_most_below b f h = below_mono R f (omega arith) h

  -- A bound that is as far above e as e is from 0, and b more.
  at_most_far : (e : ℤ) (b : ℕ) (f : ℕ → C) → Below R b f → AtMost R (e +ℤ pos (nat_abs e + b)) f
  at_most_far (pos n) b f h = at_most_below (n + (n + b)) f (below_mono R f (omega arith) h)
  at_most_far (negsuc n) b f h =
      subst (λ x. AtMost R x f) (sym (sym (+ℤ_assoc (negsuc n) (pos (suc n)) (pos b)) ∙ ap (λ x. x +ℤ pos b) (+ℤ_invl (pos (suc n))) ∙ +ℤ_idl (pos b)))
      (at_most_below b f h)

  -- A bound on the degree of a row can be enlarged.
  pub row_at_most_mono : (m : ℕ) (s : ℕ → ℤ) (D : ℤ) (k : ℕ) (v : Row (Series R)) → RowAtMost m s D v → RowAtMost m s (D +ℤ pos k) v
  row_at_most_mono m s D k v h j b = subst (λ x. AtMost R x (v j)) (sub_add D (s j) (pos k)) (at_most_mono R (D -ℤ s j) k (v j) (h j b))

  -- Above the degree of a row there are zeros alone, …
  pub row_coefficient_above : (m : ℕ) (s : ℕ → ℤ) (D : ℤ) (k : ℕ) (v : Row (Series R)) → RowAtMost m s D v
      → (j : ℕ) → j < m → row_coefficient s (D +ℤ pos (suc k)) v j ≡ 𝟘
  row_coefficient_above m s D k v h j b =
      ap (λ x. row_coefficient s x v j) (+ℤ-suc_ℤ D (pos k)) ∙ ((row_at_most_suc_iff m s (D +ℤ pos k) v).0 (row_at_most_mono m s D k v h)).1 j b

  -- … so that a row has one degree at most.
  pub row_degree_unique : (m : ℕ) (s : ℕ → ℤ) (D D' : ℤ) (v : Row (Series R)) → RowDegree m s D v → RowDegree m s D' v → D ≡ D'
  row_degree_unique m s D D' v (h, (j, b, ne)) (h', (j', b', ne')) = by (D' -ℤ D) refl
    where
      higher : D' ≡ D +ℤ (D' -ℤ D)
      higher = ring Integers (D ∷ D' ∷ []) v1 (v0 ⊞ (v1 ⊞ ⊟ v0)) refl

      lower : D ≡ D' -ℤ (D' -ℤ D)
      lower = ring Integers (D ∷ D' ∷ []) v0 (v1 ⊞ ⊟ (v1 ⊞ ⊟ v0)) refl

      by : (x : ℤ) → D' -ℤ D ≡ x → D ≡ D'
      by (pos zero) e = sym (higher ∙ ap (λ x. D +ℤ x) e ∙ +ℤ_idr D)
      by (pos (suc k)) e =
          absurd (ne' (ap (λ x. row_coefficient s x v j') (higher ∙ ap (λ x. D +ℤ x) e) ∙ row_coefficient_above m s D k v h j' b'))
      by (negsuc k) e =
          absurd (ne (ap (λ x. row_coefficient s x v j) (lower ∙ ap (λ x. D' -ℤ x) e) ∙ row_coefficient_above m s D' k v h' j b))

  -- A row of polynomials has a bound on its degree, as far above D as need be.
  pub row_bound : (m : ℕ) (s : ℕ → ℤ) (D : ℤ) (v : ℕ → Poly R) → (k : ℕ) × RowAtMost m s (D +ℤ pos k) (λ j. (v j).series)
  row_bound m s D v = (
    maximum m far,
    λ j b. subst (λ x. AtMost R x (v j).series) (sub_add D (s j) (pos (maximum m far)))
        (at_most_more (D -ℤ s j) (far j) (maximum m far) (v j).series (le_maximum m far j b) (at_most_far (D -ℤ s j) (v j).bound (v j).series (v j).below)),
  )
    where
      far : ℕ → ℕ
      far j = nat_abs (D -ℤ s j) + (v j).bound

  -- A row has degree D exactly if it has a coefficient other than 0 in some column j at the power D − s j, and wherever it has one, the
  -- power plus the shift is at most D.
  pub row_degree_coefficients : Decides R → (m : ℕ) (s : ℕ → ℤ) (D : ℤ) (v : Row (Series R))
      → RowDegree m s D v
      ↔ (((j : ℕ) × (k : ℕ) × (j < m) × (v j k ≢ 𝟘) × (D ≡ pos k +ℤ s j)) × ((j k : ℕ) → j < m → v j k ≢ 𝟘 → More (pos k +ℤ s j) D))
  unfolding coefficient
  row_degree_coefficients decides m s D v = (
    λ (bound, (j, b, ne)).
        let (k, power, ne') = coefficient_ne_zero R (D -ℤ s j) (v j) ne in (
          (j, k, b, ne', sym (-ℤ-+ℤ_cancel D (s j)) ∙ ap (λ x. x +ℤ s j) power),
          λ j k b ne.
              let (l, over) = (at_most_iff R decides (D -ℤ s j) (v j)).0 (bound j b) k ne in
              (l, sym (-ℤ-+ℤ_cancel D (s j)) ∙ ap (λ x. x +ℤ s j) over ∙ exchange_last (pos k) (pos l) (s j)),
        ),
    λ ((j, k, b, ne, power), none_higher). (
      λ j b. (at_most_iff R decides (D -ℤ s j) (v j)).1 (λ k ne.
          let (l, over) = none_higher j k b ne in
          (l, ap (λ x. x -ℤ s j) (over ∙ exchange_last (pos k) (s j) (pos l)) ∙ +ℤ-neg_ℤ_cancel (pos k +ℤ pos l) (s j))),
      (j, b, subst (λ x. coefficient R x (v j) ≢ 𝟘) (sym (ap (λ x. x -ℤ s j) power ∙ +ℤ-neg_ℤ_cancel (pos k) (s j))) ne),
    ),
  )

  -- The degree of a product of a row and a matrix, and its coefficients there: those of the row times the leading matrix.
  pub vmul_degree : (m n : ℕ) (r s : ℕ → ℤ) (P : Matrix (Series R)) → EntriesAtMost R m n r s P → (w : Row (Series R)) (D : ℤ) → RowAtMost m r D w
      → (j : ℕ) → j < n → Lead R (D -ℤ s j) (vmul (Series R) m w P j) (vmul R m (row_coefficient r D w) (leading R r s P) j)
  unfolding vmul
  vmul_degree m n r s P h w D hw j b =
      lead_sum R (D -ℤ s j) m (λ i. w i ⊠ₛ P i j) (λ i. row_coefficient r D w i ⊗ leading R r s P i j)
      (λ i hi. lead_at R _ _ (sub_add_sub D (r i) (s j)) (lead_mul R _ _ _ _ _ _ (hw i hi, refl) (h i j hi b, refl)))

  -- A product of a row of degree at most D and a matrix has degree at most D.
  pub row_at_most_vmul : (m n : ℕ) (r s : ℕ → ℤ) (P : Matrix (Series R)) → EntriesAtMost R m n r s P → (w : Row (Series R)) (D : ℤ) → RowAtMost m r D w
      → RowAtMost n s D (vmul (Series R) m w P)
  row_at_most_vmul m n r s P h w D hw j b = (vmul_degree m n r s P h w D hw j b).0

  -- A row that has a coefficient other than 0 has a degree, and no smaller one than that coefficient gives.
  pub row_degree : Decides R → (m : ℕ) (s : ℕ → ℤ) (v : ℕ → Poly R) (j a : ℕ) → j < m → (v j).series a ≢ 𝟘
      → (k : ℕ) × RowDegree m s (pos a +ℤ s j +ℤ pos k) (λ j. (v j).series)
  unfolding coefficient
  row_degree decides m s v j a b ne = let (k, h) = row_bound m s (pos a +ℤ s j) v in search_down k h
    where
      row : Row (Series R)
      row j = (v j).series

      first : coefficient R (pos a +ℤ s j -ℤ s j) (row j) ≢ 𝟘
      first = subst (λ x. coefficient R x (row j) ≢ 𝟘) (sym (+ℤ-neg_ℤ_cancel (pos a) (s j))) ne

      search_down : (k : ℕ) → RowAtMost m s (pos a +ℤ s j +ℤ pos k) row → (k : ℕ) × RowDegree m s (pos a +ℤ s j +ℤ pos k) row
      search_down zero h = (zero, (h, (j, b, subst (λ x. coefficient R (x -ℤ s j) (row j) ≢ 𝟘) (sym (+ℤ_idr (pos a +ℤ s j))) first)))
      search_down (suc k) h = elim (zeros_or_not R decides m (row_coefficient s (pos a +ℤ s j +ℤ pos (suc k)) row)) [
        | inl zeros ↦ search_down k ((row_at_most_suc_iff m s (pos a +ℤ s j +ℤ pos k) row).1
            (subst (λ D. RowAtMost m s D row × ((j : ℕ) → j < m → row_coefficient s D row j ≡ 𝟘)) (+ℤ-suc_ℤ (pos a +ℤ s j) (pos k)) (h, zeros)))
        | inr found ↦ (suc k, (h, found))
      ]

  -- A row of polynomials is zero or has a degree.
  pub row_zero_or_degree : Decides R → (m : ℕ) (s : ℕ → ℤ) (v : ℕ → Poly R)
      → ((j : ℕ) → j < m → (v j).series ≡ (Series R).𝟘) ⊎ ((D : ℤ) × RowDegree m s D (λ j. (v j).series))
  row_zero_or_degree decides m s v =
      elim (all_or_one (λ j. (v j).series ≡ (Series R).𝟘) (λ j. (a : ℕ) × Below R (suc a) (v j).series × ((v j).series a ≢ 𝟘)) (λ j. degree R decides (v j)) m) [
        | inl zeros ↦ inl zeros
        | inr (j, b, (a, below, ne)) ↦ let (k, h) = row_degree decides m s v j a b ne in inr (pos a +ℤ s j +ℤ pos k, h)
      ]

module _ (R : CommRing) (cancels : Cancels R) (m : ℕ) (r s : ℕ → ℤ) (P : Matrix (Series R))
    (bounded : EntriesAtMost R m m r s P) (nonsingular : det R m (leading R r s P) ≢ R.𝟘)
  where
    open R use {𝟘}

    descend_one : (w : Row (Series R)) (D : ℤ) → RowAtMost R m r (suc_ℤ D) w → RowAtMost R m s D (vmul (Series R) m w P) → RowAtMost R m r D w
    descend_one w D hw hp =
        (row_at_most_suc_iff R m r D w).1 (
          hw,
          kernel_zero R cancels m (leading R r s P) nonsingular (row_coefficient R r (suc_ℤ D) w)
              (λ j b. sym (vmul_degree R m m r s P bounded w (suc_ℤ D) hw j b).1 ∙ ((row_at_most_suc_iff R m s D (vmul (Series R) m w P)).0 hp).1 j b),
        )

    descend : (w : Row (Series R)) (D : ℤ) (k : ℕ) → RowAtMost R m r (D +ℤ pos k) w → RowAtMost R m s D (vmul (Series R) m w P) → RowAtMost R m r D w
    descend w D zero hw hp = subst (λ x. RowAtMost R m r x w) (+ℤ_idr D) hw
    descend w D (suc k) hw hp =
        descend w D k
        (descend_one w (D +ℤ pos k) (subst (λ x. RowAtMost R m r x w) (+ℤ-suc_ℤ D (pos k)) hw) (row_at_most_mono R m s D k (vmul (Series R) m w P) hp)) hp

    -- The predictable degree: where the leading matrix is nonsingular, a combination of the rows of P has degree at most D exactly if
    -- each multiplier w i has degree at most D − r i.
    pub row_at_most_iff : (w : ℕ → Poly R) (D : ℤ) → RowAtMost R m r D (λ i. (w i).series) ↔ RowAtMost R m s D (vmul (Series R) m (λ i. (w i).series) P)
    row_at_most_iff w D =
        (row_at_most_vmul R m m r s P bounded (λ i. (w i).series) D, λ h. let (k, hk) = row_bound R m r D w in descend (λ i. (w i).series) D k hk h)

    -- The degree of a combination of the rows of P is that of the row of its multipliers for the shifts r, the largest of the
    -- r i + deg (w i).
    pub predictable_degree : Decides R → (w : ℕ → Poly R) (D : ℤ)
        → RowDegree R m r D (λ i. (w i).series) ↔ RowDegree R m s D (vmul (Series R) m (λ i. (w i).series) P)
    predictable_degree decides w D =
        (λ t. ((row_at_most_iff w D).0 t.0, forth t.0 t.1), λ t. ((row_at_most_iff w D).1 t.0, back ((row_at_most_iff w D).1 t.0) t.1))
      where
        row : Row (Series R)
        row i = (w i).series

        product : Row (Series R)
        product = vmul (Series R) m row P

        L : Matrix R
        L = leading R r s P

        same : RowAtMost R m r D row → (j : ℕ) → j < m → row_coefficient R s D product j ≡ vmul R m (row_coefficient R r D row) L j
        same h j b = (vmul_degree R m m r s P bounded row D h j b).1

        forth : RowAtMost R m r D row → (i : ℕ) × (i < m) × (row_coefficient R r D row i ≢ 𝟘) → (j : ℕ) × (j < m) × (row_coefficient R s D product j ≢ 𝟘)
        forth h (i, b, ne) = elim (zeros_or_not R decides m (row_coefficient R s D product)) [
          | inl zeros ↦ absurd (ne (kernel_zero R cancels m L nonsingular (row_coefficient R r D row) (λ j hj. sym (same h j hj) ∙ zeros j hj) i b))
          | inr found ↦ found
        ]

        back : RowAtMost R m r D row → (j : ℕ) × (j < m) × (row_coefficient R s D product j ≢ 𝟘) → (i : ℕ) × (i < m) × (row_coefficient R r D row i ≢ 𝟘)
        back h (j, b, ne) = elim (zeros_or_not R decides m (row_coefficient R r D row)) [
          | inl zeros ↦ absurd (ne (same h j b ∙ vmul_zero R m (row_coefficient R r D row) L j zeros))
          | inr found ↦ found
        ]

    -- A combination in which a multiplier w i has a coefficient other than 0 at a has a degree, and it is at least a + r i.
    pub combination_degree : Decides R → (w : ℕ → Poly R) (i a : ℕ) → i < m → (w i).series a ≢ 𝟘
        → (k : ℕ) × RowDegree R m s (pos a +ℤ r i +ℤ pos k) (vmul (Series R) m (λ i. (w i).series) P)
    combination_degree decides w i a b ne =
        let (k, h) = row_degree R decides m r w i a b ne in
        (k, (predictable_degree decides w (pos a +ℤ r i +ℤ pos k)).0 h)
