-- How elimination finds "that one combination". Each row that waits is kept twice: as the constants T by which the rows of A are combined
-- to it, and as the combination B itself, which is 0 in the columns of the pivots so far.
--   Waiting, Reduced         what holds of a row that waits, and of all
--   reduced_start            it holds before any row is taken
--   combination_found        where B is 0 in a row, T gives the combination of pivots that the row is
--   combination_is           there is no other, and only then there is one
--   reduced_cleared, reduced_pivot       the state after a row was taken
use Rattle.std.specs.Prelude.{◌≡◌, refl, ◌≢◌, Bool, true, false, [], ◌∷◌, ℕ, ◌≤◌, ◌<◌}
use Rattle.std.proofs.Math.Path.{sym}
use Rattle.std.proofs.Common.{ap, ap₂, subst, ◌∙◌, true≢false, lt_of_lt_of_le}
use Rattle.std.proofs.lemmas.Bool.{false≢true}
use Rattle.std.proofs.Math.Decide.{ℕ_discrete}
use Rattle.algebra.specs.Ring as Ring
use Rattle.algebra.specs.Solver.{v0, v1, v2, ◌⊞◌, ◌⊠◌, ⊟◌, ring}
use Rattle.algebra.specs.Residue.{K}
use Rattle.algebra.specs.Sum.{replace, replace_at, replace_other}
use Rattle.algebra.specs.Matrix.{Row, Matrix, unit, unit_diagonal, unit_off, vmul, vmul_cong, vmul_add, vmul_scale, vmul_zero, unit_vmul}
use Rattle.algebra.specs.Clearing.{vmul_neg, less}
use Rattle.laws.specs.FindLaws.{IsCombination}

-- Every column counts.
abbrev pub all : ℕ → Bool
all j = true

module _ (p : ℕ) (m n : ℕ) (A : Matrix (K p)) where
  open K p use {𝟘, 𝟙, ◌⊕◌, ◌⊗◌, ⊖◌, add_zero, add_neg, mul_one}

  infixl 60 ◌⊕◌
  infixl 70 ◌⊗◌
  infix 80 ⊖◌
  -- Row k waits: it is 1 of itself and some of the pivots, and 0 in the columns of the pivots.
  pub record Waiting (pivot : ℕ → Bool) (column : ℕ → ℕ) (B T : Matrix (K p)) (k : ℕ) : Type 0 where
    pub own : T k k ≡ 𝟙
    pub alone : (q : ℕ) → q < n → pivot q ≡ false → q ≢ k → T k q ≡ 𝟘
    pub is : (j : ℕ) → j < n → B k j ≡ vmul (K p) m (T k) A j
    pub gone : (s : ℕ) → pivot s ≡ true → B k (column s) ≡ 𝟘

  pub record Reduced (taken pivot : ℕ → Bool) (column : ℕ → ℕ) (B T : Matrix (K p)) : Type 0 where
    pub pivots_taken : (q : ℕ) → pivot q ≡ true → taken q ≡ true
    pub columns : (s : ℕ) → pivot s ≡ true → column s < n
    pub waiting : (k : ℕ) → k < m → taken k ≡ false → Waiting pivot column B T k
    -- A combination of pivots that is 0 in their columns is one of no pivots.
    pub sharp : (u : Row (K p)) → ((q : ℕ) → q < m → pivot q ≡ false → u q ≡ 𝟘)
        → ((s : ℕ) → pivot s ≡ true → vmul (K p) m u A (column s) ≡ 𝟘) → (q : ℕ) → q < m → u q ≡ 𝟘

  -- Before any row is taken.
  pub reduced_start : (column : ℕ → ℕ) (B T : Matrix (K p)) → ((k j : ℕ) → k < m → j < n → B k j ≡ A k j)
      → ((k q : ℕ) → k < m → q < n → T k q ≡ unit (K p) k q) → m ≤ n → Reduced (λ i. false) (λ i. false) column B T
  reduced_start column B T same identity room = record {
    pivots_taken = λ q e. e;
    columns = λ s e. absurd (false≢true e);
    waiting = λ k hk e. record {
      own = identity k k hk (lt_of_lt_of_le hk room) ∙ unit_diagonal (K p) k;
      alone = λ q hq e ne. identity k q hk hq ∙ unit_off (K p) k q (λ z. ne (sym z));
      is = λ j hj.
          same k j hk hj
          ∙ sym (unit_vmul (K p) m k A hk j)
          ∙ sym (vmul_cong (K p) m (T k) (unit (K p) k) A A j (λ q hq. identity k q hk (lt_of_lt_of_le hq room)) (λ q hq. refl));
      gone = λ s e. absurd (false≢true e);
    };
    sharp = λ u others zero q hq. others q hq refl;
  }

  module _ (taken pivot : ℕ → Bool) (column : ℕ → ℕ) (B T : Matrix (K p)) (h : Reduced taken pivot column B T) (room : m ≤ n)
      (i : ℕ) (hi : i < m) (waits : taken i ≡ false) where
    row : Waiting pivot column B T i
    row = h.waiting i hi waits

    -- A row that waits is no pivot.
    no_pivot : (k : ℕ) → taken k ≡ false → pivot k ≡ false
    no_pivot k e = by (pivot k) refl
      where
        by : (t : Bool) → pivot k ≡ t → pivot k ≡ false
        by true z = absurd (true≢false (sym (h.pivots_taken k z) ∙ e))
        by false z = z

    -- Where B is 0, the row is a combination of pivots …
    pub combination_found : ((j : ℕ) → j < n → B i j ≡ 𝟘) → IsCombination p m n all A pivot i (λ q. unit (K p) i q ⊕ ⊖ T i q)
    combination_found zero = (
      λ q hq e. elim (ℕ_discrete q i) [
        | yes z ↦
            ap (λ q. unit (K p) i q ⊕ ⊖ T i q) z
            ∙ ap₂ (λ x y. x ⊕ ⊖ y) (unit_diagonal (K p) i) row.own
            ∙ add_neg 𝟙
        | no ne ↦
            ap₂ (λ x y. x ⊕ ⊖ y) (unit_off (K p) i q (λ z. ne (sym z))) (row.alone q (lt_of_lt_of_le hq room) e ne)
            ∙ add_neg 𝟘
      ],
      λ j hj a.
          ap (λ x. A i j ⊕ ⊖ x)
          (vmul_add (K p) m (unit (K p) i) (λ q. ⊖ T i q) A j
          ∙ ap₂ ◌⊕◌ (unit_vmul (K p) m i A hi j) (vmul_neg (K p) m (T i) A j ∙ ap (λ x. ⊖ x) (sym (row.is j hj) ∙ zero j hj)))
          ∙ ring (K p) (A i j ∷ 𝟘 ∷ []) (v0 ⊞ ⊟ (v0 ⊞ ⊟ v1)) v1 refl,
    )

    -- … and of no others: where it is one, T says by which constants, and B is 0.
    pub combination_is : (u : Row (K p)) → IsCombination p m n all A pivot i u
        → ((q : ℕ) → q < m → T i q ≡ less (K p) (λ k. u) i q) × ((j : ℕ) → j < n → B i j ≡ 𝟘)
    unfolding less
    combination_is u (others, equal) = (
      λ q hq. Ring.eq_of_sub (K p) (T i q) (unit (K p) i q ⊕ ⊖ u q) (none q hq),
      λ j hj. sym (combined j hj) ∙ vmul_zero (K p) m difference A j none,
    )
      where
        difference : Row (K p)
        difference q = T i q ⊕ ⊖ (unit (K p) i q ⊕ ⊖ u q)

        combined : (j : ℕ) → j < n → vmul (K p) m difference A j ≡ B i j
        combined j hj =
            vmul_add (K p) m (T i) (λ q. ⊖ (unit (K p) i q ⊕ ⊖ u q)) A j
            ∙ ap₂ ◌⊕◌ (sym (row.is j hj))
            (vmul_neg (K p) m (λ q. unit (K p) i q ⊕ ⊖ u q) A j
            ∙ ap (λ x. ⊖ x)
            (vmul_add (K p) m (unit (K p) i) (λ q. ⊖ u q) A j
            ∙ ap₂ ◌⊕◌ (unit_vmul (K p) m i A hi j) (vmul_neg (K p) m u A j)
            ∙ equal j hj refl)
            ∙ Ring.neg_zero (K p))
            ∙ add_zero (B i j)

        pivots_alone : (q : ℕ) → q < m → pivot q ≡ false → difference q ≡ 𝟘
        pivots_alone q hq e = elim (ℕ_discrete q i) [
          | yes z ↦
              ap difference z
              ∙ ap₂ (λ x y. x ⊕ ⊖ (y ⊕ ⊖ u i)) row.own (unit_diagonal (K p) i)
              ∙ ap (λ x. 𝟙 ⊕ ⊖ (𝟙 ⊕ ⊖ x)) (others i hi (no_pivot i waits))
              ∙ ring (K p) (𝟙 ∷ 𝟘 ∷ []) (v0 ⊞ ⊟ (v0 ⊞ ⊟ v1)) v1 refl
          | no ne ↦
              ap₂ (λ x y. x ⊕ ⊖ (y ⊕ ⊖ u q)) (row.alone q (lt_of_lt_of_le hq room) e ne) (unit_off (K p) i q (λ z. ne (sym z)))
              ∙ ap (λ x. 𝟘 ⊕ ⊖ (𝟘 ⊕ ⊖ x)) (others q hq e)
              ∙ ring (K p) (𝟘 ∷ []) (v0 ⊞ ⊟ (v0 ⊞ ⊟ v0)) v0 refl
        ]

        none : (q : ℕ) → q < m → difference q ≡ 𝟘
        none = h.sharp difference pivots_alone (λ s e. combined (column s) (h.columns s e) ∙ row.gone s e)

    -- A row that waits still when row i was taken is another, and waited before.
    still : (k : ℕ) → replace i true taken k ≡ false → (k ≢ i) × (taken k ≡ false)
    still k e =
        let other : k ≢ i = λ z. true≢false (sym (ap (replace i true taken) z ∙ replace_at i true taken) ∙ e) in
        (other, sym (replace_other i true taken k other) ∙ e)

    taken_now : (q : ℕ) → taken q ≡ true → replace i true taken q ≡ true
    taken_now q e = elim (ℕ_discrete q i) [
      | yes z ↦ ap (replace i true taken) z ∙ replace_at i true taken
      | no ne ↦ replace_other i true taken q ne ∙ e
    ]

    -- A row that depends on the pivots is taken.
    pub reduced_cleared : Reduced (replace i true taken) pivot column B T
    reduced_cleared = record {
      pivots_taken = λ q e. taken_now q (h.pivots_taken q e);
      columns = h.columns;
      waiting = λ k hk e. h.waiting k hk (still k e).1;
      sharp = h.sharp;
    }

    -- A pivot is taken: v inverts its entry in column c, and a multiple of it is taken from each row that waits still.
    module _ (c : ℕ) (hc : c < n) (v : (K p).C) (inverts : B i c ⊗ v ≡ 𝟙) (nonzero : B i c ≢ 𝟘) (cancels : Ring.Cancels (K p)) (B' T' : Matrix (K p))
        (B_less : (k j : ℕ) → k < m → j < n → replace i true taken k ≡ false → B' k j ≡ B k j ⊕ ⊖ (B k c ⊗ v ⊗ B i j))
        (T_less : (k q : ℕ) → k < m → q < n → replace i true taken k ≡ false → T' k q ≡ T k q ⊕ ⊖ (B k c ⊗ v ⊗ T i q)) where
      earlier : (s : ℕ) → replace i true pivot s ≡ true → s ≢ i → pivot s ≡ true
      earlier s e ne = sym (replace_other i true pivot s ne) ∙ e

      before : (q : ℕ) → replace i true pivot q ≡ false → (q ≢ i) × (pivot q ≡ false)
      before q e =
          let other : q ≢ i = λ z. true≢false (sym (ap (replace i true pivot) z ∙ replace_at i true pivot) ∙ e) in
          (other, sym (replace_other i true pivot q other) ∙ e)

      -- What holds at the columns of the pivots before, and at c, holds at the columns of all.
      at_column : (Q : ℕ → Type 0) → Q c → (s : ℕ) → replace i true pivot s ≡ true → (pivot s ≡ true → Q (column s)) → Q (replace i c column s)
      at_column Q here s e there = elim (ℕ_discrete s i) [
        | yes z ↦ subst Q (sym (ap (replace i c column) z ∙ replace_at i c column)) here
        | no ne ↦ subst Q (sym (replace_other i c column s ne)) (there (earlier s e ne))
      ]

      still_waits : (k : ℕ) → k < m → replace i true taken k ≡ false → Waiting (replace i true pivot) (replace i c column) B' T' k
      still_waits k hk e =
          let (ne, wk) = still k e in
          let w = h.waiting k hk wk in
          record {
            own =
                T_less k k hk (lt_of_lt_of_le hk room) e
                ∙ ap₂ (λ x y. x ⊕ ⊖ (B k c ⊗ v ⊗ y)) w.own (row.alone k (lt_of_lt_of_le hk room) (no_pivot k wk) ne)
                ∙ ap (λ x. 𝟙 ⊕ ⊖ x) (Ring.mul_zero (K p) (B k c ⊗ v))
                ∙ ap (λ x. 𝟙 ⊕ x) (Ring.neg_zero (K p))
                ∙ add_zero 𝟙;
            alone = λ q hq z nk.
                let (ni, zq) = before q z in
                T_less k q hk hq e
                ∙ ap₂ (λ x y. x ⊕ ⊖ (B k c ⊗ v ⊗ y)) (w.alone q hq zq nk) (row.alone q hq zq ni)
                ∙ gone_less (B k c ⊗ v);
            is = λ j hj.
                B_less k j hk hj e
                ∙ ap₂ (λ x y. x ⊕ ⊖ (B k c ⊗ v ⊗ y)) (w.is j hj) (row.is j hj)
                ∙ sym (combined_less k j hk e);
            gone = λ s z. at_column (λ j. B' k j ≡ 𝟘)
                (B_less k c hk hc e
                ∙ ring (K p) (B k c ∷ v ∷ B i c ∷ []) (v0 ⊞ ⊟ (v0 ⊠ v1 ⊠ v2)) (v0 ⊞ ⊟ (v0 ⊠ (v2 ⊠ v1))) refl
                ∙ ap (λ x. B k c ⊕ ⊖ (B k c ⊗ x)) inverts
                ∙ ap (λ x. B k c ⊕ ⊖ x) (mul_one (B k c))
                ∙ add_neg (B k c))
                s z (λ t. B_less k (column s) hk (h.columns s t) e ∙ ap₂ (λ x y. x ⊕ ⊖ (B k c ⊗ v ⊗ y)) (w.gone s t) (row.gone s t) ∙ gone_less (B k c ⊗ v));
          }
        where
          gone_less : (x : (K p).C) → 𝟘 ⊕ ⊖ (x ⊗ 𝟘) ≡ 𝟘
          gone_less x = ap (λ y. 𝟘 ⊕ ⊖ y) (Ring.mul_zero (K p) x) ∙ add_neg 𝟘

          combined_less : (k j : ℕ) → k < m → replace i true taken k ≡ false
              → vmul (K p) m (T' k) A j ≡ vmul (K p) m (T k) A j ⊕ ⊖ (B k c ⊗ v ⊗ vmul (K p) m (T i) A j)
          combined_less k j hk e =
              vmul_cong (K p) m (T' k) (λ q. T k q ⊕ ⊖ (B k c ⊗ v ⊗ T i q)) A A j (λ q hq. T_less k q hk (lt_of_lt_of_le hq room) e) (λ q hq. refl)
              ∙ vmul_add (K p) m (T k) (λ q. ⊖ (B k c ⊗ v ⊗ T i q)) A j
              ∙ ap (λ x. vmul (K p) m (T k) A j ⊕ x) (vmul_neg (K p) m (λ q. B k c ⊗ v ⊗ T i q) A j ∙ ap (λ x. ⊖ x) (vmul_scale (K p) m (B k c ⊗ v) (T i) A j))

      -- A combination of pivots, row i among them, that is 0 in their columns.
      sharp_now : (u : Row (K p)) → ((q : ℕ) → q < m → replace i true pivot q ≡ false → u q ≡ 𝟘)
          → ((s : ℕ) → replace i true pivot s ≡ true → vmul (K p) m u A (replace i c column s) ≡ 𝟘) → (q : ℕ) → q < m → u q ≡ 𝟘
      sharp_now u others zero q hq = multiple q hq ∙ ap (λ x. x ⊗ T i q) none_of_i ∙ Ring.zero_mul (K p) (T i q)
        where
          rest : Row (K p)
          rest q = u q ⊕ ⊖ (u i ⊗ T i q)

          rest_combined : (j : ℕ) → j < n → vmul (K p) m rest A j ≡ vmul (K p) m u A j ⊕ ⊖ (u i ⊗ B i j)
          rest_combined j hj =
              vmul_add (K p) m u (λ q. ⊖ (u i ⊗ T i q)) A j
              ∙ ap (λ x. vmul (K p) m u A j ⊕ x)
              (vmul_neg (K p) m (λ q. u i ⊗ T i q) A j ∙ ap (λ x. ⊖ x) (vmul_scale (K p) m (u i) (T i) A j ∙ ap (λ x. u i ⊗ x) (sym (row.is j hj))))

          alone : (q : ℕ) → q < m → pivot q ≡ false → rest q ≡ 𝟘
          alone q hq e = elim (ℕ_discrete q i) [
            | yes z ↦ ap rest z ∙ ap (λ x. u i ⊕ ⊖ (u i ⊗ x)) row.own ∙ ap (λ x. u i ⊕ ⊖ x) (mul_one (u i)) ∙ add_neg (u i)
            | no ne ↦
                ap₂ (λ x y. x ⊕ ⊖ (u i ⊗ y)) (others q hq (replace_other i true pivot q ne ∙ e)) (row.alone q (lt_of_lt_of_le hq room) e ne)
                ∙ ap (λ y. 𝟘 ⊕ ⊖ y) (Ring.mul_zero (K p) (u i))
                ∙ add_neg 𝟘
          ]

          pivot_now : (s : ℕ) → pivot s ≡ true → (s ≢ i) × (replace i true pivot s ≡ true)
          pivot_now s e =
              let ne : s ≢ i = λ z. true≢false (sym (ap pivot (sym z) ∙ e) ∙ no_pivot i waits) in
              (ne, replace_other i true pivot s ne ∙ e)

          none : (q : ℕ) → q < m → rest q ≡ 𝟘
          none = h.sharp rest alone (λ s e.
              let (ne, z) = pivot_now s e in
              rest_combined (column s) (h.columns s e)
              ∙ ap₂ (λ x y. x ⊕ ⊖ (u i ⊗ y)) (ap (vmul (K p) m u A) (sym (replace_other i c column s ne)) ∙ zero s z) (row.gone s e)
              ∙ ap (λ y. 𝟘 ⊕ ⊖ y) (Ring.mul_zero (K p) (u i))
              ∙ add_neg 𝟘)

          multiple : (q : ℕ) → q < m → u q ≡ u i ⊗ T i q
          multiple q hq = Ring.eq_of_sub (K p) (u q) (u i ⊗ T i q) (none q hq)

          product_zero : u i ⊗ B i c ≡ 𝟘
          product_zero =
              sym (Ring.eq_of_sub (K p) (vmul (K p) m u A c) (u i ⊗ B i c) (sym (rest_combined c hc) ∙ vmul_zero (K p) m rest A c none))
              ∙ ap (vmul (K p) m u A) (sym (replace_at i c column))
              ∙ zero i (replace_at i true pivot)

          none_of_i : u i ≡ 𝟘
          none_of_i = cancels (B i c) (u i) nonzero (Ring.CommRing.mul_comm (K p) (B i c) (u i) ∙ product_zero)

      pub reduced_pivot : Reduced (replace i true taken) (replace i true pivot) (replace i c column) B' T'
      reduced_pivot = record {
        pivots_taken = λ q e. elim (ℕ_discrete q i) [
          | yes z ↦ ap (replace i true taken) z ∙ replace_at i true taken
          | no ne ↦ taken_now q (h.pivots_taken q (earlier q e ne))
        ];
        columns = λ s e. at_column (λ j. j < n) hc s e (h.columns s);
        waiting = still_waits;
        sharp = sharp_now;
      }
