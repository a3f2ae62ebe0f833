-- What a step of the maker chooses is what a step of the basis iteration may take.
--   Taking, none_taking, take_row_keeps        what holds while the rows are taken one after the other
--   combination_unique       "that one combination" is one
--   chosen_choice            all rows are taken, and what was chosen is a choice
use Rattle.std.specs.Prelude.{◌≡◌, ◌≢◌, Bool, ℤ}
use Rattle.std.proofs.Math.Path.{refl, sym, ap, subst}
use Rattle.std.proofs.Common.{◌∙◌, le_of_lt, arith}
use Rattle.std.proofs.Math.Bool.{true, false, true≢false}
use Rattle.std.proofs.lemmas.Bool.{false≢true}
use Rattle.std.specs.Prelude.{Option, None, Some}
use Prim.Native.Nat.{ℕ, zero, suc, ◌≤◌, ◌<◌}
use Rattle.std.proofs.Math.Decide.{ℕ_discrete}
use Rattle.algebra.specs.Ring as Ring
use Rattle.algebra.specs.Integer.{More}
use Rattle.algebra.specs.Prime.{Prime}
use Rattle.algebra.specs.Residue.{K, K_decides, K_inverse, K_inverts}
use Rattle.algebra.specs.Sum.{replace, replace_at, replace_other}
use Rattle.algebra.specs.Matrix.{Row, Matrix, SameRow, vmul, vmul_add}
use Rattle.algebra.specs.Clearing.{vmul_neg, row_of_others}
use Rattle.algebra.specs.Step.{Choice}
use Rattle.rules.specs.Maker.{next_row, find_constants, depends, Chosen, none_taken, take_row, take_rows}
use Rattle.laws.specs.BoolLaws.{false_iff}
use Rattle.laws.specs.SumLaws.{sum_below_constant}
use Rattle.laws.specs.FindLaws.{find_constants_found, find_constants_none, IsCombination, depends_iff, depends_local}
use Rattle.laws.specs.RowOrder.{Lowest, next_row_some, next_row_none, left, left_less, left_none}

module _ (p : ℕ) (prime : Prime p) (m n : ℕ) (active : ℕ → Bool) (degree : ℕ → ℤ) (A : Matrix (K p)) where
  open K p use {𝟘, ◌⊕◌, ◌⊗◌, ⊖◌}

  infixl 60 ◌⊕◌
  infixl 70 ◌⊗◌
  infix 80 ⊖◌
  -- What holds while the rows are taken: no row that was taken is above one that was not; and of the rows taken what makes a choice.
  pub record Taking (c : Chosen p) : Type 0 where
    pub lowest_first : (i k : ℕ) → i < m → k < m → c.taken i ≡ true → c.taken k ≡ false → More (degree i) (degree k)
    pub pivots_taken : (i : ℕ) → c.pivot i ≡ true → c.taken i ≡ true
    pub others_wait : (i q : ℕ) → c.taken i ≡ false → c.multipliers i q ≡ 𝟘
    pub pivots_stay : (i q : ℕ) → c.pivot i ≡ true → c.multipliers i q ≡ 𝟘
    pub pivots_alone : (i q : ℕ) → q < m → c.pivot q ≡ false → c.multipliers i q ≡ 𝟘
    pub none_higher : (i q : ℕ) → i < m → q < m → c.multipliers i q ≢ 𝟘 → More (degree q) (degree i)
    pub clean : (i j : ℕ) → j < n → c.taken i ≡ true → c.pivot i ≡ false → active j ≡ true → A i j ⊕ ⊖ vmul (K p) m (c.multipliers i) A j ≡ 𝟘
    pub independent : (u : Row (K p)) → ((i : ℕ) → i < m → c.pivot i ≡ false → u i ≡ 𝟘)
        → ((j : ℕ) → j < n → active j ≡ true → vmul (K p) m u A j ≡ 𝟘) → (i : ℕ) → i < m → u i ≡ 𝟘

  -- It holds before any row is taken.
  pub none_taking : Taking (none_taken p)
  none_taking = record {
    lowest_first = λ i k hi hk t z. absurd (false≢true t);
    pivots_taken = λ i t. absurd (false≢true t);
    others_wait = λ i q z. refl;
    pivots_stay = λ i q t. refl;
    pivots_alone = λ i q hq z. refl;
    none_higher = λ i q hi hq ne. absurd (ne refl);
    clean = λ i j hj t z a. absurd (false≢true t);
    independent = λ u others combined i hi. others i hi refl;
  }

  module _ (c : Chosen p) (h : Taking c) (i : ℕ) (low : Lowest degree c.taken m i) where
    -- Row i is taken: it stands among the rows taken, and no other comes or goes.
    now : ℕ → Bool
    now = replace i true c.taken

    now_lowest_first : (a k : ℕ) → a < m → k < m → now a ≡ true → now k ≡ false → More (degree a) (degree k)
    unfolding now
    now_lowest_first a k ha hk t z = elim (ℕ_discrete k i) [
      | yes e ↦ absurd (true≢false (sym (ap now e ∙ replace_at i true c.taken) ∙ z))
      | no nk ↦
          let zk : c.taken k ≡ false = sym (replace_other i true c.taken k nk) ∙ z in
          elim (ℕ_discrete a i) [
            | yes e ↦ subst (λ a. More (degree a) (degree k)) (sym e) (low.2 k hk zk)
            | no na ↦ h.lowest_first a k ha hk (sym (replace_other i true c.taken a na) ∙ t) zk
          ]
    ]

    waiting : (a : ℕ) → now a ≡ false → (a ≢ i) × (c.taken a ≡ false)
    unfolding now
    waiting a z =
        let other : a ≢ i = λ e. true≢false (sym (ap now e ∙ replace_at i true c.taken) ∙ z) in
        (other, sym (replace_other i true c.taken a other) ∙ z)

    -- A row whose residual depends on those of the pivots.
    cleared_row : (u : Row (K p)) → IsCombination p m n active A c.pivot i u
        → Taking (record { taken = replace i true c.taken; pivot = c.pivot; multipliers = replace i u c.multipliers })
    unfolding now
    cleared_row u (others, columns) = record {
      lowest_first = now_lowest_first;
      pivots_taken = λ a t. by_place a (λ e. ap now e ∙ replace_at i true c.taken) (λ ne. replace_other i true c.taken a ne ∙ h.pivots_taken a t);
      others_wait = λ a q z. let (other, za) = waiting a z in ap (λ r. r q) (replace_other i u c.multipliers a other) ∙ h.others_wait a q za;
      pivots_stay = λ a q t. by_place a
          (λ e. absurd (true≢false (sym (ap c.taken (sym e) ∙ h.pivots_taken a t) ∙ low.1)))
          (λ ne. ap (λ r. r q) (replace_other i u c.multipliers a ne) ∙ h.pivots_stay a q t);
      pivots_alone = λ a q hq z. row a (λ r. r q ≡ 𝟘) (λ e. others q hq z) (λ ne. h.pivots_alone a q hq z);
      none_higher = λ a q ha hq. row a (λ r. r q ≢ 𝟘 → More (degree q) (degree a))
          (λ e ne. subst (λ a. More (degree q) (degree a)) (sym e) (lower q hq (c.pivot q) refl ne)) (λ ne. h.none_higher a q ha hq);
      clean = λ a j hj t z act. row a (λ r. A a j ⊕ ⊖ vmul (K p) m r A j ≡ 𝟘)
          (λ e. subst (λ a. A a j ⊕ ⊖ vmul (K p) m u A j ≡ 𝟘) (sym e) (columns j hj act))
          (λ ne. h.clean a j hj (sym (replace_other i true c.taken a ne) ∙ t) z act);
      independent = h.independent;
    }
      where
        by_place : {Q : Type 0} (a : ℕ) → (a ≡ i → Q) → (a ≢ i → Q) → Q
        by_place a f g = elim (ℕ_discrete a i) [ yes e ↦ f e | no ne ↦ g ne ]

        row : (a : ℕ) (Q : Row (K p) → Type 0) → (a ≡ i → Q u) → (a ≢ i → Q (c.multipliers a)) → Q (replace i u c.multipliers a)
        row a Q f g = elim (ℕ_discrete a i) [
          | yes e ↦ subst Q (sym (ap (replace i u c.multipliers) e ∙ replace_at i u c.multipliers)) (f e)
          | no ne ↦ subst Q (sym (replace_other i u c.multipliers a ne)) (g ne)
        ]

        lower : (q : ℕ) → q < m → (t : Bool) → c.pivot q ≡ t → u q ≢ 𝟘 → More (degree q) (degree i)
        lower q hq true t ne = h.lowest_first q i hq low.0 (h.pivots_taken q t) low.1
        lower q hq false t ne = absurd (ne (others q hq t))

    -- Any other row is a pivot: were its residual and those of the pivots dependent, it would be a combination of them.
    pivot_row : ((u : Row (K p)) → ¬ IsCombination p m n active A c.pivot i u)
        → Taking (record { taken = replace i true c.taken; pivot = replace i true c.pivot; multipliers = c.multipliers })
    unfolding now
    pivot_row none_combines = record {
      lowest_first = now_lowest_first;
      pivots_taken = λ a t. by_place a (λ e. ap now e ∙ replace_at i true c.taken)
          (λ ne. replace_other i true c.taken a ne ∙ h.pivots_taken a (sym (replace_other i true c.pivot a ne) ∙ t));
      others_wait = λ a q z. h.others_wait a q (waiting a z).1;
      pivots_stay = λ a q t. by_place a (λ e. h.others_wait a q (ap c.taken e ∙ low.1))
          (λ ne. h.pivots_stay a q (sym (replace_other i true c.pivot a ne) ∙ t));
      pivots_alone = λ a q hq z. h.pivots_alone a q hq (before q z).1;
      none_higher = h.none_higher;
      clean = λ a j hj t z. let (other, za) = before a z in h.clean a j hj (sym (replace_other i true c.taken a other) ∙ t) za;
      independent = λ u others combined. elim (K_decides p (u i)) [
        | yes z ↦ h.independent u (λ a ha za. by_place a (λ e. ap u e ∙ z) (λ ne. others a ha (replace_other i true c.pivot a ne ∙ za))) combined
        | no ne ↦ absurd (none_combines (multiple u) (multiple_combines u others combined ne))
      ];
    }
      where
        by_place : {Q : Type 0} (a : ℕ) → (a ≡ i → Q) → (a ≢ i → Q) → Q
        by_place a f g = elim (ℕ_discrete a i) [ yes e ↦ f e | no ne ↦ g ne ]

        before : (a : ℕ) → replace i true c.pivot a ≡ false → (a ≢ i) × (c.pivot a ≡ false)
        before a z =
            let other : a ≢ i = λ e. true≢false (sym (ap (replace i true c.pivot) e ∙ replace_at i true c.pivot) ∙ z) in
            (other, sym (replace_other i true c.pivot a other) ∙ z)

        -- The constants of the other rows, over that of row i, with the other sign.
        multiple : Row (K p) → Row (K p)
        multiple u q = ⊖ K_inverse p (u i) ⊗ replace i 𝟘 u q

        multiple_combines : (u : Row (K p)) → ((a : ℕ) → a < m → replace i true c.pivot a ≡ false → u a ≡ 𝟘)
            → ((j : ℕ) → j < n → active j ≡ true → vmul (K p) m u A j ≡ 𝟘) → u i ≢ 𝟘 → IsCombination p m n active A c.pivot i (multiple u)
        multiple_combines u others combined ne = (
          λ q hq z.
              ap (λ x. ⊖ K_inverse p (u i) ⊗ x) (by_place q (λ e. ap (replace i 𝟘 u) e ∙ replace_at i 𝟘 u)
              (λ nq. replace_other i 𝟘 u q nq ∙ others q hq (replace_other i true c.pivot q nq ∙ z)))
              ∙ Ring.mul_zero (K p) (⊖ K_inverse p (u i)),
          λ j hj a. row_of_others (K p) (K_inverse p) (K_inverts p prime) m i low.0 u A j ne (combined j hj a),
        )

  -- Taking a lowest row keeps it.
  pub take_row_keeps : (c : Chosen p) → Taking c → (i : ℕ) → Lowest degree c.taken m i → Taking (take_row p m n active A i c)
  unfolding take_row
  take_row_keeps c h i low = by (find_constants p m (depends p m n active A c.pivot i)) refl
    where
      by : (o : Option (Row (K p))) → find_constants p m (depends p m n active A c.pivot i) ≡ o → Taking (elim o [
        | Some u ↦ record { taken = replace i true c.taken; pivot = c.pivot; multipliers = replace i u c.multipliers }
        | None ↦ record { taken = replace i true c.taken; pivot = replace i true c.pivot; multipliers = c.multipliers }
      ])
      by (Some u) e = cleared_row c h i low u ((depends_iff p m n active A c.pivot i u).0 (find_constants_found p m _ u e))
      by None e =
          pivot_row c h i low (λ u combines. (false_iff _).0
          (find_constants_none p (le_of_lt prime.two_le) m _ (depends_local p m n active A c.pivot i) e u)
          ((depends_iff p m n active A c.pivot i u).1 combines))

  take_row_taken : (c : Chosen p) (i : ℕ) → (take_row p m n active A i c).taken ≡ replace i true c.taken
  unfolding take_row
  take_row_taken c i = by (find_constants p m (depends p m n active A c.pivot i))
    where
      by : (o : Option (Row (K p))) → (elim o as (λ x. Chosen p) [
        | Some u ↦ record { taken = replace i true c.taken; pivot = c.pivot; multipliers = replace i u c.multipliers }
        | None ↦ record { taken = replace i true c.taken; pivot = replace i true c.pivot; multipliers = c.multipliers }
      ]).taken ≡ replace i true c.taken
      by (Some u) = refl
      by None = refl

  -- "that one combination": there is no other, since the residuals of the pivots are independent.
  pub combination_unique : (c : Chosen p) → Taking c → (i : ℕ) (u v : Row (K p)) → IsCombination p m n active A c.pivot i u
      → IsCombination p m n active A c.pivot i v → SameRow (K p) m u v
  combination_unique c h i u v (others, columns) (others', columns') q hq =
      Ring.eq_of_sub (K p) (u q) (v q) (h.independent (λ q. u q ⊕ ⊖ v q)
      (λ a ha z. Ring.sub_of_eq (K p) (u a) (v a) (others a ha z ∙ sym (others' a ha z)))
      (λ j hj a.
      vmul_add (K p) m u (λ q. ⊖ v q) A j
      ∙ ap (λ x. vmul (K p) m u A j ⊕ x) (vmul_neg (K p) m v A j)
      ∙ Ring.sub_of_eq (K p) (vmul (K p) m u A j) (vmul (K p) m v A j)
      (sym (Ring.eq_of_sub (K p) (A i j) (vmul (K p) m u A j) (columns j hj a)) ∙ Ring.eq_of_sub (K p) (A i j) (vmul (K p) m v A j) (columns' j hj a))) q hq)

  -- When as many rows are taken as are left, all are.
  take_rows_keeps : (count : ℕ) (c : Chosen p) → Taking c → left m c.taken ≤ count
      → Taking (take_rows p m n active degree A count c) × ((i : ℕ) → i < m → (take_rows p m n active degree A count c).taken i ≡ true)
  unfolding take_rows
  take_rows_keeps zero c h few = (h, left_none m c.taken (omega arith))
  take_rows_keeps (suc count) c h few = by (next_row m degree c.taken) refl (λ i low.
      take_rows_keeps count (take_row p m n active A i c) (take_row_keeps c h i low)
      (subst (λ t. left m t ≤ count) (sym (take_row_taken c i)) (omega (arith, left_less m c.taken i low.0 low.1))))
    where
      Good : Chosen p → Type 0
      Good c = Taking c × ((i : ℕ) → i < m → c.taken i ≡ true)

      by : (o : Option ℕ) → next_row m degree c.taken ≡ o
          → ((i : ℕ) → Lowest degree c.taken m i → Good (take_rows p m n active degree A count (take_row p m n active A i c)))
          → Good (elim o [ None ↦ c | Some i ↦ take_rows p m n active degree A count (take_row p m n active A i c) ])
      by None e next = (h, next_row_none degree c.taken m e)
      by (Some i) e next = next i (next_row_some degree c.taken m i e)

  -- What was chosen when all rows were taken is what a step may take.
  pub chosen_choice : Choice (K p) m n active degree A (take_rows p m n active degree A m (none_taken p)).pivot
      (take_rows p m n active degree A m (none_taken p)).multipliers
  unfolding left
  chosen_choice =
      let (h, all) = take_rows_keeps m (none_taken p) none_taking (omega (arith, sum_below_constant m (λ i. 1) 1 (λ i b. refl))) in
      record {
        clears = record { pivots_stay = λ i q hi hq t. h.pivots_stay i q t; pivots_alone = λ i q hi hq z. h.pivots_alone i q hq z };
        none_higher = h.none_higher;
        clean = λ i j hi hj z a. h.clean i j hj (all i hi) z a;
        independent = h.independent;
      }
