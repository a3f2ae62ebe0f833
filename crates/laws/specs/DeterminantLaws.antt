-- What condition 2 says: the determinant has no coefficient from the bound on, so that the test finds out whether it is a nonzero
-- constant times a power of X, and for a reduced P the exponent is Δ.
--   determinant_below        nothing lies beyond the bound
--   count_one_iff, monomial_determinant_iff      condition 2
--   degree_sum_exponent      Δ is the exponent
use Rattle.std.specs.Prelude.{◌≡◌, ◌≢◌, ◌↔◌, true, List, ◌+ℤ◌, ◌-ℤ◌, length}
use Rattle.std.proofs.Math.Path.{refl, ap, subst}
use Rattle.std.proofs.Common.{sym, ◌∙◌, le_of_suc-le-suc, not-suc-le-zero, le_refl, le_trans, suc-ne-zero, lt_of_not-le}
use Rattle.std.proofs.Math.Logic.Iff
use Rattle.std.proofs.Math.Bool.{cond}
use Rattle.std.specs.Prelude.{Some}
use Prim.Native.Nat.{ℕ, zero, suc, pred, ◌+◌, ◌≤◌, ◌<◌, zero-le, suc-le-suc}
use Rattle.std.proofs.Math.Nat.{zero-lt-suc, le-max_left, le-max_right, zero-add, suc_inj}
use native.Mathlib.Omega.{arith}
use Rattle.std.proofs.Math.Decide.{dec_le, ℕ_discrete}
use Rattle.std.proofs.Math.IntN.{pos, +ℤ_idr}
use Rattle.algebra.specs.Integer.{Integers}
use Rattle.algebra.specs.Residue.{K, Residue, K_decides}
use Rattle.algebra.specs.Sum.{sum, sum_zeros}
use Rattle.algebra.specs.Polynomial.{Below}
use Rattle.algebra.specs.Degree.{AtMost}
use Rattle.algebra.proofs.Degree.{det_degree}
use Rattle.algebra.proofs.PolyMatrix.{entries}
use Rattle.algebra.specs.OrderBasis.{Monomial}
use Rattle.rules.specs.Claim.{Problem}
use Rattle.rules.specs.Matrices.{at, matrix_P}
use Rattle.rules.specs.Conditions.{is_zero, reduced, determinant, sum_below, max_below, determinant_bound, count_nonzero, monomial_determinant}
use Rattle.rules.specs.Conditions.{degree_sum}
use Rattle.laws.specs.BoolLaws.{false_iff, eqb_iff}
use Rattle.laws.specs.SearchLaws.{is_zero_iff}
use Rattle.laws.specs.ReducedLaws.{degree_sum_natural}

-- None of the f i below n is above the largest.
pub le_max_below : (n : ℕ) (f : ℕ → ℕ) (j : ℕ) → j < n → f j ≤ max_below n f
unfolding max_below
le_max_below zero f j h = absurd (not-suc-le-zero h)
le_max_below (suc n) f zero h = le-max_left (f zero) (max_below n (λ i. f (suc i)))
le_max_below (suc n) f (suc j) h =
    le_trans (le_max_below n (λ i. f (suc i)) j (le_of_suc-le-suc h)) (le-max_right (f zero) (max_below n (λ i. f (suc i))))

-- A length is at most one more than the highest power that it has room for.
length_room : (n : ℕ) → n ≤ suc (pred n)
length_room zero = zero-le
length_room (suc n) = le_refl (suc n)

sum_pos : (n : ℕ) (f : ℕ → ℕ) → sum Integers n (λ i. pos (f i)) ≡ pos (sum_below n f)
unfolding sum sum_below
sum_pos zero f = refl
sum_pos (suc n) f = ap (λ x. pos (f zero) +ℤ x) (sum_pos n (λ i. f (suc i)))

-- COUNTING

-- f has exactly one coefficient below n that is not 0.
abbrev One : (p : ℕ) → ℕ → (ℕ → Residue p) → Type 0
One p n f = (e : ℕ) × (e < n) × (f e ≢ (K p).𝟘) × ((k : ℕ) → k < n → k ≢ e → f k ≡ (K p).𝟘)

module _ (p : ℕ) where
  open K p use {𝟘}

  count_zero_first : (n : ℕ) (f : ℕ → Residue p) → f zero ≡ 𝟘 → count_nonzero p (suc n) f ≡ count_nonzero p n (λ k. f (suc k))
  unfolding count_nonzero
  count_zero_first n f z = ap (λ b. cond b 0 1 + count_nonzero p n (λ k. f (suc k))) ((is_zero_iff p (f zero)).1 z) ∙ zero-add _

  count_nonzero_first : (n : ℕ) (f : ℕ → Residue p) → f zero ≢ 𝟘 → count_nonzero p (suc n) f ≡ suc (count_nonzero p n (λ k. f (suc k)))
  unfolding count_nonzero
  count_nonzero_first n f ne =
      ap (λ b. cond b 0 1 + count_nonzero p n (λ k. f (suc k))) ((false_iff (is_zero p (f zero))).1 (λ e. ne ((is_zero_iff p (f zero)).0 e))) ∙ omega arith

  -- What holds at 0 and at every number one higher holds at all.
  from_first : (n : ℕ) (Q : ℕ → Type 0) → Q zero → ((k : ℕ) → k < n → Q (suc k)) → (k : ℕ) → k < suc n → Q k
  from_first n Q z s zero h = z
  from_first n Q z s (suc k) h = s k (le_of_suc-le-suc h)

  count_zero : (n : ℕ) (f : ℕ → Residue p) → count_nonzero p n f ≡ 0 → (k : ℕ) → k < n → f k ≡ 𝟘
  count_zero zero f e = λ k h. absurd (not-suc-le-zero h)
  count_zero (suc n) f e = elim (K_decides p (f zero)) [
    | yes z ↦ from_first n (λ k. f k ≡ 𝟘) z (count_zero n (λ k. f (suc k)) (sym (count_zero_first n f z) ∙ e))
    | no ne ↦ absurd (suc-ne-zero _ (sym (count_nonzero_first n f ne) ∙ e))
  ]

  zero_count : (n : ℕ) (f : ℕ → Residue p) → ((k : ℕ) → k < n → f k ≡ 𝟘) → count_nonzero p n f ≡ 0
  unfolding count_nonzero
  zero_count zero f zeros = refl
  zero_count (suc n) f zeros = count_zero_first n f (zeros zero (zero-lt-suc n)) ∙ zero_count n (λ k. f (suc k)) (λ k h. zeros (suc k) (suc-le-suc h))

  count_one : (n : ℕ) (f : ℕ → Residue p) → count_nonzero p n f ≡ 1 → One p n f
  unfolding count_nonzero
  count_one zero f e = absurd (suc-ne-zero 0 (sym e))
  count_one (suc n) f e = elim (K_decides p (f zero)) [
    | yes z ↦
        let (i, b, ne, others) = count_one n (λ k. f (suc k)) (sym (count_zero_first n f z) ∙ e) in
        (suc i, suc-le-suc b, ne, from_first n (λ k. k ≢ suc i → f k ≡ 𝟘) (λ d. z) (λ k h d. others k h (λ q. d (ap suc q))))
    | no ne ↦ (
      zero,
      zero-lt-suc n,
      ne,
      from_first n (λ k. k ≢ zero → f k ≡ 𝟘) (λ d. absurd (d refl))
          (λ k h d. count_zero n (λ k. f (suc k)) (suc_inj (sym (count_nonzero_first n f ne) ∙ e)) k h),
    )
  ]

  one_count : (n : ℕ) (f : ℕ → Residue p) → One p n f → count_nonzero p n f ≡ 1
  one_count zero f (e, h, ne, others) = absurd (not-suc-le-zero h)
  one_count (suc n) f (zero, h, ne, others) =
      count_nonzero_first n f ne ∙ ap suc (zero_count n (λ k. f (suc k)) (λ k b. others (suc k) (suc-le-suc b) (suc-ne-zero k)))
  one_count (suc n) f (suc e, h, ne, others) =
      count_zero_first n f (others zero (zero-lt-suc n) (λ q. suc-ne-zero e (sym q)))
      ∙ one_count n (λ k. f (suc k)) (e, le_of_suc-le-suc h, ne, λ k b d. others (suc k) (suc-le-suc b) (λ q. d (suc_inj q)))

  -- A series with no coefficient from n on is a nonzero constant times a power of X exactly if one of the first n is not 0.
  pub count_one_iff : (n : ℕ) (f : ℕ → Residue p) → Below (K p) n f → (count_nonzero p n f ≡ 1) ↔ Monomial (K p) f
  count_one_iff n f below = (
    λ e. let (i, h, ne, others) = count_one n f e in (i, ne, λ k d. elim (dec_le n k) [ yes le ↦ below k le | no gt ↦ others k (lt_of_not-le gt) d ]),
    λ (i, ne, others). one_count n f (i, elim (dec_le n i) [ yes le ↦ absurd (ne (below i le)) | no gt ↦ lt_of_not-le gt ], ne, λ k h d. others k d),
  )

module _ (b : Problem) (P : List (List (List ℕ))) where
  row_bound : ℕ → ℕ
  row_bound i = max_below b.m (λ j. pred (length (at P i j)))

  -- The determinant has no coefficient from the bound on.
  pub determinant_below : Below (K b.p) (determinant_bound b P) (determinant b P)
  unfolding AtMost determinant_bound row_bound
  determinant_below =
      subst (λ x. AtMost (K b.p) x (determinant b P))
      (ap (λ x. sum Integers b.m (λ i. pos (row_bound i)) -ℤ x) (sum_zeros Integers b.m) ∙ +ℤ_idr _ ∙ sum_pos b.m row_bound)
      (det_degree (K b.p) b.m (λ i. pos (row_bound i)) (λ j. pos 0) (entries (K b.p) (matrix_P b P)) at_most).0
    where
      at_most : (i j : ℕ) → i < b.m → j < b.m → AtMost (K b.p) (pos (row_bound i) -ℤ pos 0) (matrix_P b P i j).series
      at_most i j hi hj =
          subst (λ x. AtMost (K b.p) x (matrix_P b P i j).series) (sym (+ℤ_idr (pos (row_bound i))))
          (λ k h. (matrix_P b P i j).below k (omega (arith, length_room (length (at P i j)), le_max_below b.m (λ j. pred (length (at P i j))) j hj)))

  -- Condition 2: the test passes exactly if the determinant is "a nonzero constant times a power of X".
  pub monomial_determinant_iff : (monomial_determinant b P ≡ true) ↔ Monomial (K b.p) (determinant b P)
  unfolding monomial_determinant
  monomial_determinant_iff =
      Iff.trans (eqb_iff (count_nonzero b.p (determinant_bound b P) (determinant b P)) 1)
      (count_one_iff b.p (determinant_bound b P) (determinant b P) determinant_below)

  -- "Δ … for a passed answer … is the exponent of X": of a reduced P whose determinant is a nonzero constant times a power of X, the
  -- degree sum is the exponent.
  pub degree_sum_exponent : reduced b P ≡ true → (monomial : Monomial (K b.p) (determinant b P)) → degree_sum b P ≡ Some (pos monomial.0)
  degree_sum_exponent r (e, ne, others) =
      let (d, same, below, nz) = degree_sum_natural b P r in
      same ∙ ap (λ n. Some (pos n)) (elim (ℕ_discrete d e) [ yes q ↦ q | no nq ↦ absurd (nz (others d nq)) ])
