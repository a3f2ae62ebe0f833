-- How many roots a polynomial has. What vanishes at as many different points as it may have coefficients is 0, so that a polynomial of
-- degree at most d that is not 0 has at most d roots. A root is divided out by the one lemma for every point (`Root`).
--   zero_of_roots            below d and 0 at d different points: every coefficient is 0
--   equal_of_values          two polynomials below d with the same values at d different points are the same
--   roots_at_most            a polynomial other than 0, of degree at most d, is 0 at no more than d different points
--   count_roots              of n different points, at most d pass a test that only roots pass
--   count_roots_modulo       of the p numbers modulo a prime p, at most d do
--   count_zeros_modulo       of the p numbers x modulo a prime p, at most d have f(x) = 0
use Rattle.std.specs.Prelude.{◌≡◌, refl, ◌≢◌, Bool, true, ℕ, zero, suc, ◌≤◌, ◌<◌, pred}
use Rattle.std.proofs.Math.Path.{sym}
use Rattle.std.proofs.Common.{ap, subst, ◌∙◌, zero-le, suc-le-suc, zero-lt-suc, suc-ne-zero, lt_of_not-le, le_trans, le_of_lt, eqb→eq}
use Rattle.std.proofs.Math.Nat.{suc_inj, zero-mod}
use Rattle.std.proofs.Math.Decide.{dec_le}
use Rattle.std.proofs.Math.Dec.{T, eqb}
use Rattle.algebra.specs.Ring as Ring
use Rattle.algebra.specs.Ring.{CommRing, Cancels}
use Rattle.algebra.specs.Prime.{Prime}
use Rattle.algebra.specs.Residue.{K, Residue, red, residue_ext}
use Rattle.algebra.proofs.Residue.{K_cancels}
use Rattle.algebra.specs.Count.{Distinct, count, Passing, passing}
use Rattle.algebra.specs.Series.{series_ext}
use Rattle.algebra.proofs.Series.{Series}
use Rattle.algebra.specs.Polynomial.{Below}
use Rattle.algebra.proofs.Polynomial.{below_add, below_neg}
use Rattle.algebra.specs.Evaluation.{ev, Evaluates}
use Rattle.algebra.proofs.Evaluation.{evaluates_unique, evaluation}
use Rattle.algebra.specs.Root.{lin, quo}
use Rattle.algebra.proofs.Root.{evaluates_lin_at, below_quo, divide_root}
use Rattle.algebra.specs.Roots.{red_distinct}

module _ (R : CommRing) (cancels : Cancels R) where
  open R use {C, 𝟘, ◌⊕◌, ⊖◌, add_neg}
  open Series R use {◌⊕◌ as ◌⊞◌, ◌⊗◌ as ◌⊠◌, ⊖◌ as ⊟◌, 𝟘 as 𝟘ₛ}

  infixl 60 ◌⊕◌
  infix 80 ⊖◌
  infixl 60 ◌⊞◌
  infixl 70 ◌⊠◌
  infix 80 ⊟◌
  -- A root of (X − a)·q other than a is one of q.
  root_of_quotient : {d : ℕ} (a b : C) (q : ℕ → C) → Below R d q → b ≢ a → Evaluates R b (lin R a ⊠ q) 𝟘 → Evaluates R b q 𝟘
  root_of_quotient {d} a b q below other root = (
    d,
    below,
    cancels (b ⊕ ⊖ a) (ev R d b q) (λ z. other (Ring.eq_of_sub R b a z))
        (evaluates_unique R b (lin R a ⊠ q) ((evaluation R b).rel_mul (evaluates_lin_at R a b) (d, below, refl)) root),
  )

  -- A polynomial with no coefficient from d on that is 0 at d different points is 0: the first of them is divided out, and the others are
  -- roots of the quotient.
  pub zero_of_roots : (d : ℕ) (x f : ℕ → C) → Distinct d x → Below R d f → ((k : ℕ) → k < d → Evaluates R (x k) f 𝟘) → (k : ℕ) → f k ≡ 𝟘
  zero_of_roots zero x f different below roots k = below k zero-le
  zero_of_roots (suc d) x f different below roots k =
      let a : C = x 0 in
      let q : ℕ → C = quo R (suc d) a f in
      let below_q : Below R d q = below_quo R (suc d) a f below in
      let divided : f ≡ lin R a ⊠ q = divide_root R a f below (evaluates_unique R a f (suc d, below, refl) (roots 0 (zero-lt-suc d))) in
      let zero_q : (k : ℕ) → q k ≡ 𝟘 =
      zero_of_roots d (λ k. x (suc k)) q (λ i k hi hk e. suc_inj (different (suc i) (suc k) (suc-le-suc hi) (suc-le-suc hk) e)) below_q
      (λ k h. root_of_quotient a (x (suc k)) q below_q (λ e. suc-ne-zero k (different (suc k) 0 (suc-le-suc h) (zero-lt-suc d) e))
      (subst (λ s. Evaluates R (x (suc k)) s 𝟘) divided (roots (suc k) (suc-le-suc h)))) in
      ap (λ s. s k) (divided ∙ ap (λ s. lin R a ⊠ s) (series_ext R zero_q) ∙ Ring.mul_zero (Series R) (lin R a))

  -- Two polynomials with no coefficient from d on that have the same values at d different points are the same.
  pub equal_of_values : (d : ℕ) (x y f g : ℕ → C) → Distinct d x → Below R d f → Below R d g
      → ((k : ℕ) → k < d → Evaluates R (x k) f (y k)) → ((k : ℕ) → k < d → Evaluates R (x k) g (y k)) → f ≡ g
  equal_of_values d x y f g different below_f below_g at_f at_g =
      series_ext R (λ k. Ring.eq_of_sub R (f k) (g k)
      (zero_of_roots d x (f ⊞ ⊟ g) different (below_add R f (⊟ g) below_f (below_neg R g below_g))
      (λ k h. subst (Evaluates R (x k) (f ⊞ ⊟ g)) (add_neg (y k)) ((evaluation R (x k)).rel_add (at_f k h) ((evaluation R (x k)).rel_neg (at_g k h)))) k))

  -- A polynomial other than 0 with no coefficient from d + 1 on is 0 at no more than d different points, …
  pub roots_at_most : (d n : ℕ) (x f : ℕ → C) → Distinct n x → Below R (suc d) f → f ≢ 𝟘ₛ → ((k : ℕ) → k < n → Evaluates R (x k) f 𝟘) → n ≤ d
  roots_at_most d n x f different below nonzero roots = elim (dec_le n d) [
    | yes le ↦ le
    | no gt ↦
        let more : suc d ≤ n = lt_of_not-le gt in
        absurd (nonzero (series_ext R
        (zero_of_roots (suc d) x f (λ i k hi hk. different i k (le_trans hi more) (le_trans hk more)) below (λ k h. roots k (le_trans h more)))))
  ]

  -- … so that of n different points at most d pass a test that only roots pass.
  pub count_roots : (d n : ℕ) (x f : ℕ → C) → Distinct n x → Below R (suc d) f → f ≢ 𝟘ₛ
      → (test : ℕ → Bool) → ((i : ℕ) → i < n → test i ≡ true → Evaluates R (x i) f 𝟘) → count n test ≤ d
  count_roots d n x f different below nonzero test root =
      let found : Passing n test (count n test) = passing n test in
      roots_at_most d (count n test) (λ k. x (found.place k)) f
      (λ i k hi hk e. found.different i k hi hk (different (found.place i) (found.place k) (found.within i hi) (found.within k hk) e)) below nonzero
      (λ k h. root (found.place k) (found.within k h) (found.passes k h))

module _ (p : ℕ) (prime : Prime p) where
  open Series (K p) use {𝟘 as 𝟘ₛ}

  -- So of the p numbers modulo a prime at most d pass a test that only roots pass, for a polynomial other than 0 with no coefficient from
  -- d + 1 on, …
  pub count_roots_modulo : (d : ℕ) (f : ℕ → Residue p) → Below (K p) (suc d) f → f ≢ 𝟘ₛ
      → (test : ℕ → Bool) → ((x : ℕ) → x < p → test x ≡ true → Evaluates (K p) (red p x) f (K p).𝟘) → count p test ≤ d
  count_roots_modulo d f = count_roots (K p) (K_cancels p prime) d p (red p) f (red_distinct p (le_of_lt prime.two_le))

  -- … and f(x) = 0 for at most d of them.
  pub count_zeros_modulo : (d : ℕ) (f : ℕ → Residue p) → Below (K p) (suc d) f → f ≢ 𝟘ₛ → count p (λ x. eqb (ev (K p) (suc d) (red p x) f).0 0) ≤ d
  unfolding red
  count_zeros_modulo d f below nonzero =
      count_roots_modulo d f below nonzero (λ x. eqb (ev (K p) (suc d) (red p x) f).0 0)
      (λ x h e. (suc d, below, residue_ext p (eqb→eq _ 0 (subst T (sym e) tt) ∙ sym (zero-mod (suc (pred p))))))
