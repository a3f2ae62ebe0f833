-- What the basis iteration keeps: the identity has it, each step keeps it, and it does not depend on F from the orders on.
--   choice_local         what a choice and a basis depend on
use Rattle.std.specs.Prelude.{◌≡◌, Bool, true, ℤ, pos, ◌+ℤ◌}
use Rattle.std.proofs.Math.Path.{refl, sym, ap, ap₂}
use Rattle.std.proofs.Common.{◌∙◌}
use Prim.Native.Nat.{ℕ, ◌<◌}
use Rattle.algebra.specs.Ring.{CommRing}
use Rattle.algebra.specs.Matrix.{Row, Matrix, vmul, vmul_cong}
use Rattle.algebra.specs.Step.{Choice}

module _ (R : CommRing) where
  open R use {𝟘, ◌⊕◌, ◌⊗◌, ⊖◌, add_zero}

  infixl 60 ◌⊕◌
  infixl 70 ◌⊗◌
  infix 80 ⊖◌
  -- A choice depends on the residuals in the active columns alone, …
  pub choice_local : (m n : ℕ) (active : ℕ → Bool) (r r' : ℕ → ℤ) (A A' : Matrix R) (pivot : ℕ → Bool) (w : Matrix R)
      → ((i : ℕ) → i < m → r i ≡ r' i) → ((i j : ℕ) → i < m → j < n → active j ≡ true → A i j ≡ A' i j)
      → Choice R m n active r A pivot w → Choice R m n active r' A' pivot w
  choice_local m n active r r' A A' pivot w degrees same choice = record {
    clears = choice.clears;
    none_higher = λ i q hi hq ne. let (k, e) = choice.none_higher i q hi hq ne in (k, sym (degrees i hi) ∙ e ∙ ap (λ x. x +ℤ pos k) (degrees q hq));
    clean = λ i j hi hj p a.
        ap₂ (λ x y. x ⊕ ⊖ y) (sym (same i j hi hj a)) (sym (column (w i) j hj a)) ∙ choice.clean i j hi hj p a;
    independent = λ u others combined. choice.independent u others (λ j hj a. column u j hj a ∙ combined j hj a);
  }
    where
      column : (u : Row R) (j : ℕ) → j < n → active j ≡ true → vmul R m u A j ≡ vmul R m u A' j
      column u j hj a = vmul_cong R m u u A A' j (λ i hi. refl) (λ i hi. same i j hi hj a)
