-- Tests as statements: what it says that a test passes, or fails.
--   true_iff, false_iff, not_iff, not_false_iff      a test, and its opposite
--   and_iff                  a test, and where it passes another
--   eqb_iff                  the test of equality
--   cond_true, cond_false, cond_cases      the branch that a test chooses
use Rattle.std.specs.Prelude.{◌≡◌, refl, ◌≢◌, ◌↔◌, Bool, true, false, cond, not, ℕ, T, eqb}
use Rattle.std.proofs.Common.{subst, true≢false, eqb→eq}
use Rattle.std.proofs.lemmas.Bool.{false≢true}
use Rattle.std.proofs.Math.Dec.{eqb_refl}

-- A test that passes, as an equation.
pub true_iff : (b : Bool) → (b ≡ true) ↔ T b
true_iff true = (λ h. tt, λ t. refl)
true_iff false = (λ h. absurd (false≢true h), λ t. absurd t)

-- A test that does not pass fails.
pub false_iff : (b : Bool) → (b ≡ false) ↔ (b ≢ true)
false_iff true = (λ e. absurd (true≢false e), λ ne. absurd (ne refl))
false_iff false = (λ e. false≢true, λ ne. refl)

-- The opposite of a test passes where the test does not.
pub not_iff : (b : Bool) → (not b ≡ true) ↔ (b ≢ true)
not_iff true = (λ e. absurd (false≢true e), λ ne. absurd (ne refl))
not_iff false = (λ e. false≢true, λ ne. refl)

-- The opposite of a test fails where the test passes.
pub not_false_iff : (b : Bool) → (not b ≡ false) ↔ (b ≡ true)
not_false_iff true = (λ e. refl, λ e. refl)
not_false_iff false = (λ e. absurd (true≢false e), λ e. absurd (false≢true e))

-- A test, and where it passes another.
pub and_iff : (a b : Bool) → T (elim a [ true ↦ b | false ↦ false ]) ↔ (T a × T b)
and_iff true b = (λ t. (tt, t), λ t. t.1)
and_iff false b = (λ t. absurd t, λ t. t.0)

-- The test of equality.
pub eqb_iff : (a b : ℕ) → (eqb a b ≡ true) ↔ (a ≡ b)
eqb_iff a b = (λ e. eqb→eq a b ((true_iff _).0 e), λ e. subst (λ x. eqb a x ≡ true) e ((true_iff _).1 (eqb_refl a)))

-- Where a test passes, its first branch is chosen, …
pub cond_true : {A : Type 0} (b : Bool) (x y : A) → T b → cond b x y ≡ x
cond_true true x y t = refl
cond_true false x y t = absurd t

-- … and where it fails, its second.
pub cond_false : {A : Type 0} (b : Bool) (x y : A) → T (not b) → cond b x y ≡ y
cond_false true x y t = absurd t
cond_false false x y t = refl

-- What holds of either branch of a test, where the test's answer is known, holds of the test.
pub cond_cases : {A : Type 0} (b : Bool) (x y : A) (P : A → Type 0) → (T b → P x) → (T (not b) → P y) → P (cond b x y)
cond_cases true x y P f g = f tt
cond_cases false x y P f g = g tt
