-- The list of f 0, …, f (n − 1), and its laws.
--   table n f
--   length_table, get_or_table, table_all        how long it is, what stands at a number, what holds of everything that is looked up
--   table_cong               it depends on the members that it has alone
--   table_ext                a list is the table of its members
--   table_last               a table grows by its last member
use Rattle.std.specs.Prelude.{◌≡◌, refl, List, [], ◌∷◌, ◌++◌, ℕ, zero, suc, ◌+◌, ◌<◌, length, get_or}
use Rattle.std.proofs.Common.{sym, ap, ap₂, subst, ◌∙◌, suc-le-suc, le_of_suc-le-suc, not-suc-le-zero, zero-lt-suc, add-one, arith, ext_get_or}
use Rattle.std.proofs.Math.Logic.{by_cases}
use Rattle.std.proofs.Math.Decide.{dec_le}
use Rattle.std.proofs.Math.ListN.{get_or-eq_default}

-- The list f 0, …, f (n − 1).
unfoldable pub table : {A : Type 0} → ℕ → (ℕ → A) → List A
table zero f = []
table (suc n) f = f zero ∷ table n (λ i. f (suc i))

-- It has n members, …
pub length_table : {A : Type 0} (n : ℕ) (f : ℕ → A) → length (table n f) ≡ n
unfolding table
length_table zero f = refl
length_table (suc n) f = ap suc (length_table n (λ i. f (suc i)))

-- … of which f i has the number i.
pub get_or_table : {A : Type 0} (n : ℕ) (f : ℕ → A) (d : A) (i : ℕ) → i < n → get_or (table n f) i d ≡ f i
unfolding table
get_or_table zero f d i h = absurd (not-suc-le-zero h)
get_or_table (suc n) f d zero h = refl
get_or_table (suc n) f d (suc i) h = get_or_table n (λ i. f (suc i)) d i (le_of_suc-le-suc h)

-- What holds of the default and of each f i holds of everything that is looked up.
pub table_all : {A : Type 0} (n : ℕ) (f : ℕ → A) (d : A) (Q : A → Type 0) → Q d → ((i : ℕ) → Q (f i)) → (i : ℕ) → Q (get_or (table n f) i d)
table_all n f d Q v w i = by_cases (dec_le (suc i) n)
    (λ h. subst Q (sym (get_or_table n f d i h)) (w i))
    (λ h. subst Q (sym (get_or-eq_default (table n f) d (omega (arith, length_table n f)))) v)

-- A table depends on the members that it has alone.
pub table_cong : {A : Type 0} (n : ℕ) (f g : ℕ → A) → ((i : ℕ) → i < n → f i ≡ g i) → table n f ≡ table n g
unfolding table
table_cong zero f g h = refl
table_cong (suc n) f g h = ap₂ ◌∷◌ (h zero (zero-lt-suc n)) (table_cong n (λ i. f (suc i)) (λ i. g (suc i)) (λ i b. h (suc i) (suc-le-suc b)))

-- A list of n members is the table of them.
pub table_ext : {A : Type 0} (n : ℕ) (f : ℕ → A) (d : A) (l : List A) → length l ≡ n → ((i : ℕ) → i < n → get_or l i d ≡ f i) → l ≡ table n f
table_ext n f d l e h =
    ext_get_or d l (table n f) (e ∙ sym (length_table n f))
    (λ i b. let below : i < n = subst (λ k. i < k) e b in h i below ∙ sym (get_or_table n f d i below))

-- One member more.
pub table_last : {A : Type 0} (n : ℕ) (g : ℕ → A) → table (n + 1) g ≡ table n g ++ (g n ∷ [])
unfolding table
table_last zero g = refl
table_last (suc n) g = ap (λ k. table k g) (add-one (suc n)) ∙ ap (λ l. g zero ∷ l) (ap (λ k. table k (λ i. g (suc i))) (sym (add-one n)) ∙ table_last n (λ i. g (suc i)))
