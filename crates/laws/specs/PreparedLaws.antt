-- Laws of prepared forms.
--   write_problem_bytes      the file that is written of a problem is a list of bytes
--   verdict_after_problem    the verdict on two files, the first of which is read, is that on the second after the first
--   form_order, form_shift, form_coefficient     what the form of a problem holds at each place
use Rattle.std.specs.Prelude.{◌≡◌, refl, List, [], ◌∷◌, ◌++◌, ℕ, zero, suc, ◌/◌, ◌<◌, ℤ, pos, get_or}
use Rattle.std.proofs.Common.{sym, ap, ◌∙◌, arith}
use Rattle.rules.specs.Sizes.{most_rows, most_order}
use Rattle.rules.specs.Claim.{Problem, Answer, Claim}
use Rattle.rules.specs.Table.{table, get_or_table}
use Rattle.rules.specs.Matrices.{order, shift, at}
use Rattle.rules.specs.Reader.{Place, Result, refused, got, next, front}
use Rattle.rules.specs.Files.{PR_mark, OR_mark, SH_mark, FC_mark, answer_reader, read_problem, claim_for}
use Rattle.rules.specs.Writer.{bytes, write_each, unsigned, write_PR, write_OR, write_SH, write_FC, write_problem}
use Rattle.laws.specs.ByteNumbers.{AllBytes}
use Rattle.laws.specs.BothFiles.{after_problem}
use Rattle.rules.specs.Verdict.{Verdict, unread, judge_claim, verdict}
use Rattle.rules.specs.Prepared.{Prepared, prepared, verdict_after}

-- THE WRITER WRITES BYTES

record Written (l : List ℕ) : Type 0 where
  each : AllBytes l

no_bytes : Written []
no_bytes = record { each = λ i. omega arith }

infixl 5 ◌then◌
◌then◌ : {l l' : List ℕ} → Written l → Written l' → Written (l ++ l')
◌then◌ {l} {l'} h h' = record { each = go l h.each }
  where
    go : (l : List ℕ) → AllBytes l → AllBytes (l ++ l')
    go [] g i = h'.each i
    go (v ∷ l) g zero = g zero
    go (v ∷ l) g (suc i) = go l (λ i. g (suc i)) i

number : (k v : ℕ) → Written (bytes k v)
unfolding bytes
number k v = record { each = go k v }
  where
    go : (k v : ℕ) → AllBytes (bytes k v)
    go zero v i = omega arith
    go (suc k) v zero = omega arith
    go (suc k) v (suc i) = go k (v / 256) i

members : {A : Type 0} {f : ℕ → A → List ℕ} → ((i : ℕ) (a : A) → Written (f i a)) → (i : ℕ) (l : List A) → Written (write_each f i l)
unfolding write_each
members h i [] = no_bytes
members h i (a ∷ l) = h i a then members h (suc i) l

column : (j : ℕ) (l : List (List ℕ)) → Written (write_FC j l)
unfolding write_FC
column j l = number 2 FC_mark then number 1 j then members (λ i. members (λ k. number 4) 0) 0 l

pub write_problem_bytes : (b : Problem) → AllBytes (write_problem b)
unfolding write_problem write_PR write_OR write_SH
write_problem_bytes b = whole.each
  where
    whole : Written (write_problem b)
    whole =
        (number 2 PR_mark then number 4 b.p then number 1 b.m then number 1 b.n)
        then (number 2 OR_mark then members (λ j. number 1) 0 b.orders)
        then (number 2 SH_mark then members (λ i z. number 2 (unsigned z)) 0 b.shifts)
        then members column 0 b.F

-- AFTER THE PROBLEM

-- The verdict on two files, the first of which is read, is that on the second after the first.
pub verdict_after_problem : (s t : List ℕ) {b : Problem} {q : Place} → read_problem s ≡ got b q → verdict s t ≡ verdict_after b t
unfolding verdict verdict_after next
verdict_after_problem s t {b} e = ap by_reading (after_problem answer_reader claim_for s t e) ∙ by_answer (answer_reader b t (front 1))
  where
    by_reading : Result Claim → Verdict
    by_reading x = elim x [ refused r ↦ unread r | got c q ↦ judge_claim c ]

    by_answer : (x : Result Answer) → by_reading (next x (λ a q. got (claim_for b a) q)) ≡ elim x [ refused r ↦ unread r | got a q ↦ judge_claim (claim_for b a) ]
    by_answer (refused r) = refl
    by_answer (got a q) = refl

-- EQUAL FORMS

-- Two tables that are equal agree at each place.
same_at : {A : Type 0} (n : ℕ) (f g : ℕ → A) (d : A) → table n f ≡ table n g → (i : ℕ) → i < n → f i ≡ g i
same_at n f g d e i h = sym (get_or_table n f d i h) ∙ ap (λ l. get_or l i d) e ∙ get_or_table n g d i h

-- The form of a problem that equals one of such tables agrees with it at each place.
module _ (b : Problem) (x : Prepared) (e : prepared b ≡ x) where
  pub form_order : (orders : ℕ → ℕ) → x.orders ≡ table most_rows orders → (j : ℕ) → j < most_rows → order b j ≡ orders j
  form_order orders h = same_at most_rows (order b) orders 0 (ap (λ (y : Prepared). y.orders) e ∙ h)

  pub form_shift : (shifts : ℕ → ℤ) → x.shifts ≡ table most_rows shifts → (i : ℕ) → i < most_rows → shift b i ≡ shifts i
  form_shift shifts h = same_at most_rows (shift b) shifts (pos 0) (ap (λ (y : Prepared). y.shifts) e ∙ h)

  pub form_coefficient : (F : ℕ → ℕ → ℕ → ℕ) → x.F ≡ table most_rows (λ j. table most_rows (λ i. table most_order (F i j)))
      → (i j k : ℕ) → i < most_rows → j < most_rows → k < most_order → get_or (at b.F j i) k 0 ≡ F i j k
  form_coefficient F h i j k hi hj hk =
      same_at most_order (λ k. get_or (at b.F j i) k 0) (F i j) 0
      (same_at most_rows (λ i. table most_order (λ k. get_or (at b.F j i) k 0)) (λ i. table most_order (F i j)) []
      (same_at most_rows (λ j. table most_rows (λ i. table most_order (λ k. get_or (at b.F j i) k 0))) (λ j. table most_rows (λ i. table most_order (F i j))) []
      (ap (λ (y : Prepared). y.F) e ∙ h) j hj) i hi) k hk
