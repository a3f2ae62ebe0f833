-- A list that is read into the front of a list lent.
--   prefix_given, prefix_refused     what reading it gives, of the whole list
use Rattle.std.specs.Prelude.{◌≡◌, List, [], ◌∷◌, ℕ, suc, ◌+◌, ◌≤◌, length, set, take, drop, ◌++◌}
use Rattle.std.proofs.Math.Path.{ap}
use Rattle.std.proofs.Common.{sym, ◌∙◌, refl, arith, length-take, length-set}
use Rattle.std.proofs.lemmas.List.{set-append_left, take-append-drop}
use Rattle.rules.specs.Reader.{Place, Refusal, refused, got, Reader}
use Rattle.storing.specs.Storing.{into, pour, into_got, into_refused, into_on}

-- What is put into the front leaves what stands behind.
pour_front : {A : Type 0} (i : ℕ) (a b l : List A) → i + length l ≤ length a → pour set i (a ++ b) l ≡ pour set i a l ++ b
unfolding pour
pour_front i a b [] h = refl
pour_front i a b (x ∷ l) h =
    ap (λ (st : List _). pour set (suc i) st l) (set-append_left a b i x (omega arith))
    ∙ pour_front (suc i) (set a i x) b l (omega (arith, length-set a i x))

module _ {A : Type 0} (R : ℕ → Reader (List A)) (n : ℕ) (room : List A) (fits : n ≤ length room) (s : List ℕ) (p : Place) where
  exact : length (take n room) ≡ n
  exact = omega (arith, length-take n room)

  pub prefix_given : {new : List A} {q : Place} → ((l : List A) (q : Place) → R n s p ≡ got l q → length l ≡ n)
      → got new q ≡ into (pour set 0 (take n room)) (R (length (take n room)) s p) → got (new ++ drop n room) q ≡ into (pour set 0 room) (R n s p)
  prefix_given {new} {q} sized e =
      let (l, read, put) = into_got _ _ (e ∙ ap (λ (k : ℕ). into (pour set 0 (take n room)) (R k s p)) exact) in
      let whole : pour set 0 room l ≡ new ++ drop n room =
      ap (λ (st : List A). pour set 0 st l) (sym (take-append-drop n room))
      ∙ pour_front 0 (take n room) (drop n room) l (omega (arith, exact, sized l q (sym read)))
      ∙ ap (λ (st : List A). st ++ drop n room) put in
      ap (λ (st : List A). got st q) (sym whole) ∙ sym (into_on (pour set 0 room) read)

  pub prefix_refused : {x : Refusal} → refused x ≡ into (pour set 0 (take n room)) (R (length (take n room)) s p) → refused x ≡ R n s p
  prefix_refused e = into_refused _ _ (e ∙ ap (λ (k : ℕ). into (pour set 0 (take n room)) (R k s p)) exact)
