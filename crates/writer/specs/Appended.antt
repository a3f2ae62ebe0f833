-- Text that is put together in a lent array, one piece after the other.
--   Appended before after at end text      the text stands from `at` to `end`, and no other byte has changed
use Rattle.std.specs.Prelude.{◌≡◌, refl, List, [], ◌∷◌, ◌++◌, ℕ, zero, suc, ◌+◌, ◌≤◌, ◌<◌, length, take, drop, set}
use Rattle.std.proofs.Common.{sym, ap, ap₂, ◌∙◌, append_assoc, append-nil, add-zero, zero-add, suc-add, add_assoc, add-one, arith, take-suc-set, drop-set-lt, length-set, length-append, length-take, length-drop, take-append-drop}
use Rattle.std.proofs.lemmas.Slice.{take-put_mid, drop-put_mid}
use borrow.Rule.Slice.PartMut.{put_mid}

-- What stood before `at` stands there still, `text` stands behind it and ends at `end`, and from there on every byte is as before.
pub record Appended (before after : List ℕ) (at end : ℕ) (text : List ℕ) : Type 0 where
  pub ends : end ≡ at + length text
  pub holds : take end after ≡ take at before ++ text
  pub rest : drop end after ≡ drop end before
  pub same_length : length after ≡ length before

drop_drop : (i k : ℕ) (l : List ℕ) → drop k (drop i l) ≡ drop (i + k) l
drop_drop zero k l = ap (λ n. drop n l) (sym (zero-add k))
drop_drop (suc i) zero [] = ap (λ n. drop n []) (sym (suc-add i zero))
drop_drop (suc i) (suc k) [] = ap (λ n. drop n []) (sym (suc-add i (suc k)))
drop_drop (suc i) k (x ∷ l) = drop_drop i k l ∙ ap (λ n. drop n (x ∷ l)) (sym (suc-add i k))

pub appended_nothing : (l : List ℕ) (at : ℕ) → Appended l l at at []
appended_nothing l at = record { ends = sym (add-zero at); holds = sym (append-nil (take at l)); rest = refl; same_length = refl }

-- One byte.
pub appended_byte : (l : List ℕ) (at b : ℕ) → at < length l → Appended l (set l at b) at (at + 1) (b ∷ [])
appended_byte l at b h = record {
  ends = refl;
  holds = rw (add-one at) (take-suc-set l at b h);
  rest = drop-set-lt (at + 1) l at b
      (omega arith);
  same_length = length-set l at b;
}

-- A piece behind another.
pub appended_both : (l l' l'' : List ℕ) (at e f : ℕ) (t u : List ℕ) → Appended l l' at e t → Appended l' l'' e f u → Appended l l'' at f (t ++ u)
appended_both l l' l'' at e f t u x y = record {
  ends = y.ends ∙ ap (λ x. x + length u) x.ends ∙ add_assoc at (length t) (length u) ∙ ap (λ x. at + x) (sym (length-append t u));
  holds = y.holds ∙ ap (λ x. x ++ u) x.holds ∙ append_assoc (take at l) t u;
  rest = y.rest ∙ rw y.ends (sym (drop_drop e (length u) l') ∙ ap (drop (length u)) x.rest ∙ drop_drop e (length u) l);
  same_length = y.same_length ∙ x.same_length;
}

-- A whole text, in the place of as many bytes.
pub appended_text : (l text : List ℕ) (at k : ℕ) → k ≡ length text → at + length text ≤ length l → Appended l (put_mid at k l text) at (at + length text) text
appended_text l text at k e fits = record {
  ends = refl;
  holds = take-put_mid at k l text (at + length text) refl (omega arith);
  rest = drop-put_mid at k l text (at + length text) (omega arith) (omega arith) (sym e);
  same_length = simp (length-append, length-take, length-drop) (omega arith);
}

-- The text settles where it ends and every byte of the array afterwards.
pub appended_unique : (l x y : List ℕ) (at e f : ℕ) (t : List ℕ) → Appended l x at e t → Appended l y at f t → (e ≡ f) × (x ≡ y)
appended_unique l x y at e f t a b =
    let same : e ≡ f = a.ends ∙ sym b.ends in (
      same,
      sym (take-append-drop e x) ∙ ap₂ (λ u v. u ++ v) (a.holds ∙ sym b.holds) (a.rest ∙ ap (λ k. drop k l) same ∙ sym b.rest)
          ∙ take-append-drop f y,
    )

-- One byte behind a text.
pub appended_push : (l l' : List ℕ) (at e b : ℕ) (t : List ℕ) → e < length l → Appended l l' at e t → Appended l (set l' e b) at (e + 1) (t ++ (b ∷ []))
appended_push l l' at e b t h x =
    appended_both l l' (set l' e b) at e (e + 1) t (b ∷ []) x (appended_byte l' e b (omega (arith, x.same_length)))

-- A text ends within its array.
pub appended_within : (l l' : List ℕ) (at e : ℕ) (t : List ℕ) → at ≤ length l → Appended l l' at e t → e ≤ length l'
appended_within l l' at e t h x =
    omega (arith, length-take e l', ap length x.holds, length-append (take at l) t, length-take at l, x.ends)
