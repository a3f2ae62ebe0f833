-- What holds of text that is put byte by byte. No proof cites it now; it stands because it was stated.
--   appended_next            one byte more of a text
--   four_bytes               four bytes, one after the other, are those of the rules' writer
use Rattle.std.proofs.Common.{sym, ap, ap₂, subst, subst₂, ◌∙◌, add_assoc, add-one, arith, take-suc}
use Rattle.std.specs.Prelude.{List, [], ◌∷◌, ◌++◌, ℕ, ◌+◌, ◌/◌, ◌%◌, ◌≤◌, ◌<◌, length, get_or, take, set}
use Rattle.std.proofs.Math.Nat.{div-div-eq-div-mul}
use Rattle.rules.specs.Writer.{bytes}
use Rattle.writer.specs.Appended.{Appended, appended_byte, appended_both, appended_push}

-- One byte more of a text.
pub appended_next :
    (l l' text : List ℕ) (at i : ℕ) → i < length text → at + length text ≤ length l → Appended l l' at (at + i) (take i text)
    → Appended l (set l' (at + i) (get_or text i 0)) at (at + (i + 1)) (take (i + 1) text)
appended_next l l' text at i h fits x =
    subst₂ (Appended l (set l' (at + i) (get_or text i 0)) at) (add_assoc at i 1) (sym (ap (λ k. take k text) (add-one i) ∙ take-suc text i 0 h))
    (appended_both l l' (set l' (at + i) (get_or text i 0)) at (at + i) (at + i + 1) (take i text) (get_or text i 0 ∷ []) x
    (appended_byte l' (at + i) (get_or text i 0) (omega (arith, x.same_length))))

-- Four bytes, one after the other.
push : (l l' : List ℕ) (at k b : ℕ) (t : List ℕ) → at + k < length l → Appended l l' at (at + k) t → Appended l (set l' (at + k) b) at (at + (k + 1))
    (t ++ (b ∷ []))
push l l' at k b t h x = subst (λ e. Appended l (set l' (at + k) b) at e (t ++ (b ∷ []))) (add_assoc at k 1) (appended_push l l' at (at + k) b t h x)

pub four_bytes : (l : List ℕ) (at v : ℕ) → at + 4 ≤ length l
    → Appended l (set (set (set (set l at (v % 256)) (at + 1) (v / 256 % 256)) (at + 2) (v / 65_536 % 256)) (at + 3) (v / 16_777_216 % 256)) at (at + 4)
    (bytes 4 v)
unfolding bytes
four_bytes l at v h =
    subst (Appended l (set (set (set (set l at (v % 256)) (at + 1) (v / 256 % 256)) (at + 2) (v / 65_536 % 256)) (at + 3) (v / 16_777_216 % 256)) at (at + 4))
    (ap₂ (λ y z. v % 256 ∷ v / 256 % 256 ∷ y % 256 ∷ z % 256 ∷ []) (sym (div-div-eq-div-mul v 256 256))
    (sym (ap (λ y. y / 256) (div-div-eq-div-mul v 256 256) ∙ div-div-eq-div-mul v 65_536 256)))
    (push l (set (set (set l at (v % 256)) (at + 1) (v / 256 % 256)) (at + 2) (v / 65_536 % 256)) at 3 (v / 16_777_216 % 256)
    (v % 256 ∷ v / 256 % 256 ∷ v / 65_536 % 256 ∷ []) (omega arith)
    (push l (set (set l at (v % 256)) (at + 1) (v / 256 % 256)) at 2 (v / 65_536 % 256) (v % 256 ∷ v / 256 % 256 ∷ []) (omega arith)
    (push l (set l at (v % 256)) at 1 (v / 256 % 256) (v % 256 ∷ []) (omega arith) (appended_byte l at (v % 256) (omega arith)))))
