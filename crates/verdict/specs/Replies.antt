-- What a reply of the code means in the words of document 01.
--   reply_meant              a reply: reply_meant_injective
--   reply_meant_unread       what `?` makes of a refusal of reading
use Rattle.std.specs.Prelude.{◌≡◌, refl, ℕ, Result, Ok, Err, IsErrAnd}
use Rattle.std.proofs.Common.{sym, ap, ◌∙◌}
use Rattle.std.proofs.lemmas.Result.{err_from_is_err_and}
use Rattle.rules.specs.Reply.{Reply as ReplyOf, unread, no_room, written}
use Rattle.verdict.specs.declared.Refusal.{Refusal}
use Rattle.verdict.specs.declared.Unwritten.{Unwritten}
use Rattle.verdict.specs.declared.Unwritten.TheVariants.{Unread, NoRoom}
use Rattle.verdict.specs.Meant.{refusal_of, refusal_for}

abbrev pub reply_meant : Result ℕ Unwritten → ReplyOf
reply_meant (Ok k) = written k
reply_meant (Err (Unread r)) = unread (refusal_of r)
reply_meant (Err (NoRoom k)) = no_room k

-- The reason that `?` makes of a refusal of reading.
pub reply_meant_unread : (v : Result ℕ Unwritten) {r : Refusal} → IsErrAnd v (λ e. e ≡ Unread r) → reply_meant v ≡ unread (refusal_of r)
reply_meant_unread v h = let p = err_from_is_err_and v h in ap reply_meant (p.1 ∙ ap (λ e. Err e) p.2)

-- What a reply means settles it.
abbrev reply_for : ReplyOf → Result ℕ Unwritten
reply_for (unread r) = Err (Unread (refusal_for r))
reply_for (no_room k) = Err (NoRoom k)
reply_for (written k) = Ok k

reply_for_meant : (v : Result ℕ Unwritten) → reply_for (reply_meant v) ≡ v
reply_for_meant (Ok k) = refl
reply_for_meant (Err (Unread r)) = refl
reply_for_meant (Err (NoRoom k)) = refl

pub reply_meant_injective : (v w : Result ℕ Unwritten) → reply_meant v ≡ reply_meant w → v ≡ w
reply_meant_injective v w e = sym (reply_for_meant v) ∙ ap reply_for e ∙ reply_for_meant w
