-- What an answer of the service means in the words of the rules.
--   basis_meant              an answer: basis_meant_injective
--   basis_meant_unread       what `?` makes of a refusal of reading
--   numbers_stopped          the four numbers where there is no basis
use Rattle.std.specs.Prelude.{◌≡◌, refl, Result, Ok, Err, IsErrAnd}
use Rattle.std.proofs.Common.{sym, ap, ◌∙◌}
use Rattle.std.proofs.lemmas.Result.{err_from_is_err_and}
use Rattle.rules.specs.MakeBasis.{BasisAnswer, basis_unread, basis_no_room, basis_made, basis_numbers}
use Rattle.rules.specs.Reply.{reply_numbers}
use Rattle.verdict.specs.declared.Refusal.{Refusal}
use Rattle.verdict.specs.declared.Unwritten.{Unwritten}
use Rattle.verdict.specs.declared.Unwritten.TheVariants.{Unread, NoRoom}
use Rattle.verdict.specs.Replies.{reply_meant}
use Rattle.verdict.specs.Meant.{refusal_of, refusal_for}
use Rattle.basis_making.specs.declared.Made.{Made}

abbrev pub basis_meant : Result Made Unwritten → BasisAnswer
basis_meant (Ok made) = basis_made made.steps made.bytes
basis_meant (Err (Unread r)) = basis_unread (refusal_of r)
basis_meant (Err (NoRoom k)) = basis_no_room k

-- The reason that `?` makes of a refusal of reading.
pub basis_meant_unread : (v : Result Made Unwritten) {r : Refusal} → IsErrAnd v (λ e. e ≡ Unread r) → basis_meant v ≡ basis_unread (refusal_of r)
basis_meant_unread v h = let p = err_from_is_err_and v h in ap basis_meant (p.1 ∙ ap (λ e. Err e) p.2)

-- Where there is no basis, the four numbers are those of the reply with the same reason.
pub numbers_stopped : (e : Unwritten) → reply_numbers (reply_meant (Err e)) ≡ basis_numbers (basis_meant (Err e))
unfolding reply_numbers basis_numbers
numbers_stopped (Unread r) = refl
numbers_stopped (NoRoom k) = refl

-- It settles the answer.
abbrev basis_for : BasisAnswer → Result Made Unwritten
basis_for (basis_unread r) = Err (Unread (refusal_for r))
basis_for (basis_no_room k) = Err (NoRoom k)
basis_for (basis_made steps k) = Ok (record { steps = steps; bytes = k })

basis_for_meant : (v : Result Made Unwritten) → basis_for (basis_meant v) ≡ v
basis_for_meant (Ok made) = refl
basis_for_meant (Err (Unread r)) = refl
basis_for_meant (Err (NoRoom k)) = refl

pub basis_meant_injective : (v w : Result Made Unwritten) → basis_meant v ≡ basis_meant w → v ≡ w
basis_meant_injective v w e = sym (basis_for_meant v) ∙ ap basis_for e ∙ basis_for_meant w
