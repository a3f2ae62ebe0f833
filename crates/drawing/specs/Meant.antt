-- What an answer of the code means in the words of the rules.
--   drawn_meant, drawn_meant_injective
--   drawn_unread             what `?` makes of a refusal of reading
use Rattle.std.specs.Prelude.{◌≡◌, refl, Result, Ok, Err, IsErrAnd}
use Rattle.std.proofs.Common.{sym, ap, ◌∙◌}
use Rattle.std.proofs.lemmas.Result.{err_from_is_err_and}
use Rattle.rules.specs.Drawn.{Drawn as DrawnOf, may_pass, turned_away, unread, too_large}
use Rattle.verdict.specs.Meant.{refusal_of, refusal_for}
use Rattle.verdict.specs.declared.Refusal.{Refusal}
use Rattle.drawing.specs.declared.Drawn.{Drawn}
use Rattle.drawing.specs.declared.Drawn.TheVariants.{MayPass, TurnedAway}
use Rattle.drawing.specs.declared.Undrawn.{Undrawn}
use Rattle.drawing.specs.declared.Undrawn.TheVariants.{Unread, TooLarge}

abbrev pub drawn_meant : Result Drawn Undrawn → DrawnOf
drawn_meant (Ok MayPass) = may_pass
drawn_meant (Ok TurnedAway) = turned_away
drawn_meant (Err (Unread r)) = unread (refusal_of r)
drawn_meant (Err (TooLarge place)) = too_large place

-- What `?` makes of a refusal of reading.
pub drawn_unread : (d : Result Drawn Undrawn) {r : Refusal} → IsErrAnd d (λ e. e ≡ Unread r) → drawn_meant d ≡ unread (refusal_of r)
drawn_unread d h = let p = err_from_is_err_and d h in ap drawn_meant (p.1 ∙ ap (λ e. Err e) p.2)

-- It settles the answer.
abbrev drawn_for : DrawnOf → Result Drawn Undrawn
drawn_for may_pass = Ok MayPass
drawn_for turned_away = Ok TurnedAway
drawn_for (unread r) = Err (Unread (refusal_for r))
drawn_for (too_large place) = Err (TooLarge place)

drawn_for_meant : (d : Result Drawn Undrawn) → drawn_for (drawn_meant d) ≡ d
drawn_for_meant (Ok MayPass) = refl
drawn_for_meant (Ok TurnedAway) = refl
drawn_for_meant (Err (Unread r)) = refl
drawn_for_meant (Err (TooLarge place)) = refl

pub drawn_meant_injective : (d e : Result Drawn Undrawn) → drawn_meant d ≡ drawn_meant e → d ≡ e
drawn_meant_injective d e h = sym (drawn_for_meant d) ∙ ap drawn_for h ∙ drawn_for_meant e
