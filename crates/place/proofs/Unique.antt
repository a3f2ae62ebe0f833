-- Each public function's contract leaves one result.
use mathlib.Core.Path.{refl, sym, ◌∙◌}
use Rattle.unique.specs.OneResult.{OneResult}
use Rattle.place.specs.Places.{place_one}
use Rattle.place.proofs.front.Kinds as front_kinds
use Rattle.place.proofs.front.Reads as front
use Rattle.place.proofs.opened.Kinds as opened_kinds
use Rattle.place.proofs.opened.Reads as opened
use Rattle.place.proofs.past.Kinds as past_kinds
use Rattle.place.proofs.past.Reads as past
use Rattle.place.proofs.after.Kinds as after_kinds
use Rattle.place.proofs.after.Reads as after
use Rattle.place.proofs.closed.Kinds as closed_kinds
use Rattle.place.proofs.closed.Reads as closed
use Rattle.place.proofs.finish.Kinds as finish_kinds
use Rattle.place.proofs.finish.Reads as finish

pub front_unique : OneResult front_kinds.ps front_kinds.r front.Asked front.Learnt
front_unique κs a z z' w w' asked h h' = (place_one z z' (h ∙ sym h'), refl)

pub opened_unique : OneResult opened_kinds.ps opened_kinds.r opened.Asked opened.Learnt
opened_unique κs a z z' w w' asked h h' = (h ∙ sym h', refl)

pub past_unique : OneResult past_kinds.ps past_kinds.r past.Asked past.Learnt
past_unique κs a z z' w w' asked h h' = (place_one z z' (h ∙ sym h'), refl)

pub after_unique : OneResult after_kinds.ps after_kinds.r after.Asked after.Learnt
after_unique κs a z z' w w' asked h h' = (h ∙ sym h', refl)

pub closed_unique : OneResult closed_kinds.ps closed_kinds.r closed.Asked closed.Learnt
closed_unique κs a z z' w w' asked h h' = (h ∙ sym h', refl)

pub finish_unique : OneResult finish_kinds.ps finish_kinds.r finish.Asked finish.Learnt
finish_unique κs a z z' w w' asked h h' = (h ∙ sym h', refl)
