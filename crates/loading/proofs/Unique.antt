-- Each public function's contract leaves one result, where that does not come from outside.
use mathlib.Core.Path.{refl, sym, ◌∙◌}
use Rattle.unique.specs.OneResult.{OneResult}
use Rattle.loading.proofs.file_room.Kinds as file_room_kinds
use Rattle.loading.proofs.file_room.Reads as file_room

pub file_room_unique : OneResult file_room_kinds.ps file_room_kinds.r file_room.Asked file_room.Learnt
file_room_unique κs a z z' w w' asked h h' = (h ∙ sym h', refl)
