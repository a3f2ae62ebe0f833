-- Each public function's contract leaves one result.
use mathlib.Core.Path.{refl, sym, ◌∙◌}
use Rattle.unique.specs.OneResult.{OneResult}
use Rattle.layout.proofs.no_columns.Kinds as no_columns_kinds
use Rattle.layout.proofs.no_columns.Reads as no_columns
use Rattle.layout.proofs.no_entries.Kinds as no_entries_kinds
use Rattle.layout.proofs.no_entries.Reads as no_entries
use Rattle.layout.proofs.square_place.Kinds as square_place_kinds
use Rattle.layout.proofs.square_place.Reads as square_place
use Rattle.layout.proofs.entry_place.Kinds as entry_place_kinds
use Rattle.layout.proofs.entry_place.Reads as entry_place
use Rattle.layout.proofs.column_place.Kinds as column_place_kinds
use Rattle.layout.proofs.column_place.Reads as column_place

pub no_columns_unique : OneResult no_columns_kinds.ps no_columns_kinds.r no_columns.Asked no_columns.Learnt
no_columns_unique κs a z z' w w' asked h h' = (h ∙ sym h', refl)

pub no_entries_unique : OneResult no_entries_kinds.ps no_entries_kinds.r no_entries.Asked no_entries.Learnt
no_entries_unique κs a z z' w w' asked h h' = (h ∙ sym h', refl)

pub square_place_unique : OneResult square_place_kinds.ps square_place_kinds.r square_place.Asked square_place.Learnt
square_place_unique κs a z z' w w' asked h h' = (h ∙ sym h', refl)

pub entry_place_unique : OneResult entry_place_kinds.ps entry_place_kinds.r entry_place.Asked entry_place.Learnt
entry_place_unique κs a z z' w w' asked h h' = (h ∙ sym h', refl)

pub column_place_unique : OneResult column_place_kinds.ps column_place_kinds.r column_place.Asked column_place.Learnt
column_place_unique κs a z z' w w' asked h h' = (h ∙ sym h', refl)
