-- The contract of `choose` leaves one result.
use Rattle.std.proofs.Common.{◌≡◌, refl, sym, ap₂, ◌∙◌, List, ℕ, ◌<◌, le_of_lt, ext_get_or}
use Rattle.unique.specs.OneResult.{OneResult}
use Rattle.rules.specs.Maker.{Chosen}
use Rattle.pivots.specs.declared.Choice.{Choice}
use Rattle.pivots.specs.Rows.{number_of_residue, square_ext}
use Rattle.pivots.specs.State.{Chose}
use Rattle.pivots.proofs.choose.Kinds as choose_kinds
use Rattle.pivots.proofs.choose.Reads as choose

chose_unique : {p : ℕ} {c : Chosen p} → 0 < p → (z z' : Choice) → Chose p c z.moves z.factors → Chose p c z'.moves z'.factors → z ≡ z'
chose_unique {p} positive z z' h h' =
    ap₂ (λ (m f : List ℕ). record { moves = m; factors = f })
    (ext_get_or 0 z.moves z'.moves (h.moves_full ∙ sym h'.moves_full) (λ i hi. h.moves_is i ∙ sym (h'.moves_is i)))
    (square_ext z.factors z'.factors h.factors_full h'.factors_full
    (λ i q hi hq. number_of_residue p _ _ positive (h.factors_below _) (h'.factors_below _) (h.factors_is i q hi hq ∙ sym (h'.factors_is i q hi hq))))

pub choose_unique : OneResult choose_kinds.ps choose_kinds.r choose.Asked choose.Learnt
choose_unique κs a z z' w w' asked h h' = (chose_unique (le_of_lt asked.0.two_le) z z' h h', refl)
