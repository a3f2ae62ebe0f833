-- The contract of `basis_after` leaves one result.
use Rattle.std.proofs.Common.{◌≡◌, refl, sym, ap₂, ◌∙◌, List, ℕ}
use Rattle.unique.specs.OneResult.{OneResult}
use Rattle.rules.specs.Claim.{Problem}
use Rattle.claim.specs.declared.Basis.{Basis}
use Rattle.pivots.specs.Rows.{square_ext}
use Rattle.stepping.specs.Filled.{entries_ext}
use Rattle.iteration.specs.Made.{BasisAfter}
use Rattle.iteration.proofs.basis_after.Kinds as basis_after_kinds
use Rattle.iteration.proofs.basis_after.Reads as basis_after

basis_unique : {b : Problem} {k : ℕ} (z z' : Basis) → BasisAfter b k z.lengths z.entries → BasisAfter b k z'.lengths z'.entries → z ≡ z'
basis_unique z z' h h' =
    ap₂ (λ (l e : List ℕ). record { lengths = l; entries = e })
    (square_ext z.lengths z'.lengths h.lengths_full h'.lengths_full (λ i j hi hj. h.lengths_are i j hi hj ∙ sym (h'.lengths_are i j hi hj)))
    (entries_ext z.entries z'.entries h.kept.full h'.kept.full (λ i j t hi hj ht. h.hold i j t hi hj ht ∙ sym (h'.hold i j t hi hj ht)))

pub basis_after_unique : OneResult basis_after_kinds.ps basis_after_kinds.r basis_after.Asked basis_after.Learnt
basis_after_unique κs a z z' w w' asked h h' = (basis_unique z z' h h', refl)
