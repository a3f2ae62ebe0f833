use Prim.Native.Nat.{◌+◌, ◌*◌, ◌≤◌}
use Rattle.rules.specs.Sizes.{most_rows}
use Rattle.rules.specs.Reader.{each}
use Rattle.rules.specs.Files.{PE}
use Rattle.storing.specs.Flat.{row_into}
use Rattle.storing.specs.Storing.{Kept}
use Rattle.place.specs.Places.{place}
use Rattle.answer_file.proofs.records.read_entries.Given as goal

abbrev pub invariant-loop-i : goal.invariant-loop-i
invariant-loop-i l =
    (l.here.number ≤ l.initial.here.number + l.i * most_rows)
    × Kept row_into (λ k. each l.m (λ j. PE l.p k j)) l.s l.m (l.initial.basis.lengths, l.initial.basis.entries) (place l.initial.here) l.i (l.basis.lengths, l.basis.entries) (place l.here)
