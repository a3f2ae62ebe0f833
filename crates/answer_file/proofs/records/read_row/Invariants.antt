use Prim.Native.Nat.{◌+◌, ◌≤◌}
use Rattle.rules.specs.Files.{PE}
use Rattle.storing.specs.Flat.{put_entry}
use Rattle.storing.specs.Storing.{Kept}
use Rattle.place.specs.Places.{place}
use Rattle.answer_file.proofs.records.read_row.Given as goal

abbrev pub invariant-loop-j : goal.invariant-loop-j
invariant-loop-j l =
    (l.here.number ≤ l.initial.here.number + l.j)
    × Kept (put_entry l.i) (λ k. PE l.p l.i k) l.s l.m (l.initial.basis.lengths, l.initial.basis.entries) (place l.initial.here) l.j (l.basis.lengths, l.basis.entries) (place l.here)
