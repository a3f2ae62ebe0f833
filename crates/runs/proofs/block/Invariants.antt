use mathlib.Core.Path.{◌≡◌}
use lib.ListN.{length}
use Rattle.place.specs.Places.{place}
use Rattle.runs.specs.Stored.{Reached}
use Rattle.runs.specs.Rows.{block_step}
use Rattle.runs.proofs.block.Given as goal

abbrev pub invariant-loop-i : goal.invariant-loop-i
invariant-loop-i l =
    (length l.out ≡ length l.initial.out)
    × Reached (block_step l.p l.count l.base l.stride l.s) l.rows l.initial.out (place l.initial.here) l.i l.out (place l.here)
