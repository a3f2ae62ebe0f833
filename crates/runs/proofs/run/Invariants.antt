use mathlib.Core.Path.{◌≡◌}
use lib.ListN.{length}
use Rattle.place.specs.Places.{place}
use Rattle.runs.specs.Stored.{Reached}
use Rattle.runs.specs.Rows.{run_step}
use Rattle.runs.proofs.run.Given as goal

abbrev pub invariant-loop-k : goal.invariant-loop-k
invariant-loop-k l =
    (length l.out ≡ length l.initial.out)
    × Reached (run_step l.p l.last l.base l.s) l.count l.initial.out (place l.initial.here) l.k l.out (place l.here)
