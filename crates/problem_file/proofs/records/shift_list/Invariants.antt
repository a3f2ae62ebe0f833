use mathlib.Core.Path.{◌≡◌}
use lib.ListN.{length, set}
use Rattle.rules.specs.Files.{shift_reader}
use Rattle.storing.specs.Storing.{Kept}
use Rattle.place.specs.Places.{place}
use Rattle.problem_file.proofs.records.shift_list.Given as goal

abbrev pub invariant-loop-shift : goal.invariant-loop-shift
invariant-loop-shift l =
    (length l.out ≡ length l.fn.out)
    × Kept set (λ k. shift_reader) l.s (length l.fn.out) l.fn.out (place l.initial.here) l.shift-index l.out (place l.here)
