use mathlib.Core.Path.{◌≡◌}
use Prim.Native.Nat.{◌+◌, ◌≤◌}
use lib.ListN.{length, get_or}
use Rattle.rules.specs.Files.{FC}
use Rattle.storing.specs.Flat.{put_column}
use Rattle.storing.specs.Storing.{Kept}
use Rattle.place.specs.Places.{place}
use Rattle.problem_file.proofs.records.read_columns.Given as goal

abbrev pub invariant-loop-j : goal.invariant-loop-j
invariant-loop-j l =
    (length l.out ≡ length l.initial.out)
    × (l.here.number ≤ l.initial.here.number + l.j)
    × Kept put_column (λ k. FC l.head.p l.head.m (get_or l.head.orders k 0) k) l.s l.head.n l.initial.out (place l.initial.here) l.j l.out (place l.here)
