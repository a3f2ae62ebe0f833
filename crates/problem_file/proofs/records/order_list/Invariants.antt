use mathlib.Core.Path.{◌≡◌}
use lib.ListN.{length, set}
use Rattle.rules.specs.Sizes.{most_order}
use Rattle.rules.specs.Reader.{field, unless}
use Rattle.rules.specs.Files.{one_to}
use Rattle.storing.specs.Storing.{Kept}
use Rattle.place.specs.Places.{place}
use Rattle.problem_file.proofs.records.order_list.Given as goal

abbrev pub invariant-loop-order : goal.invariant-loop-order
invariant-loop-order l =
    (length l.out ≡ length l.fn.out)
    × Kept set (λ k. field 1 (unless 3 (one_to most_order))) l.s (length l.fn.out) l.fn.out (place l.initial.here) l.order-index l.out (place l.here)
