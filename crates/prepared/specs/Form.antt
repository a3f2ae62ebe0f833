-- The prepared form that the arrays of a problem hold: every number of each array counts.
use Rattle.std.specs.Prelude.{List, ℕ, get_or}
use Rattle.rules.specs.Sizes.{most_rows, most_order}
use Rattle.rules.specs.Table.{table}
use Rattle.rules.specs.Prepared.{Prepared}
use Rattle.layout.specs.Flat.{shift_at, column_place}
use Rattle.claim.specs.declared.Head.{Head}

abbrev pub form_of : Head → List ℕ → Prepared
form_of head f =
    record {
      p = head.p;
      m = head.m;
      n = head.n;
      orders = table most_rows (λ j. get_or head.orders j 0);
      shifts = table most_rows (shift_at head.shifts);
      F = table most_rows (λ j. table most_rows (λ i. table most_order (λ k. get_or f (column_place i j k) 0)));
    }
