-- A problem that was read is given, by the file that it was read from.
use Rattle.std.specs.Prelude.{◌≡◌, List, ℕ, get_or, Result, Ok, Err, OnOk}
use Rattle.std.proofs.Common.{sym, ◌∙◌}
use Rattle.rules.specs.Sizes.{most_rows, most_order}
use Rattle.rules.specs.Matrices.{order, shift, at}
use Rattle.rules.specs.Files.{read_problem}
use Rattle.rules.specs.Table.{table, table_cong}
use Rattle.rules.specs.Prepared.{Gives}
use Rattle.laws.specs.ByteNumbers.{AllBytes}
use Rattle.layout.specs.Flat.{shift_at, column_place, column_cell_at}
use Rattle.claim.specs.declared.Problem.{Problem as ProblemArrays}
use Rattle.verdict.specs.declared.Refusal.{Refusal}
use Rattle.problem_file.specs.Values.{problem_value}
use Rattle.reader.specs.Readings.{after, problem_exact}
use Rattle.prepared.specs.Form.{form_of}

pub reading_gives : (s : List ℕ) → AllBytes s → {x : ProblemArrays} → (Ok tt, x) ≡ problem_value (read_problem s) → Gives s (form_of x.head x.f)
reading_gives s bytes {x} e =
    let (b, reads, exact) = problem_exact s e in
    let head = x.head in
    let f = x.f in
    record {
      bytes = bytes;
      problem = b;
      after = after (read_problem s);
      reads = reads;
      form = λ t. record {
        p = exact.same_p t;
        m = exact.same_m t;
        n = exact.same_n t;
        orders = table_cong most_rows (order b) (λ j. get_or head.orders j 0) (λ j hj. sym (exact.orders j)) t;
        shifts = table_cong most_rows (shift b) (shift_at head.shifts) (λ i hi. sym (exact.shifts i)) t;
        F = table_cong most_rows (λ j. table most_rows (λ i. table most_order (λ k. get_or (at b.F j i) k 0)))
            (λ j. table most_rows (λ i. table most_order (λ k. get_or f (column_place i j k) 0)))
            (λ j hj. table_cong most_rows _ _ (λ i hi.
            table_cong most_order _ _ (λ k hk. sym (exact.cells i j k hi) ∙ column_cell_at f i j k hk))) t;
      };
    }

-- The same of a reading that may be refused.
pub gives_on_ok : (s : List ℕ) → AllBytes s → (r : Result (Unit {0}) Refusal) {x : ProblemArrays} → (r, x) ≡ problem_value (read_problem s)
    → OnOk r (Gives s (form_of x.head x.f))
gives_on_ok s bytes (Ok u) e = reading_gives s bytes e
gives_on_ok s bytes (Err y) e = tt
