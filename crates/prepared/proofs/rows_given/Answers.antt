use Rattle.std.proofs.Common.{arith, rules, refl, ◌<◌, ◌+◌, ◌-◌, ◌*◌, take, drop, ℕ}
use Rattle.std.proofs.lemmas.Iterator.{YieldsList-from_range, cases_from_all}
use Rattle.rules.specs.Sizes.{most_rows, most_order}
use Rattle.layout.specs.Flat.{column_place}
use Rattle.prepared.specs.Canonical.{Row}
use Rattle.prepared.specs.Settling.{settled_by}
use Rattle.prepared.proofs.Parts.{row_part, all_given}
use Rattle.prepared.proofs.rows_given.Goals as goal

pub returns : goal.returns
unfolding column_place most_rows most_order
returns c =
    let a = c.args in
    let Given : ℕ → Type 0 = λ i. Row a.p a.d (take ((i + 1) * 16 - i * 16) (drop (i * 16) a.column.now)) 0 in
    settled_by
    (λ h i b. (row_part a.p a.d (i * 16) ((i + 1) * 16 - i * 16) 0 (column_place i 0 0) a.column.now (omega arith) (omega arith) (omega arith)).0 (h i b))
    (λ h i b. (row_part a.p a.d (i * 16) ((i + 1) * 16 - i * 16) 0 (column_place i 0 0) a.column.now (omega arith) (omega arith) (omega arith)).1 (h i b))
    (all_given a.m Given c.all.result
    (cases_from_all _ _ c.all.result (λ i. i < a.m → Given i) (λ i. i < a.m → ¬ Given i) c.all.ensures.ran (YieldsList-from_range 0 a.m a.m refl (omega arith))
    (λ x q k. (search rules, λ b. search rules)) (λ x q k b. search rules)))
