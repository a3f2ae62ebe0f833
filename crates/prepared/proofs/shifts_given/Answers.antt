use Rattle.std.proofs.Common.{rules, ◌≡◌, ◌<◌, ◌-◌, length, take, drop, ℕ, ℤ, pos, List, true, arith}
use Rattle.std.specs.Prelude.{◌↔◌}
use Rattle.rules.specs.Sizes.{most_rows, most_order}
use Rattle.layout.specs.Flat.{shift_at}
use Rattle.prepared.specs.Canonical.{Shift}
use Rattle.prepared.proofs.Parts.{parts_given}
use Rattle.prepared.proofs.shifts_given.Goals as goal

pub returns-then-are_shifts : goal.returns-then-are_shifts
unfolding most_rows most_order
returns-then-are_shifts c =
    let a = c.args in
    let used : List ℤ = take a.m a.shifts.now in
    let unused : List ℤ = take (4 - a.m) (drop a.m a.shifts.now) in
    let first : (i : ℕ) → i < length used → Shift true (shift_at used i) = search rules in
    let rest : (c.all.result ≡ true) ↔ ((i : ℕ) → i < length unused → shift_at unused i ≡ pos 0) = search rules in
    parts_given Shift (pos 0) 4 a.m a.shifts.now c.all.result c.requires (omega arith) first rest
