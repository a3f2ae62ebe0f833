use Rattle.std.proofs.Common.{arith, rules, refl, ℕ, ◌<◌, ◌≤◌, ◌+◌, ◌-◌, ◌*◌, take, drop, get_or, subst, lt-ltb}
use Rattle.std.specs.Prelude.{◌↔◌}
use Rattle.std.proofs.lemmas.Iterator.{YieldsList-from_range, cases_from_all}
use Rattle.claim.specs.declared.Problem.{Problem}
use Rattle.rules.specs.Sizes.{most_rows, most_order}
use Rattle.layout.specs.Flat.{column_place}
use Rattle.prepared.specs.Canonical.{Order, Orders, Column}
use Rattle.prepared.specs.Settling.{settled_no, settled_by}
use Rattle.prepared.proofs.Parts.{below_part, length_part, column_part, all_given}
use Rattle.prepared.proofs.columns_given.Goals as goal

-- A column as it is lent is one of F.
abbrev Lent : Problem → ℕ → Type 0
Lent b j = Column b.head.p b.head.m (get_or b.head.orders j 0) (take ((j + 1) * 64 - j * 64) (drop (j * 64) b.f)) 0

lent_column : (b : Problem) (j : ℕ) → b.head.m ≤ most_rows → b.head.n ≤ most_rows → Orders b.head.n b.head.orders → j < b.head.n
    → Lent b j ↔ Column b.head.p b.head.m (get_or b.head.orders j 0) b.f j
unfolding column_place most_rows most_order
lent_column b j rows columns orders inside =
    let order : ℕ = get_or b.head.orders j 0 in
    let small : order ≤ most_order = (subst (λ t. Order t order) (lt-ltb j b.head.n inside) (orders j (omega arith))).1 in
    column_part b.head.p b.head.m order j (j * 64) ((j + 1) * 64 - j * 64) b.f rows small (omega arith) (omega arith)

pub returns-then-all : goal.returns-then-all
unfolding column_place most_rows most_order
returns-then-all c =
    let b = c.args.problem.now in
    let lent = λ (j : ℕ). lent_column b j c.requires.m_le_most_rows.0 c.requires.m_le_most_rows.1 c.requires.orders in
    let all = all_given b.head.n (Lent b) c.all.result
    (cases_from_all _ _ c.all.result (λ j. j < b.head.n → Lent b j) (λ j. j < b.head.n → ¬ Lent b j) c.all.ensures.ran
    (YieldsList-from_range 0 b.head.n b.head.n refl (omega arith)) (λ x q k. (search rules, λ h. search rules)) (λ x q k h. search rules)) in
    let start = b.head.n * 64 in
    let long = length_part start (256 - start) b.f (omega arith) in
    let rest = below_part start (256 - start) 1 b.f (omega arith) (omega arith) (omega arith) in
    settled_by (λ zeros. record { columns = λ j h. (lent j h).0 (all.holds c.if-all.true j h); no_more = rest.0 zeros }) (λ h. rest.1 h.no_more) c.zeros.ensures

pub returns-else-all : goal.returns-else-all
returns-else-all c =
    let b = c.args.problem.now in
    let lent = λ (j : ℕ). lent_column b j c.requires.m_le_most_rows.0 c.requires.m_le_most_rows.1 c.requires.orders in
    let all = all_given b.head.n (Lent b) c.all.result
    (cases_from_all _ _ c.all.result (λ j. j < b.head.n → Lent b j) (λ j. j < b.head.n → ¬ Lent b j) c.all.ensures.ran
    (YieldsList-from_range 0 b.head.n b.head.n refl (omega arith)) (λ x q k. (search rules, λ h. search rules)) (λ x q k h. search rules)) in
    rw c.if-all.false (settled_no (λ h. all.fails c.if-all.false (λ j b. (lent j b).1 (h.columns j b))))
