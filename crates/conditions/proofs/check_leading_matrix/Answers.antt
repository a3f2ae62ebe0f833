use Rattle.std.proofs.Common.{◌≡◌, ℕ, List, [], ◌<◌, get_or, sym, subst, le_of_lt, ◌∙◌}
use Rattle.algebra.specs.Residue.{K}
use Rattle.algebra.specs.Det.{det}
use Rattle.layout.specs.Settles.{Settles}
use Rattle.elimination.specs.Grid.{grid}
use Rattle.matrix.specs.Leading.{leading_array_below}
use Rattle.conditions.specs.Findings.{found_not_reduced}
use Rattle.conditions.proofs.check_leading_matrix.Goals as goal

pub singular-is_singular-requires-clause-below : goal.singular-is_singular-requires-clause-below
singular-is_singular-requires-clause-below c =
    let head = c.args.problem.now.head in
    let basis = c.args.answer.now.basis in
    let sound = c.requires.sound in
    λ i j.
    subst (λ (l : List (List ℕ)). get_or (get_or l i []) j 0 < head.p) (sym c.leading_matrix-leading.ensures)
    (leading_array_below head.p basis.entries basis.lengths head.shifts head.m (le_of_lt sound.sound_head.prime.two_le) sound.sound_basis.P_below i j)

pub returns : goal.returns
returns c =
    let head = c.args.problem.now.head in
    c.refuse_if.ensures
    ∙ found_not_reduced c.args.problem.now c.args.answer.now c.requires.sound c.singular-is_singular.result
    (subst (λ (l : List (List ℕ)). Settles (det (K head.p) head.m (grid head.p l) ≡ (K head.p).𝟘) c.singular-is_singular.result)
    c.leading_matrix-leading.ensures c.singular-is_singular.ensures)
