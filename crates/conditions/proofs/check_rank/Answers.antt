use Rattle.std.proofs.Common.{ℕ, List, [], ◌+◌, ◌<◌, get_or, sym, subst, le_of_lt, ◌∙◌}
use Rattle.algebra.specs.Residue.{K}
use Rattle.algebra.specs.Dependence.{Dependent}
use Rattle.layout.specs.Settles.{Settles}
use Rattle.elimination.specs.Grid.{grid}
use Rattle.matrix.specs.Rank.{rank_array_below}
use Rattle.conditions.specs.Findings.{found_low_rank}
use Rattle.conditions.proofs.check_rank.Goals as goal

pub dependent-is_dependent-requires-clause-below : goal.dependent-is_dependent-requires-clause-below
dependent-is_dependent-requires-clause-below c =
    let head = c.args.problem.now.head in
    let answer = c.args.answer.now in
    let sound = c.requires.sound in
    λ i j.
    subst (λ (l : List (List ℕ)). get_or (get_or l i []) j 0 < head.p) (sym c.rank_matrix.ensures)
    (rank_array_below head.p answer.basis.entries answer.c head.m head.n (le_of_lt sound.sound_head.prime.two_le) sound.sound_basis.P_below sound.C_below i j)

pub returns : goal.returns
returns c =
    let head = c.args.problem.now.head in
    c.refuse_if.ensures
    ∙ found_low_rank c.args.problem.now c.args.answer.now c.requires.sound c.dependent-is_dependent.result
    (subst (λ (l : List (List ℕ)). Settles (Dependent (K head.p) head.m (head.m + head.n) (grid head.p l)) c.dependent-is_dependent.result)
    c.rank_matrix.ensures c.dependent-is_dependent.ensures)
