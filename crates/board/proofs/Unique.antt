-- Each public function's contract leaves one result and, of what is lent, every byte at the end.
use mathlib.Core.Path.{refl, sym, ◌∙◌}
use Rattle.unique.specs.OneResult.{OneResult}
use Rattle.board.specs.Lent.{head_with, judged_as_unique}
use Rattle.board.proofs.judge.Kinds as judge_kinds
use Rattle.board.proofs.judge.Reads as judge
use Rattle.board.proofs.make_evidence.Kinds as make_evidence_kinds
use Rattle.board.proofs.make_evidence.Reads as make_evidence
use Rattle.board.proofs.judge_drawn.Kinds as judge_drawn_kinds
use Rattle.board.proofs.judge_drawn.Reads as judge_drawn
use Rattle.board.proofs.make_basis.Kinds as make_basis_kinds
use Rattle.board.proofs.make_basis.Reads as make_basis
use Rattle.board.proofs.prepare.Kinds as prepare_kinds
use Rattle.board.proofs.prepare.Reads as prepare
use Rattle.board.proofs.judge_prepared.Kinds as judge_prepared_kinds
use Rattle.board.proofs.judge_prepared.Reads as judge_prepared

pub judge_unique : OneResult judge_kinds.ps judge_kinds.r judge.Asked judge.Learnt
judge_unique κs a z z' w w' asked h h' = (h ∙ sym h', refl)

pub make_evidence_unique : OneResult make_evidence_kinds.ps make_evidence_kinds.r make_evidence.Asked make_evidence.Learnt
make_evidence_unique κs a z z' w w' asked h h' = (h.0 ∙ sym h'.0, λ i. (tt, (tt, ((h.1 ∙ sym h'.1) i, tt))))

pub judge_drawn_unique : OneResult judge_drawn_kinds.ps judge_drawn_kinds.r judge_drawn.Asked judge_drawn.Learnt
judge_drawn_unique κs a z z' w w' asked h h' = (h ∙ sym h', refl)

pub make_basis_unique : OneResult make_basis_kinds.ps make_basis_kinds.r make_basis.Asked make_basis.Learnt
make_basis_unique κs a z z' w w' asked h h' = (h.0 ∙ sym h'.0, λ i. (tt, (tt, ((h.1 ∙ sym h'.1) i, tt))))

pub prepare_unique : OneResult prepare_kinds.ps prepare_kinds.r prepare.Asked prepare.Learnt
prepare_unique κs a z z' w w' asked h h' =
    let e = h.1 ∙ sym h'.1 in (
      h.0 ∙ sym h'.0,
      λ i. (tt, ((e i).head.p, ((e i).head.m, ((e i).head.n, ((e i).head.orders, ((e i).head.shifts, ((e i).f, tt))))))),
    )

pub judge_prepared_unique : OneResult judge_prepared_kinds.ps judge_prepared_kinds.r judge_prepared.Asked judge_prepared.Learnt
judge_prepared_unique κs a z z' w w' asked h h' = (
  judged_as_unique (head_with a.0 a.1.0 a.1.1.0 a.1.1.1.0.now a.1.1.1.1.0.now)
      a.1.1.1.1.1.0.now a.1.1.1.1.1.1.0.now z z' h h',
  refl,
)
