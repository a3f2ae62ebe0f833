-- `answer_file::records::read_evidence` meets its contract. Assumes nothing.
use mathlib.Core.Path.{sym, ap, ◌∙◌}
use mathlib.Core.List.{[]}
use native.Mathlib.Omega.{arith}
use Rattle.rules.specs.Sizes.{most_rows}
use Rattle.rules.specs.Files.{CE_mark, CE}
use Rattle.laws.specs.Soundness.{sound_row}
use Rattle.place.specs.Places.{going_off, error_is}
use Rattle.storing.specs.Flat.{evidence_into}
use Rattle.storing.specs.Storing.{into}
use Rattle.storing.specs.Records.{marked, closed_into, list_numbered, record_refused, record_given, refused_into, field_number}
use Rattle.runs.specs.Rows.{block_gives}
use Rattle.answer_file.proofs.records.read_evidence.Goals as goal

pub closed-requires : goal.closed-requires
closed-requires c =
    list_numbered [] c.block.new.out _ _ _ _ _ c.block.result (block_gives c.block.result c.block.new.out _ _ _ _ _ _ _ _ c.block.ensures)
    (λ i. sound_row _ _) (omega (arith, field_number _ _ _ _ (marked CE_mark _ c.opened.ensures c.in_ok-q.ensures)))

pub returns-in_err-q : goal.returns-in_err-q
unfolding CE
returns-in_err-q c =
    going_off _ (error_is c.from_residual.ensures.1)
    ∙ refused_into _ (record_refused _ (marked CE_mark _ c.opened.ensures c.in_err-q.ensures))

pub returns : goal.returns
unfolding CE most_rows
returns c =
    closed_into _ _ c.block.result _ c.closed.ensures (block_gives c.block.result c.block.new.out _ _ _ _ _ _ _ _ c.block.ensures)
    ∙ sym (ap (into (evidence_into c.args.out.now)) (record_given _ (marked CE_mark _ c.opened.ensures c.in_ok-q.ensures)))
