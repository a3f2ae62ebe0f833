-- `problem_file::records::read_column` meets its contract. Assumes nothing.
use mathlib.Core.Path.{sym, ap, ◌∙◌}
use mathlib.Core.List.{[]}
use Prim.Native.Nat.{ℕ}
use lib.ListN.{get_or}
use native.Mathlib.Omega.{arith}
use Rattle.rules.specs.Sizes.{most_order}
use Rattle.rules.specs.Reader.{each, field}
use Rattle.rules.specs.Files.{FC_mark, FC, residue}
use Rattle.laws.specs.Soundness.{sound_row}
use Rattle.place.specs.Places.{going_off, error_is}
use Rattle.storing.specs.Flat.{put_column, block_into}
use Rattle.storing.specs.Storing.{into}
use Rattle.storing.specs.Records.{marked, closed_into, list_numbered, record_refused, record_given, refused_into, field_number}
use Rattle.runs.specs.Rows.{block_gives}
use Rattle.place.specs.Places.{place}
use Rattle.problem_file.proofs.records.read_column.Goals as goal

pub closed-requires : goal.closed-requires
closed-requires c =
    list_numbered [] c.block.new.out _ _ _ _ _ c.block.result (block_gives c.block.result c.block.new.out _ _ _ _ _ _ _ _ c.block.ensures)
    (λ i. sound_row _ _)
    (omega (arith, field_number _ _ _ _ (marked FC_mark _ c.opened.ensures c.in_ok-q.ensures), field_number _ _ _ _ c.in_ok-q-2.ensures))

pub returns-in_err-q : goal.returns-in_err-q
unfolding FC
returns-in_err-q c =
    going_off _ (error_is c.from_residual.ensures.1)
    ∙ refused_into _ (record_refused _ (marked FC_mark _ c.opened.ensures c.in_err-q.ensures))

pub returns-in_err-q-2 : goal.returns-in_err-q-2
unfolding FC
returns-in_err-q-2 c =
    going_off _ (error_is c.from_residual-in_err-q-2.ensures.1)
    ∙ refused_into _
    (record_given _ (marked FC_mark _ c.opened.ensures c.in_ok-q.ensures) ∙ record_refused _ c.in_err-q-2.ensures)

pub returns : goal.returns
unfolding FC most_order
returns c =
    let args = c.args in
    closed_into _ _ c.block.result _ c.closed.ensures (block_gives c.block.result c.block.new.out _ _ _ _ _ _ _ _ c.block.ensures ∙ ap (λ (b : ℕ). into (block_into b most_order args.out.now) (each args.head.now.m (λ i. each (get_or args.head.now.orders args.j 0) (λ k. field 4 (residue args.head.now.p))) args.s.now (place c.in_ok-q-2.q))) c.column_place.ensures)
    ∙ sym
    (ap (into (put_column args.out.now args.j)) (record_given _ (marked FC_mark _ c.opened.ensures c.in_ok-q.ensures) ∙ record_given _ c.in_ok-q-2.ensures))
