-- `answer_file::records::read_entry` meets its contract. Assumes nothing.
use mathlib.Core.Path.{sym, ap, ◌∙◌}
use mathlib.Core.List.{List}
use Prim.Native.Nat.{ℕ}
use native.Mathlib.Omega.{arith}
use lib.ListN.{set}
use Rattle.rules.specs.Sizes.{most_rows, most_length}
use Rattle.rules.specs.Reader.{each, field}
use Rattle.rules.specs.Files.{PE_mark, PE, coefficient_test}
use Rattle.laws.specs.ReaderLaws.{sound_each}
use Rattle.laws.specs.Soundness.{sound_coefficient}
use Rattle.layout.specs.Flat.{square_place, entry_place}
use Rattle.storing.specs.Flat.{put_entry, run_into}
use Rattle.storing.specs.Storing.{into}
use Rattle.storing.specs.Records.{marked, closed_into, list_numbered, record_refused, record_given, refused_into, field_number, beside}
use Rattle.answer_file.specs.Counts.{sound_counts, PE_after_mark}
use Rattle.runs.specs.Rows.{run_gives}
use Rattle.place.specs.Places.{place, going, going_off, error_is}
use Rattle.answer_file.proofs.records.read_entry.Goals as goal

pub run-requires : goal.run-requires
unfolding entry_place most_rows most_length
run-requires c =
    let args = c.args in
    omega
    (arith, c.entry_place.ensures, c.requires, ((sound_counts args.i args.j).gives _ _ (sym c.in_ok-l.ensures)).0)

pub closed-requires : goal.closed-requires
closed-requires c =
    let args = c.args in
    list_numbered 0 c.run.new.out _ _ _ _ _ c.run.result (run_gives c.run.result c.run.new.out _ _ _ _ _ _ _ c.run.ensures)
    (sound_coefficient _ _)
    (omega (arith, field_number _ _ _ _ (marked PE_mark _ c.opened.ensures c.in_ok-q.ensures), ((sound_counts args.i args.j).gives _ _ (sym c.in_ok-l.ensures)).1.number, c.requires.0))

pub returns-in_err-q : goal.returns-in_err-q
unfolding PE
returns-in_err-q c =
    going_off _ (error_is c.from_residual.ensures.1)
    ∙ refused_into _ (record_refused _ (marked PE_mark _ c.opened.ensures c.in_err-q.ensures))

pub returns-in_err-l : goal.returns-in_err-l
returns-in_err-l c =
    going_off _ (error_is c.from_residual-in_err-l.ensures.1)
    ∙ refused_into _
    (PE_after_mark _ _ _ _ _ (marked PE_mark _ c.opened.ensures c.in_ok-q.ensures) ∙ record_refused _ c.in_err-l.ensures)

pub returns : goal.returns
returns c =
    let args = c.args in
    closed_into _ _ c.run.result _ c.closed.ensures (let args = c.args in ap (λ (k : ℕ). going {A = List ℕ × List ℕ} c.run.result (set args.basis.now.lengths k c.in_ok-l.l, c.run.new.out)) c.square_place.ensures ∙ beside (set args.basis.now.lengths (square_place args.i args.j)) c.in_ok-l.l _ _ c.run.result _ (let args = c.args in run_gives c.run.result c.run.new.out _ _ _ _ _ _ _ c.run.ensures ∙ ap (λ (k : ℕ). into (run_into k args.basis.now.entries) (each c.in_ok-l.l (λ k. field 4 (coefficient_test args.p c.in_ok-l.l k)) args.s.now (place c.in_ok-l.q))) c.entry_place.ensures) (λ l q e. ((sound_each 0 c.in_ok-l.l _ (sound_coefficient args.p c.in_ok-l.l)).gives _ _ e).0.size))
    ∙ sym
    (ap (into (put_entry args.i (args.basis.now.lengths, args.basis.now.entries) args.j)) (PE_after_mark _ _ _ _ _ (marked PE_mark _ c.opened.ensures c.in_ok-q.ensures) ∙ record_given _ c.in_ok-l.ensures))
