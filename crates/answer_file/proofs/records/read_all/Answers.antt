-- `answer_file::records::read_all` meets its contract. Assumes nothing.
use mathlib.Core.Path.{◌≡◌, sym, ap, ◌∙◌}
use mathlib.Core.Bool.{Bool}
use mathlib.Core.List.{List, []}
use Prim.Native.Nat.{ℕ}
use native.Mathlib.Omega.{arith}
use Rattle.rules.specs.Sizes.{most_rows}
use Rattle.rules.specs.Reader.{Place}
use Rattle.laws.specs.Soundness.{sound_entries}
use Rattle.answer_file.specs.Values.{answer_parts, answer_parts_refused}
use Rattle.storing.specs.Records.{then_refused, then_given, refused_into}
use Rattle.storing.specs.Flat.{answer_into}
use Rattle.storing.specs.Storing.{into, pour, into_got, into_refused, file_end}
use Rattle.place.specs.Places.{place, going_off, error_is}
use Rattle.answer_file.proofs.records.read_all.Goals as goal

-- What is read where the `CE` record is due, and where it is not.
parts-by : {b b' : Bool} (p m n : ℕ) (s : List ℕ) (q : Place) → b ≡ b' → answer_parts p m n b s q ≡ answer_parts p m n b' s q
parts-by p m n s q e = ap (λ (b : Bool). answer_parts p m n b s q) e

pub returns-in_err-q : goal.returns-in_err-q
returns-in_err-q c =
    going_off _ (error_is c.from_residual.ensures.1)
    ∙ refused_into _ (answer_parts_refused _ _ _ _ _ _ (into_refused _ _ c.in_err-q.ensures))

pub returns-then-not-evidence : goal.returns-then-not-evidence
unfolding answer_parts pour
returns-then-not-evidence c =
    let head = c.args.head.now in
    let room = c.args.answer.now in
    let entries = into_got _ _ c.in_ok-q.ensures in
    file_end (answer_into (room.basis.lengths, room.basis.entries, room.c)) (entries.0, []) _ _
    (λ i. ((entries.2 i).0, (entries.2 i).1, room.c)) c.finish.ensures
    ∙ sym
    (ap (into (answer_into (room.basis.lengths, room.basis.entries, room.c))) (parts-by head.p head.m head.n c.args.s.now (place c.args.q) c.if-not-evidence.true ∙ then_given _ entries.1))

pub read_evidence-requires : goal.read_evidence-requires
unfolding most_rows
read_evidence-requires c =
    let entries = into_got _ _ c.in_ok-q.ensures in
    omega (arith, c.requires, ((sound_entries _ _ c.requires.1).gives _ _ (sym entries.1)).1.number)

pub returns-in_err-q-2 : goal.returns-in_err-q-2
unfolding answer_parts
returns-in_err-q-2 c =
    let head = c.args.head.now in
    let entries = into_got _ _ c.in_ok-q.ensures in
    going_off _ (error_is c.from_residual-in_err-q-2.ensures.1)
    ∙ refused_into _
    (parts-by head.p head.m head.n c.args.s.now (place c.args.q) c.if-not-evidence.false
    ∙ then_given _ entries.1
    ∙ then_refused _ (into_refused _ _ c.in_err-q-2.ensures))

pub returns : goal.returns
unfolding answer_parts
returns c =
    let head = c.args.head.now in
    let room = c.args.answer.now in
    let entries = into_got _ _ c.in_ok-q.ensures in
    let evidence = into_got _ _ c.in_ok-q-2.ensures in
    file_end (answer_into (room.basis.lengths, room.basis.entries, room.c)) (entries.0, evidence.0) _ _
    (λ i. ((entries.2 i).0, (entries.2 i).1, evidence.2 i)) c.finish-2.ensures
    ∙ sym
    (ap (into (answer_into (room.basis.lengths, room.basis.entries, room.c)))
    (parts-by head.p head.m head.n c.args.s.now (place c.args.q) c.if-not-evidence.false ∙ then_given _ entries.1 ∙ then_given _ evidence.1))
