use Rattle.std.proofs.Common.{sym, ap, subst, ◌∙◌, ◌≤◌, zero-le, arith, length, length-take}
use Rattle.rules.specs.Sizes.{most_rows, most_length}
use Rattle.rules.specs.RecordBytes.{evidence_bytes}
use Rattle.rules.specs.Evidence.{evidence_of}
use Rattle.rules.specs.Writer.{write_CE}
use Rattle.laws.specs.WriterLaws.{rectangle_most}
use Rattle.writer.specs.Appended.{Appended, appended_within}
use Rattle.claim.specs.declared.Problem.{Problem}
use Rattle.claim.specs.Claims.{problem_in, basis_in}
use Rattle.claim.specs.Sound.{SoundProblem, SoundBasis}
use Rattle.basis_making.specs.Text.{entry_room}
use Rattle.basis_making.specs.Cut.{cut_sound}
use Rattle.basis_making.specs.Answer.{square_fits, basis_short, lengths_short, basis_sound, answer_put}
use Rattle.basis_making.proofs.put_answer.Goals as goal

pub put_basis-end-requires : goal.put_basis-end-requires
put_basis-end-requires c =
    let head = c.requires.sound.0.sound_head in
    record {
      entry_room_in_bounds = omega (arith, c.requires.done_le_most_order.1, square_fits c.args.problem.now.head.m entry_room head.rows_most);
      m_le_most_rows = (
        head.rows_most,
        lengths_short c.args.problem.now c.requires.sound.1 c.args.done c.requires.done_le_most_order.0 c.basis_after-basis.result c.basis_after-basis.ensures,
      );
    }

pub put_evidence-count-requires : goal.put_evidence-count-requires
unfolding most_rows
put_evidence-count-requires c =
    let b = c.args.problem.now in
    let P = c.basis_after-basis.result in
    let (sound, valid) = c.requires.sound in
    let cut_is = sym c.cut_problem-cut.ensures in
    record {
      sound = (
        subst SoundProblem cut_is (cut_sound b c.args.done sound),
        subst (λ (x : Problem). SoundBasis x.head P.lengths P.entries) cut_is
            (basis_sound b valid c.args.done c.requires.done_le_most_order.0 P c.basis_after-basis.ensures),
      );
      n_in_bounds =
          subst (λ (x : Problem). evidence_bytes x.head.m x.head.n ≤ 66) cut_is
          (omega (arith, rectangle_most sound.sound_head.rows_most sound.sound_head.columns_most));
    }

pub put_text-requires : goal.put_text-requires
unfolding most_rows most_length
put_text-requires c =
    let b = c.args.problem.now in
    let P = c.basis_after-basis.result in
    let recorded = c.put_evidence-count in
    let short = lengths_short b c.requires.sound.1 c.args.done c.requires.done_le_most_order.0 P c.basis_after-basis.ensures in
    -- the record lies within its array
    let within : recorded.result ≤ length recorded.new.out = appended_within _ recorded.new.out 0 recorded.result _ zero-le recorded.ensures in
    simp length-take (omega (
      arith,
      c.requires.done_le_most_order.1,
      c.put_basis-end.ensures.ends,
      c.put_basis-end.ensures.same_length,
      recorded.ensures.same_length,
      basis_short P short b.head.m,
      square_fits b.head.m entry_room c.requires.sound.0.sound_head.rows_most,
    ))

pub returns : goal.returns
returns c =
    let b = c.args.problem.now in
    let P = c.basis_after-basis.result in
    let put = c.put_text in
    let (sound, valid) = c.requires.sound in
    answer_put b valid c.args.done c.requires.done_le_most_order.0 P c.basis_after-basis.ensures sound _ _ _ _ _ c.put_basis-end.ensures
    (subst (Appended c.put_basis-end.new.out put.new.out c.put_basis-end.result put.result)
    (c.put_evidence-count.ensures.holds ∙ ap (λ (x : Problem). write_CE (evidence_of (problem_in x) (basis_in x.head.m P))) c.cut_problem-cut.ensures)
    put.ensures)
