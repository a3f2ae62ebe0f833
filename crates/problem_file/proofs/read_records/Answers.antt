-- `problem_file::read_records` meets its contract. Assumes nothing.
use Rattle.std.proofs.Common.{◌≡◌, sym, ap, ◌∙◌, ℕ, List, arith}
use Rattle.rules.specs.Reader.{Place, Result, front}
use Rattle.rules.specs.Files.{PR}
use Rattle.laws.specs.Soundness.{sound_PR}
use Rattle.place.specs.Places.{place, going_off, error_is}
use Rattle.storing.specs.Records.{refused_into}
use Rattle.storing.specs.Flat.{body_into}
use Rattle.storing.specs.Storing.{into}
use Rattle.problem_file.specs.Values.{problem_arrays, body_reader, body_gives, head_refused, head_given}
use Rattle.problem_file.proofs.read_records.Goals as goal

-- The head is read at the file's front.
at-front : (s : List ℕ) {x : Result (ℕ × ℕ × ℕ)} {q : Place} → x ≡ PR s q → q ≡ front 0 → x ≡ PR s (front 0)
at-front s e at = e ∙ ap (λ (p : Place). PR s p) at

pub returns-in_err-sizes : goal.returns-in_err-sizes
returns-in_err-sizes c =
    going_off _ (error_is c.from_residual.ensures.1)
    ∙ refused_into _ (head_refused c.args.s.now (at-front c.args.s.now c.in_err-sizes.ensures c.front.ensures))

pub read_body-requires-clause-number_bound : goal.read_body-requires-clause-number_bound
read_body-requires-clause-number_bound c =
    let known = sound_PR.gives c.args.s.now (front 0) (sym (at-front c.args.s.now c.in_ok-sizes.ensures c.front.ensures)) in
    omega (arith, known.1.number, known.0.rows_most, known.0.columns_most)

pub returns : goal.returns
returns c =
    let sizes = c.in_ok-sizes.sizes in
    let read = c.read_body.ensures in
    body_gives c.read_body.result c.read_body.new.problem _ _ _ _ read.kept
    (read.read
    ∙ (λ i.
    into (body_into ((c.no_head-problem.ensures i).orders, (c.no_head-problem.ensures i).shifts, c.requires i))
    (body_reader sizes.p sizes.m sizes.n c.args.s.now (place c.in_ok-sizes.q))))
    ∙ ap (into problem_arrays) (sym (head_given c.args.s.now _ _ _ (at-front c.args.s.now c.in_ok-sizes.ensures c.front.ensures)))
