use Rattle.std.proofs.Common.{arith}
use Rattle.rules.specs.Sizes.{most_rows}
use Rattle.laws.specs.WriterLaws.{rectangle_most}
use Rattle.reader.specs.Readings.{problem_read, problem_head}
use Rattle.part.specs.Steps.{is_handed, was_read, evidence_read, evidence_found, evidence_within}
use Rattle.part.proofs.evidence_record.Goals as goal

pub unwrap-read-requires : goal.unwrap-read-requires
unwrap-read-requires c = is_handed c.args.problem.now (evidence_read c.args.problem.now c.args.answer.now c.requires).2 c.read_problem.ensures

pub overflow_mul-size : goal.overflow_mul-size
unfolding most_rows
overflow_mul-size c =
    let s = c.args.problem.now in
    let head = problem_head s (was_read s c.read_problem.ensures c.unwrap-read.ensures) in
    omega (arith, head.rows_most)

pub overflow_mul-size-2 : goal.overflow_mul-size-2
unfolding most_rows
overflow_mul-size-2 c =
    let s = c.args.problem.now in
    let head = problem_head s (was_read s c.read_problem.ensures c.unwrap-read.ensures) in
    omega (arith, rectangle_most head.rows_most head.columns_most)

pub overflow_add-size : goal.overflow_add-size
unfolding most_rows
overflow_add-size c =
    let s = c.args.problem.now in
    let head = problem_head s (was_read s c.read_problem.ensures c.unwrap-read.ensures) in
    omega (arith, rectangle_most head.rows_most head.columns_most)

pub overflow_sub-result : goal.overflow_sub-result
overflow_sub-result c =
    let s = c.args.problem.now in
    let read = problem_read s (was_read s c.read_problem.ensures c.unwrap-read.ensures) in
    evidence_within s c.args.answer.now c.unwrap-read.result read c.requires

pub returns : goal.returns
returns c =
    let s = c.args.problem.now in
    let read = problem_read s (was_read s c.read_problem.ensures c.unwrap-read.ensures) in
    evidence_found s c.args.answer.now c.unwrap-read.result read c.requires
