use Rattle.std.proofs.Common.{arith}
use Rattle.rules.specs.Sizes.{most_rows}
use Rattle.reader.specs.Readings.{problem_read, problem_head}
use Rattle.part.specs.Steps.{is_handed, was_read, rows_small, columns_small, column_below, column_found}
use Rattle.part.proofs.column_record.Goals as goal

pub unwrap-read-requires : goal.unwrap-read-requires
unwrap-read-requires c = is_handed c.args.problem.now c.requires.2 c.read_problem.ensures

pub column_start-start-requires : goal.column_start-start-requires
column_start-start-requires c =
    let s = c.args.problem.now in
    let read = was_read s c.read_problem.ensures c.unwrap-read.ensures in
    let few = columns_small s c.unwrap-read.result (problem_read s read) in
    let below = column_below s c.unwrap-read.result (problem_read s read) c.args.j c.requires in
    record {
      m_le_most_rows = (rows_small s c.unwrap-read.result (problem_read s read), (few, omega arith));
      ordered = (problem_head s read).orders_most;
    }

pub offset_bounds-head-j : goal.offset_bounds-head-j
unfolding most_rows
offset_bounds-head-j c =
    let s = c.args.problem.now in
    let read = was_read s c.read_problem.ensures c.unwrap-read.ensures in
    omega (arith, columns_small s c.unwrap-read.result (problem_read s read), column_below s c.unwrap-read.result (problem_read s read) c.args.j c.requires)

pub bounds-head-j : goal.bounds-head-j
unfolding most_rows
bounds-head-j c =
    let s = c.args.problem.now in
    let read = was_read s c.read_problem.ensures c.unwrap-read.ensures in
    omega (arith, columns_small s c.unwrap-read.result (problem_read s read), column_below s c.unwrap-read.result (problem_read s read) c.args.j c.requires)

pub column_bytes-size-requires : goal.column_bytes-size-requires
column_bytes-size-requires c =
    let s = c.args.problem.now in
    let head = problem_head s (was_read s c.read_problem.ensures c.unwrap-read.ensures) in
    (head.rows_most, head.orders_most c.args.j)

pub returns : goal.returns
returns c =
    let s = c.args.problem.now in
    let read = problem_read s (was_read s c.read_problem.ensures c.unwrap-read.ensures) in
    column_found s c.unwrap-read.result read c.args.j _ _ (column_below s c.unwrap-read.result read c.args.j c.requires) c.column_start-start.ensures
    c.column_bytes-size.ensures.value
