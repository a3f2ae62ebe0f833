use Rattle.std.proofs.Common.{sym, ◌∙◌, arith}
use Rattle.part.specs.Steps.{span_code, span_column, span_column_part, span_start, span_rest, span_front}
use Rattle.part.proofs.span.Goals as goal

pub column_record-requires : goal.column_record-requires
column_record-requires c = span_column c.args.problem.now c.args.answer.now c.requires c.numbers-found.ensures c.in-11.is

pub evidence_record-requires : goal.evidence_record-requires
evidence_record-requires c = sym (span_code c.args.problem.now c.args.answer.now c.requires c.numbers-found.ensures) ∙ c.in-12.is

pub rest_of_file-requires : goal.rest_of_file-requires
rest_of_file-requires c =
    span_start c.args.problem.now c.args.answer.now c.requires c.numbers-found.ensures (omega arith) (omega arith) c.record_start.ensures

pub returns-in-11 : goal.returns-in-11
returns-in-11 c = span_column_part c.args.problem.now c.args.answer.now c.requires c.numbers-found.ensures c.in-11.is _ c.column_record.ensures

pub returns-in-1-to-8 : goal.returns-in-1-to-8
returns-in-1-to-8 c =
    c.rest_of_file.ensures
    ∙ span_rest c.args.problem.now c.args.answer.now c.requires c.numbers-found.ensures (omega arith) (omega arith) c.record_start.ensures

pub returns-in_default : goal.returns-in_default
returns-in_default c =
    span_front c.args.problem.now c.args.answer.now c.requires c.numbers-found.ensures (λ h. omega (arith, h.0, h.1)) (omega arith) (omega arith)

pub returns-in_default-2 : goal.returns-in_default-2
returns-in_default-2 c =
    span_front c.args.problem.now c.args.answer.now c.requires c.numbers-found.ensures (λ h. omega (arith, h.0, h.1)) (omega arith) (omega arith)
