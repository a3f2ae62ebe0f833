use mathlib.Core.Path.{ap, ◌∙◌}
use Rattle.rules.specs.Verdict.{packed}
use Rattle.judging.specs.Meaning.{prepared_meant}
use Rattle.board.proofs.judge_prepared.Goals as goal

pub returns : goal.returns
returns c =
    let judged = c.judge_prepared in
    record {
      verdict = prepared_meant judged.result;
      judges = judged.ensures;
      number = c.pack.ensures ∙ ap packed c.prepared_numbers.ensures;
    }
