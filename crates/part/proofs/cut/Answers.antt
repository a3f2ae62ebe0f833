use Rattle.std.proofs.Common.{ap, ◌∙◌, List, ℕ, ◌+◌, eqb, take, drop, arith}
use Rattle.rules.specs.Part.{part_bytes}
use Rattle.part.specs.Steps.{chosen}
use Rattle.part.proofs.cut.Goals as goal

pub returns : goal.returns
unfolding part_bytes
returns c =
    let x = c.args.x in
    let (place, bytes) = c.file_numbered.ensures in
    record {
      bytes = ap (λ (n : ℕ). take n (drop x.start c.file_numbered.result.now)) (omega arith)
          ∙ ap (λ (l : List ℕ). take x.size (drop x.start l)) (bytes ∙ chosen (eqb x.file 0) c.args.problem c.args.answer);
      where_it_is = ap (λ p. (p.0, x.start + p.1)) place;
    }
