use mathlib.Core.Path.{refl, ap, ◌∙◌}
use Rattle.std.proofs.Common.{arith, get_or, drop}
use Rattle.std.proofs.lemmas.List.{get_or-take, get_or-drop}
use Rattle.rules.specs.Sizes.{most_rows, most_length}
use Rattle.polynomial.specs.Coefficients.{most_power}
use Rattle.convolution.proofs.unpadded.Goals as goal

pub returns : goal.returns
unfolding most_power most_rows most_length
returns c =
    let l = c.args.l.now in
    record {
      long = c.copy_from_slice.ensures.len;
      same = λ k h.
          ap (λ x. get_or x k 0) c.copy_from_slice.ensures.after
          ∙ get_or-take 65 (drop 2 l) k 0 h
          ∙ get_or-drop 2 l k 0
          ∙ ap (λ i. get_or l i 0) (omega arith);
      counts = refl;
    }
