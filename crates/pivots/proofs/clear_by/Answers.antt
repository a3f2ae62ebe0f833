use Rattle.field.specs.Laws.{answered_of, answered_none}
use Rattle.pivots.proofs.clear_by.Goals as goal

pub returns-in_default : goal.returns-in_default
returns-in_default c =
    let place = c.square_place.ensures in
    absurd (c.requires.i_nonzero.1 (rw place at (answered_none _ c.requires.prime _ (c.requires.each.0 _) _ c.inverse_mod.ensures c.in_default.is)))

pub returns : goal.returns
returns c =
    let place = c.square_place.ensures in
    record {
      v = _;
      inverse = rw place at (answered_of _ c.requires.prime _ _ _ c.inverse_mod.ensures c.in-Some.is);
      cleared = c.clear.ensures;
    }
