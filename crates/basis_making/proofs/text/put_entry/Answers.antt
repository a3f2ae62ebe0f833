use mathlib.Core.Path.{◌≡◌, ap}
use lib.ListN.{get_or}
use Rattle.rules.specs.Writer.{bytes, write_PE}
use Rattle.layout.specs.Flat.{length_at}
use Rattle.basis_making.specs.Text.{put_record}
use Rattle.basis_making.proofs.text.put_entry.Goals as goal

pub returns : goal.returns
unfolding bytes write_PE
returns c =
    let a = c.args in
    let count : get_or a.basis.now.lengths c.square_place.result 0 ≡ length_at a.basis.now.lengths a.i a.j =
    ap (λ k. get_or a.basis.now.lengths k 0) c.square_place.ensures in
    put_record a.basis.now a.i a.j _ count _ _ _ _ _ _ _ _ _ _ _ _ c.put_text-marked.ensures c.put1-row.ensures c.put1-column.ensures c.put1-counted.ensures
    c.put_numbers.ensures
