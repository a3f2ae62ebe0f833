use mathlib.Core.Path.{subst}
use lib.ListN.{get_or}
use mathlib.Core.List.{List}
use Prim.Native.Nat.{ℕ, ◌≤◌}
use Rattle.algebra.specs.Residue.{K}
use Rattle.algebra.proofs.Series.{Series}
use Rattle.algebra.specs.Det.{det}
use Rattle.rules.specs.Sizes.{most_rows}
use Rattle.layout.specs.Flat.{cells}
use Rattle.convolution.specs.Padded.{StandsFor}
use Rattle.determinant.specs.Square.{Determinant}
use Rattle.determinant.specs.Expansion.{InOrder, whole_square}
use Rattle.convolution.specs.Unpadded.{work_zeros, unpadded_coefficients}
use Rattle.determinant.proofs.determinant_of.Goals as goal

-- The array stands for the determinant of the matrix.
whole : (p m : ℕ) (entries tops columns l : List ℕ) → m ≤ most_rows → InOrder columns → Determinant p m 0 entries tops columns l
    → StandsFor p (get_or tops 0 0) (det (Series (K p)) m (cells p entries)) l
whole p m entries tops columns l few in_order stands =
    subst (λ f. StandsFor p (get_or tops 0 0) f l) (whole_square p m entries columns few in_order) stands

pub length_of-length-requires : goal.length_of-length-requires
length_of-length-requires c = work_zeros (c.row_tops.ensures.high 0) (whole c.args.modulus.p c.args.m c.args.basis.now.entries c.row_tops.result c.all_columns.result c.determinant-l.result c.requires.1.few_rows c.all_columns.ensures c.determinant-l.ensures)

pub returns : goal.returns
returns c =
    unpadded_coefficients (c.row_tops.ensures.high 0)
    (whole c.args.modulus.p c.args.m c.args.basis.now.entries c.row_tops.result c.all_columns.result c.determinant-l.result c.requires.1.few_rows c.all_columns.ensures c.determinant-l.ensures) c.length_of-length.ensures
    c.unpadded.ensures
