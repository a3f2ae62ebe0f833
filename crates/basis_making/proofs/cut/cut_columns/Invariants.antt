use Rattle.layout.specs.Flat.{column_coefficients}
use Rattle.basis_making.specs.Cut.{cut_number, Cutting}
use Rattle.basis_making.proofs.cut.cut_columns.Given as goal

abbrev pub invariant-loop-place : goal.invariant-loop-place
invariant-loop-place l = Cutting column_coefficients (cut_number l.f l.done) l.f l.place l.cut
