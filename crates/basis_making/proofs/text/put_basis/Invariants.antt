use Prim.Native.Nat.{◌*◌}
use Rattle.rules.specs.Writer.{write_each, write_PE}
use Rattle.basis_making.specs.Text.{entry_room, row, Put}
use Rattle.basis_making.proofs.text.put_basis.Given as goal

abbrev pub invariant-loop-i : goal.invariant-loop-i
invariant-loop-i l = Put (λ i. write_each (write_PE i) 0) (row l.basis l.m) (l.m * entry_room) 0 l.initial.out l.out l.end l.i
