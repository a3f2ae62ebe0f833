use Rattle.rules.specs.Writer.{write_PE}
use Rattle.basis_making.specs.Text.{entry_room, entry, Put}
use Rattle.basis_making.proofs.text.put_row.Given as goal

abbrev pub invariant-loop-j : goal.invariant-loop-j
invariant-loop-j l = Put (write_PE l.i) (entry l.basis l.i) entry_room l.at l.initial.out l.out l.end l.j
