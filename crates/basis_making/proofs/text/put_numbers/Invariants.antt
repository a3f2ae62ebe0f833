use Rattle.rules.specs.Writer.{bytes}
use Rattle.stepping.specs.Next.{coefficient_at}
use Rattle.basis_making.specs.Text.{Put}
use Rattle.basis_making.proofs.text.put_numbers.Given as goal

abbrev pub invariant-loop-t : goal.invariant-loop-t
invariant-loop-t l = Put (λ k. bytes 4) (λ t. coefficient_at l.basis.entries l.i l.j t) 4 l.at l.initial.out l.out l.end l.t
