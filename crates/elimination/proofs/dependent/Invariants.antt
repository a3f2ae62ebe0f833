use Rattle.elimination.specs.Grid.{Left}
use Rattle.elimination.proofs.dependent.Given as goal

abbrev pub invariant-loop-c : goal.invariant-loop-c
invariant-loop-c l = Left l.p l.initial.b l.m l.n l.r l.c l.b
