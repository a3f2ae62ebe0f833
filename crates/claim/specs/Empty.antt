-- The structs of a claim in which nothing stands: every number is 0.
--   empty_head, empty_problem, empty_answer
use Rattle.std.specs.Prelude.{pos}
use Rattle.rules.specs.Sizes.{most_rows}
use Rattle.layout.specs.Flat.{filled, square, entry_coefficients, column_coefficients}
use Rattle.claim.specs.declared.Head.{Head}
use Rattle.claim.specs.declared.Problem.{Problem}
use Rattle.claim.specs.declared.Answer.{Answer}

abbrev pub empty_head : Head
empty_head = record { p = 0; m = 0; n = 0; orders = filled most_rows 0; shifts = filled most_rows (pos 0) }

abbrev pub empty_problem : Problem
empty_problem = record { head = empty_head; f = filled column_coefficients 0 }

abbrev pub empty_answer : Answer
empty_answer = record { basis = record { lengths = filled square 0; entries = filled entry_coefficients 0 }; c = filled square 0 }
