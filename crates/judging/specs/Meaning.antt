-- What an answer to a prepared problem gets, in the words of the rules.
use Rattle.std.specs.Prelude.{ℕ, Result, Ok, Err}
use Rattle.rules.specs.Prepared.{PreparedVerdict, not_given, judged}
use Rattle.verdict.specs.declared.Fault.{Fault}
use Rattle.verdict.specs.Meant.{meant}
use Rattle.judging.specs.declared.NotGiven.{NotGiven}

abbrev pub prepared_meant : Result (Result ℕ Fault) NotGiven → PreparedVerdict
prepared_meant (Ok v) = judged (meant v)
prepared_meant (Err e) = not_given
