use Rattle.std.proofs.Common.{sym, ap, ◌∙◌}
use Rattle.rules.specs.MakeBasis.{basis_numbers}
use Rattle.basis_making.specs.Meant.{basis_meant, numbers_stopped}
use Rattle.basis_making.proofs.basis_numbers.Goals as goal

pub returns-in-Ok : goal.returns-in-Ok
unfolding basis_numbers
returns-in-Ok c = sym (ap (λ v. basis_numbers (basis_meant v)) c.in-Ok.is)

pub returns-in-Err : goal.returns-in-Err
returns-in-Err c = c.reply_numbers.ensures ∙ numbers_stopped c.in-Err.reason ∙ sym (ap (λ v. basis_numbers (basis_meant v)) c.in-Err.is)
