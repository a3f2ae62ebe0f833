-- `field::inverse_mod` meets its contract: 0 has no inverse, and what inverts any other number is its inverse. Assumes nothing.
use mathlib.Core.Path.{sym, ◌∙◌}
use native.Mathlib.Nat.{mod-eq_of_lt}
use Rattle.laws.specs.InverseLaws.{inverse_none_iff, inverse_some_iff}
use Rattle.field.proofs.inverse_mod.Goals as goal

pub returns-in-0 : goal.returns-in-0
returns-in-0 c = sym ((inverse_none_iff c.args.p c.requires.prime c.args.a).1 (mod-eq_of_lt c.requires.a_lt_p ∙ c.in-0.is))

pub returns-in_default : goal.returns-in_default
returns-in_default c = sym ((inverse_some_iff _ c.requires.prime _ _).1 c.inverse_of.ensures)
