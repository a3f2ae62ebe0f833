-- Answers that settle a statement, made.
--   settled_yes, settled_no  the two answers
--   settled_by               of a statement that says the same
use Rattle.std.specs.Prelude.{Bool, true, false}
use Rattle.std.proofs.Common.{true≢false}
use Rattle.std.proofs.lemmas.Bool.{false≢true}
use Rattle.layout.specs.Settles.{Settles}

pub settled_yes : {D : Type 0} → D → Settles D true
settled_yes h = record { holds = λ e. h; fails = λ e. absurd (true≢false e) }

pub settled_no : {D : Type 0} → ¬ D → Settles D false
settled_no h = record { holds = λ e. absurd (false≢true e); fails = λ e. h }

pub settled_by : {D E : Type 0} {r : Bool} → (D → E) → (E → D) → Settles D r → Settles E r
settled_by there back s = record { holds = λ e. there (s.holds e); fails = λ e h. s.fails e (back h) }
