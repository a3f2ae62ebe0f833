-- What is settled of an answer to a form.
--   judges_same              two that are given for the same form and answer are equal
--   prepared_meant_unique    the code's are settled by what they mean
use Rattle.std.specs.Prelude.{◌≡◌, refl, List, ℕ, Result, Ok, Err}
use Rattle.std.proofs.Common.{sym, ap, ◌∙◌}
use Rattle.rules.specs.Prepared.{PreparedVerdict, not_given, judged, Judges}
use Rattle.verdict.specs.declared.Fault.{Fault}
use Rattle.verdict.specs.Meant.{meant, meant_injective}
use Rattle.claim.specs.declared.Head.{Head}
use Rattle.prepared.specs.Form.{form_of}
use Rattle.judging.specs.declared.NotGiven.{NotGiven}
use Rattle.judging.specs.Meaning.{prepared_meant}
use Rattle.judging.specs.Steps.{any_file}

pub judges_same : (head : Head) (f t : List ℕ) (v w : PreparedVerdict) → Judges (form_of head f) t v → Judges (form_of head f) t w → v ≡ w
judges_same head f t not_given not_given h h' = refl
judges_same head f t not_given (judged w) h (s, g, e) = absurd (h (s, g))
judges_same head f t (judged v) not_given (s, g, e) h = absurd (h (s, g))
judges_same head f t (judged v) (judged w) (s, g, e) (s', g', e') = ap judged (e ∙ any_file s s' t head f g g' ∙ sym e')

pub prepared_meant_unique : (r r' : Result (Result ℕ Fault) NotGiven) → prepared_meant r ≡ prepared_meant r' → r ≡ r'
prepared_meant_unique (Err x) (Err y) e = refl
prepared_meant_unique (Err x) (Ok w) e = cc
prepared_meant_unique (Ok v) (Err y) e = cc
prepared_meant_unique (Ok v) (Ok w) e = let same : meant v ≡ meant w = cc in ap Ok (meant_injective v w same)
