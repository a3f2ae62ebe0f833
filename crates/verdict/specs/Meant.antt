-- What a verdict of the code means in the words of document 01.
--   refusal_of, meant        a refusal of reading, and a verdict: meant_injective
--   meant_unread             what `?` makes of a refusal of reading
--   four_of                  the four numbers: four_of_injective
use Rattle.std.specs.Prelude.{◌≡◌, refl, ℕ, Result, Ok, Err, IsErrAnd}
use Rattle.std.proofs.Common.{sym, ap, ◌∙◌}
use Rattle.std.proofs.lemmas.Result.{err_from_is_err_and}
use Rattle.rules.specs.Reader.{Refusal as RefusalOf}
use Rattle.rules.specs.Verdict.{Verdict as VerdictOf, Numbers, passed, unread, not_reduced, not_monomial, below_order, at_order, low_rank}
use Rattle.verdict.specs.declared.Refusal.{Refusal}
use Rattle.verdict.specs.declared.Four.{Four}
use Rattle.verdict.specs.declared.Fault.{Fault}
use Rattle.verdict.specs.declared.Fault.TheVariants.{Unread, NotReduced, NotMonomial, BelowOrder, AtOrder, LowRank}

abbrev pub refusal_of : Refusal → RefusalOf
refusal_of r = record { code = r.code; place = record { file = r.file; number = r.number; start = r.start; at = r.at } }

abbrev pub meant : Result ℕ Fault → VerdictOf
meant (Ok d) = passed d
meant (Err (Unread r)) = unread (refusal_of r)
meant (Err NotReduced) = not_reduced
meant (Err NotMonomial) = not_monomial
meant (Err (BelowOrder i j)) = below_order i j
meant (Err (AtOrder i j)) = at_order i j
meant (Err LowRank) = low_rank

-- The fault that `?` makes of a refusal of reading.
pub meant_unread : (v : Result ℕ Fault) {r : Refusal} → IsErrAnd v (λ e. e ≡ Unread r) → meant v ≡ unread (refusal_of r)
meant_unread v h = let p = err_from_is_err_and v h in ap meant (p.1 ∙ ap (λ e. Err e) p.2)

abbrev pub four_of : Four → Numbers
four_of f = record { code = f.code; file = f.file; number = f.number; at = f.at }

-- What a verdict means settles it.
abbrev pub refusal_for : RefusalOf → Refusal
refusal_for r = record { code = r.code; file = r.place.file; number = r.place.number; at = r.place.at; start = r.place.start }

abbrev verdict_for : VerdictOf → Result ℕ Fault
verdict_for (passed d) = Ok d
verdict_for (unread r) = Err (Unread (refusal_for r))
verdict_for not_reduced = Err NotReduced
verdict_for not_monomial = Err NotMonomial
verdict_for (below_order i j) = Err (BelowOrder i j)
verdict_for (at_order i j) = Err (AtOrder i j)
verdict_for low_rank = Err LowRank

verdict_for_meant : (v : Result ℕ Fault) → verdict_for (meant v) ≡ v
verdict_for_meant (Ok d) = refl
verdict_for_meant (Err (Unread r)) = refl
verdict_for_meant (Err NotReduced) = refl
verdict_for_meant (Err NotMonomial) = refl
verdict_for_meant (Err (BelowOrder i j)) = refl
verdict_for_meant (Err (AtOrder i j)) = refl
verdict_for_meant (Err LowRank) = refl

pub meant_injective : (v w : Result ℕ Fault) → meant v ≡ meant w → v ≡ w
meant_injective v w e = sym (verdict_for_meant v) ∙ ap verdict_for e ∙ verdict_for_meant w

-- So do the four numbers.
abbrev four_for : Numbers → Four
four_for n = record { code = n.code; file = n.file; number = n.number; at = n.at }

pub four_of_injective : (f g : Four) → four_of f ≡ four_of g → f ≡ g
four_of_injective f g e = ap four_for e
