use Rattle.std.proofs.Common.{◌≡◌, refl, sym, ◌∙◌, ap₂, List, ℕ, ◌+◌, ◌≤◌, length, Bool, true, leb, leb-true, leb-false}
use Rattle.rules.specs.Reader.{Place, got}
use Rattle.laws.specs.ReaderLaws.{field_short, field_passed}
use Rattle.number.proofs.read_number.Goals as goal

pub returns-then-not-whole : goal.returns-then-not-whole
returns-then-not-whole c = sym (field_short _ _ _ _ (leb-false _ _ (sym c.whole.ensures ∙ c.if-not-whole.true)))

-- Past the branch the field is wholly there.
there : {b : Bool} (s : List ℕ) (at k : ℕ) → b ≡ leb (at + k) (length s) → b ≡ true → at + k ≤ length s
there s at k e t = leb-true _ _ (sym e ∙ t)

pub returns : goal.returns
returns c =
    ap₂ (λ (v : ℕ) (p : Place). got v p) c.joined.ensures c.past.ensures
    ∙ sym (field_passed _ _ _ _ (there _ _ _ c.whole.ensures c.if-not-whole.false) refl)
