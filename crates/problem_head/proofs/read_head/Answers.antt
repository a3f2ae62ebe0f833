-- `problem_head::read_head` meets its contract. Assumes nothing.
use mathlib.Core.Path.{sym, ap, ◌∙◌}
use native.Mathlib.Omega.{arith}
use Rattle.rules.specs.Sizes.{most_rows}
use Rattle.rules.specs.Files.{PR_mark, PR}
use Rattle.rules.specs.Reader.{Result, got, next}
use Rattle.place.specs.declared.Place.{Place as Spot}
use Rattle.place.specs.Places.{place, error_is}
use Prim.Native.Nat.{ℕ}
use Rattle.storing.specs.Records.{marked, record_refused, record_given, field_number}
use Rattle.problem_head.specs.Head.{headed}
use Rattle.problem_head.proofs.read_head.Goals as goal

pub returns-in_err-q : goal.returns-in_err-q
unfolding PR
returns-in_err-q c = ap headed (error_is c.from_residual.ensures.1) ∙ sym (record_refused _ (marked PR_mark _ c.opened.ensures c.in_err-q.ensures))

pub returns-in_err-p : goal.returns-in_err-p
unfolding PR
returns-in_err-p c =
    ap headed (error_is c.from_residual-in_err-p.ensures.1)
    ∙ sym (record_given _ (marked PR_mark _ c.opened.ensures c.in_ok-q.ensures)
    ∙ record_refused _ c.in_err-p.ensures)

pub returns-in_err-m : goal.returns-in_err-m
unfolding PR most_rows
returns-in_err-m c =
    ap headed (error_is c.from_residual-in_err-m.ensures.1)
    ∙ sym (record_given _ (marked PR_mark _ c.opened.ensures c.in_ok-q.ensures)
    ∙ record_given _ c.in_ok-p.ensures
    ∙ record_refused _ c.in_err-m.ensures)

pub returns-in_err-n : goal.returns-in_err-n
unfolding PR most_rows
returns-in_err-n c =
    ap headed (error_is c.from_residual-in_err-n.ensures.1)
    ∙ sym (record_given _ (marked PR_mark _ c.opened.ensures c.in_ok-q.ensures)
    ∙ record_given _ c.in_ok-p.ensures
    ∙ record_given _ c.in_ok-m.ensures
    ∙ record_refused _ c.in_err-n.ensures)

pub after-requires : goal.after-requires
after-requires c =
    omega (
      arith,
      field_number _ _ _ _ (marked PR_mark _ c.opened.ensures c.in_ok-q.ensures),
      field_number _ _ _ _ c.in_ok-p.ensures,
      field_number _ _ _ _ c.in_ok-m.ensures,
      field_number _ _ _ _ c.in_ok-n.ensures,
    )

pub returns : goal.returns
unfolding PR next most_rows
returns c =
    ap {B = Result (ℕ × ℕ × ℕ)} (λ (q : Spot). got (c.in_ok-p.p, c.in_ok-m.m, c.in_ok-n.n) (place q)) c.after.ensures
    ∙ sym (record_given _ (marked PR_mark _ c.opened.ensures c.in_ok-q.ensures)
    ∙ record_given _ c.in_ok-p.ensures
    ∙ record_given _ c.in_ok-m.ensures
    ∙ record_given _ c.in_ok-n.ensures)
