-- A contract leaves one result: of two runs of a function on the same arguments that satisfy its contract, the results are equal, and so is
-- all that was lent by `&mut`, at the end. It is stated of the contract itself: ps and r are the function's `Kinds`, asked and learnt what its
-- `Reads` say of its `requires` and `ensures`.
--   OneResultBy same         the results are the same in the sense of `same`
--   OneResult                they are equal
--   SameReference            two references that are handed back: they point at one place, and the same stands there
use Rattle.std.specs.Prelude.{◌≡◌, List, ℕ}
use borrow.Fn.Kinds.{ParamKind, ResultKind, In, Out, Dens, res_t, ended_of}
use contract.Lifetimes.{Lfts}
use Rattle.std.specs.Borrow.{Bor}
use denote.Triple.Clauses.{Lasts, at_exit}

module _ {n : ℕ} (ps : List (ParamKind n)) (r : ResultKind n) (asked : In n ps) (learnt : Out n ps r) where
  -- κs: the lifetimes; a: the arguments; z and z': the results; w and w': the last values of what was lent by `&mut`.
  abbrev pub OneResultBy : ((κs : Lfts n) → (res_t r κs).Denot → (res_t r κs).Denot → Type 0) → Type 0
  OneResultBy same = (κs : Lfts n) (a : Dens κs ps) (z z' : (res_t r κs).Denot) (w w' : Lasts (ended_of n ps r) κs a)
      → asked κs a
      → learnt κs a z (at_exit (ended_of n ps r) κs a w)
      → learnt κs a z' (at_exit (ended_of n ps r) κs a w')
      → same κs z z' × (w ≡ w')

  abbrev pub OneResult : Type 0
  OneResult = OneResultBy (λ κs z z'. z ≡ z')

-- What a program can see of a reference. The logic's own name for the loan stays free.
abbrev pub SameReference : {X : Type 0} → Bor X → Bor X → Type 0
SameReference r r' = (r.ref_ptr ≡ r'.ref_ptr) × (r.now ≡ r'.now)
