-- The contract of `step_rows` leaves one array at the end.
use Rattle.std.proofs.Common.{◌≡◌, refl, sym, ◌∙◌, List, ℕ, get_or, arith}
use Rattle.std.proofs.Math.Logic.{by_cases}
use Rattle.std.proofs.Math.Decide.{ℕ_discrete, dec_lt}
use Rattle.unique.specs.OneResult.{OneResult}
use Rattle.pivots.specs.Rows.{number_of_residue}
use Rattle.stepping.specs.Next.{Next}
use Rattle.stepping.specs.Filled.{RowsBox, Filled, entries_ext}
use Rattle.stepping.proofs.step_rows.Kinds as step_rows_kinds
use Rattle.stepping.proofs.step_rows.Reads as step_rows

-- A coefficient after the step is one number.
next_unique : (p m : ℕ) (old moves factors : List ℕ) (i j t r s : ℕ) → Next p m old moves factors i j t r → Next p m old moves factors i j t s → r ≡ s
next_unique p m old moves factors i j t r s x y = by_cases (ℕ_discrete (get_or moves i 0) 0)
    (λ e. number_of_residue p r s (omega (arith, x.below)) x.below y.below (x.combined e ∙ sym (y.combined e)))
    (λ ne. x.shifted ne ∙ sym (y.shifted ne))

-- It can be told whether a coefficient is in the box.
rows_box_decides : (m columns from to i j t : ℕ) → Dec (RowsBox m columns from to i j t)
rows_box_decides m columns from to i j t = elim (dec_lt i m) [
  | no n ↦ no (λ b. n b.row_to)
  | yes hi ↦ elim (dec_lt j columns) [
    | no n ↦ no (λ b. n b.column_to)
    | yes hj ↦ elim (dec_lt t to) [
      | no n ↦ no (λ b. n b.power_to)
      | yes ht ↦ elim (dec_lt t from) [
        | yes l ↦ no (λ b. absurd (omega (arith, b.power_from)))
        | no n ↦ yes (record { row_from = omega arith; row_to = hi; column_from = omega arith; column_to = hj; power_from = omega arith; power_to = ht })
      ]
    ]
  ]
]

filled_unique : (p m : ℕ) (old moves factors : List ℕ) (columns from to : ℕ) (before x y : List ℕ)
    → Filled p (Next p m old moves factors) (RowsBox m columns from to) before x → Filled p (Next p m old moves factors) (RowsBox m columns from to) before y → x ≡ y
filled_unique p m old moves factors columns from to before x y hx hy =
    entries_ext x y hx.kept.full hy.kept.full (λ i j t hi hj ht. elim (rows_box_decides m columns from to i j t) [
      | yes b ↦ next_unique p m old moves factors i j t _ _ (hx.filled i j t hi hj ht b) (hy.filled i j t hi hj ht b)
      | no nb ↦ hx.stays i j t hi hj ht nb ∙ sym (hy.stays i j t hi hj ht nb)
    ])

pub step_rows_unique : OneResult step_rows_kinds.ps step_rows_kinds.r step_rows.Asked step_rows.Learnt
step_rows_unique κs a z z' w w' asked h h' =
    let e = filled_unique _ _ _ _ _ _ _ _ _ _ _ h h' in
    (refl, λ i. (e i, (tt, (tt, (tt, (tt, (tt, tt)))))))
