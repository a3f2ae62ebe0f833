-- Each public function's contract leaves one result.
use mathlib.Core.Path.{refl, sym, ◌∙◌}
use Rattle.unique.specs.OneResult.{OneResult}
use Rattle.place.specs.Places.{taken_one}
use Rattle.cursor.proofs.read_mark.Kinds as read_mark_kinds
use Rattle.cursor.proofs.read_mark.Reads as read_mark
use Rattle.cursor.proofs.read_size.Kinds as read_size_kinds
use Rattle.cursor.proofs.read_size.Reads as read_size
use Rattle.cursor.proofs.read_count.Kinds as read_count_kinds
use Rattle.cursor.proofs.read_count.Reads as read_count
use Rattle.cursor.proofs.read_due.Kinds as read_due_kinds
use Rattle.cursor.proofs.read_due.Reads as read_due
use Rattle.cursor.proofs.read_shift.Kinds as read_shift_kinds
use Rattle.cursor.proofs.read_shift.Reads as read_shift
use Rattle.cursor.proofs.read_coefficient.Kinds as read_coefficient_kinds
use Rattle.cursor.proofs.read_coefficient.Reads as read_coefficient
use Rattle.cursor.proofs.read_prime.Kinds as read_prime_kinds
use Rattle.cursor.proofs.read_prime.Reads as read_prime
use Rattle.cursor.proofs.signed16.Kinds as signed16_kinds
use Rattle.cursor.proofs.signed16.Reads as signed16

pub read_mark_unique : OneResult read_mark_kinds.ps read_mark_kinds.r read_mark.Asked read_mark.Learnt
read_mark_unique κs a z z' w w' asked h h' = (taken_one z z' (h ∙ sym h'), refl)

pub read_size_unique : OneResult read_size_kinds.ps read_size_kinds.r read_size.Asked read_size.Learnt
read_size_unique κs a z z' w w' asked h h' = (taken_one z z' (h ∙ sym h'), refl)

pub read_count_unique : OneResult read_count_kinds.ps read_count_kinds.r read_count.Asked read_count.Learnt
read_count_unique κs a z z' w w' asked h h' = (taken_one z z' (h ∙ sym h'), refl)

pub read_due_unique : OneResult read_due_kinds.ps read_due_kinds.r read_due.Asked read_due.Learnt
read_due_unique κs a z z' w w' asked h h' = (taken_one z z' (h ∙ sym h'), refl)

pub read_shift_unique : OneResult read_shift_kinds.ps read_shift_kinds.r read_shift.Asked read_shift.Learnt
read_shift_unique κs a z z' w w' asked h h' = (taken_one z z' (h ∙ sym h'), refl)

pub read_coefficient_unique : OneResult read_coefficient_kinds.ps read_coefficient_kinds.r read_coefficient.Asked read_coefficient.Learnt
read_coefficient_unique κs a z z' w w' asked h h' = (taken_one z z' (h ∙ sym h'), refl)

pub read_prime_unique : OneResult read_prime_kinds.ps read_prime_kinds.r read_prime.Asked read_prime.Learnt
read_prime_unique κs a z z' w w' asked h h' = (taken_one z z' (h ∙ sym h'), refl)

pub signed16_unique : OneResult signed16_kinds.ps signed16_kinds.r signed16.Asked signed16.Learnt
signed16_unique κs a z z' w w' asked h h' = (h ∙ sym h', refl)
