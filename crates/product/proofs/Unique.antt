-- Each public function's contract leaves one result.
use mathlib.Core.Path.{refl, sym, ◌∙◌}
use Rattle.unique.specs.OneResult.{OneResult}
use Rattle.product.proofs.fault.order_coefficient.Kinds as order_coefficient_kinds
use Rattle.product.proofs.fault.order_coefficient.Reads as order_coefficient
use Rattle.product.proofs.fault.first_low_fault.Kinds as first_low_fault_kinds
use Rattle.product.proofs.fault.first_low_fault.Reads as first_low_fault
use Rattle.product.proofs.fault.first_order_fault.Kinds as first_order_fault_kinds
use Rattle.product.proofs.fault.first_order_fault.Reads as first_order_fault

pub order_coefficient_unique : OneResult order_coefficient_kinds.ps order_coefficient_kinds.r order_coefficient.Asked order_coefficient.Learnt
order_coefficient_unique κs a z z' w w' asked h h' = (h ∙ sym h', refl)

pub first_low_fault_unique : OneResult first_low_fault_kinds.ps first_low_fault_kinds.r first_low_fault.Asked first_low_fault.Learnt
first_low_fault_unique κs a z z' w w' asked h h' = (h ∙ sym h', refl)

pub first_order_fault_unique : OneResult first_order_fault_kinds.ps first_order_fault_kinds.r first_order_fault.Asked first_order_fault.Learnt
first_order_fault_unique κs a z z' w w' asked h h' = (h ∙ sym h', refl)
