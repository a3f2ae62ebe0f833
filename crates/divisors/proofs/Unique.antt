-- Each public function's contract leaves one result.
use Rattle.std.proofs.Common.{refl}
use Rattle.unique.specs.OneResult.{OneResult}
use Rattle.divisors.specs.Found.{found_unique}
use Rattle.divisors.proofs.divisor_among.Kinds as divisor_among_kinds
use Rattle.divisors.proofs.divisor_among.Reads as divisor_among
use Rattle.divisors.proofs.odd_divisor.Kinds as odd_divisor_kinds
use Rattle.divisors.proofs.odd_divisor.Reads as odd_divisor

pub divisor_among_unique : OneResult divisor_among_kinds.ps divisor_among_kinds.r divisor_among.Asked divisor_among.Learnt
divisor_among_unique κs a z z' w w' asked h h' = (found_unique z z' h h', refl)

pub odd_divisor_unique : OneResult odd_divisor_kinds.ps odd_divisor_kinds.r odd_divisor.Asked odd_divisor.Learnt
odd_divisor_unique κs a z z' w w' asked h h' = (found_unique z z' h h', refl)
