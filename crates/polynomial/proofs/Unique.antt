-- Each public function's contract leaves one result.
use mathlib.Core.Path.{refl}
use Rattle.unique.specs.OneResult.{OneResult}
use Rattle.polynomial.specs.Count.{tests_unique}
use Rattle.polynomial.proofs.is_monomial.Kinds as is_monomial_kinds
use Rattle.polynomial.proofs.is_monomial.Reads as is_monomial

pub is_monomial_unique : OneResult is_monomial_kinds.ps is_monomial_kinds.r is_monomial.Asked is_monomial.Learnt
is_monomial_unique κs a z z' w w' asked h h' = (tests_unique a.0.coefficients z z' h h', refl)
