-- The public function's contract leaves one result.
use mathlib.Core.Path.{refl, sym, ◌∙◌}
use Rattle.unique.specs.OneResult.{OneResult}
use Rattle.primality.proofs.is_prime.Kinds as is_prime_kinds
use Rattle.primality.proofs.is_prime.Reads as is_prime

pub is_prime_unique : OneResult is_prime_kinds.ps is_prime_kinds.r is_prime.Asked is_prime.Learnt
is_prime_unique κs a z z' w w' asked h h' = (h ∙ sym h', refl)
